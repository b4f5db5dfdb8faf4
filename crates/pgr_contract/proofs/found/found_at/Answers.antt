use Rattle.std.proofs.Common.{rules, w64}
use Rattle.std.proofs.lemmas.Int.{to_z-of_z}
use mir.Val.{SFits}
use Rattle.pgr_contract.proofs.WayEvents.{alone_not}
use Rattle.pgr_contract.proofs.found.found_at.Goals as goal

pub returns-in_default : goal.returns-in_default
returns-in_default c = λ links holds.
    let v = c.ranges.v in
    let alone = simp to_z-of_z at c.in_default.ensures in
    alone_not links c.args.ways.now holds c.args.v c.args.method alone

pub dead_end_at-requires : goal.dead_end_at-requires
dead_end_at-requires c =
    let v = c.ranges.v in
    let first : SFits w64 c.in-Some.first = search rules in
    simp to_z-of_z (record { first = simp to_z-of_z at c.in-Some.ensures })

pub linear_at-requires-clause-first : goal.linear_at-requires-clause-first
linear_at-requires-clause-first c =
    let v = c.ranges.v in
    let first : SFits w64 c.in-Some.first = search rules in
    simp to_z-of_z (simp to_z-of_z at c.in-Some.ensures)
