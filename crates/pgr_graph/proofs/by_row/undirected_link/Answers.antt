use Rattle.std.proofs.Common.{◌≡◌, ◌≢◌, arith, rules, w64}
use Rattle.std.proofs.lemmas.Int.{to_z-of_z}
use mir.Val.{SFits}
use Rattle.pgr_graph.proofs.RowSlots.{loop-slot, third-slot, fourth-slot}
use Rattle.pgr_graph.proofs.by_row.undirected_link.Goals as goal

pub returns-then-row : goal.returns-then-row
returns-then-row c =
    let same : c.args.row.source ≡ c.args.row.target = search rules in
    loop-slot c.args.row c.args.slot same c.if-slot-eq0.false c.if-slot-eq1.false c.requires

pub returns-then-slot-eq2 : goal.returns-then-slot-eq2
returns-then-slot-eq2 c =
    let cost_fits : SFits w64 c.args.row.cost = search rules in
    let apart : c.args.row.source ≢ c.args.row.target = search rules in
    third-slot c.args.row c.args.slot _ apart c.if-slot-eq2.true (simp to_z-of_z at c.link_of_sense-then-slot-eq2.ensures)

pub returns : goal.returns
returns c =
    let apart : c.args.row.source ≢ c.args.row.target = search rules in
    fourth-slot c.args.row c.args.slot _ apart (omega arith) c.second_along-2.ensures
