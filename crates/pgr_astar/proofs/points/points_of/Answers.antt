use Rattle.std.proofs.Common.{◌≡◌, rules, arith, [], take, replicate, None, ap, sym, subst}
use Rattle.std.proofs.lemmas.Grind.{common_steps}
use Rattle.std.proofs.lemmas.List.{take_more, take_all}
use Rattle.std.proofs.lemmas.Option.{get_or_from_slice_get}
use Rattle.std.proofs.lemmas.List.Elements.{All-take}
use Rattle.pgr_astar.specs.Pointing.{ArePoints}
use Rattle.pgr_astar.proofs.PointLemmas.{points_none, points_more, row_placed, one_row_more}
use Rattle.pgr_astar.proofs.points.points_of.Goals as goal

pub loop-i-init : goal.loop-i-init
loop-i-init c =
    let none : c.in_ok-points.points.items ≡ replicate c.len.result None = first_of (search rules, grind (arith, common_steps)) in
    subst (λ points. ArePoints [] c.args.names.now points) (sym none) (points_none c.args.names.now c.len.result c.len.ensures.len)

pub note_row-requires-clause-place : goal.note_row-requires-clause-place
note_row-requires-clause-place c = row_placed c.args.table.now c.loop-i.i c.row-row.result c.requires c.row-row.ensures (omega (arith, c.len-i-end.ensures.len, c.loop-i-test.true))

pub loop-i-preserved : goal.loop-i-preserved
loop-i-preserved c =
    one_row_more c.args.table.now c.args.names.now c.loop-i.i c.row-row.result _ _ c.requires c.row-row.ensures
    (omega (arith, c.len-i-end.ensures.len, c.loop-i-test.true)) c.loop-i.invariant c.note_row.ensures.size c.note_row.ensures.notes

pub returns : goal.returns
returns c = subst (λ rows. ArePoints rows c.args.names.now c.loop-i.points.items)
    (take_all c.loop-i.i c.args.table.now (omega (arith, c.len-i-end.ensures.len, c.loop-i-test.false))) c.loop-i.invariant
