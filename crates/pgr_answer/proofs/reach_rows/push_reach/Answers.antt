-- The row of each vertex is put behind the rows so far.
use Rattle.std.proofs.Common.{◌≡◌, ◌∙◌, ◌<◌, ap, map, take, rules, w64, length}
use Rattle.std.specs.Prelude.{vec_len}
use Rattle.std.proofs.lemmas.Int.{to_z-of_z}
use Rattle.std.proofs.lemmas.List.{take_all}
use Rattle.std.proofs.lemmas.List.Elements.{Contains-get_or}
use mir.Val.{SFits}
use Rattle.pgr_answer.specs.DrivingDistance.{reach_row}
use Rattle.pgr_answer.specs.Rooted.{named_row}
use Rattle.pgr_answer.proofs.ReachTables.{with_rows, row_more}
use Rattle.pgr_answer.proofs.reach_rows.push_reach.Goals as goal

pub loop-row-preserved : goal.loop-row-preserved
loop-row-preserved c =
    let inside : c.loop-row.row-index < length c.args.reach.now.rows.items = rw c.as_slice-row-items.ensures.value at c.loop-row-test.true in
    let len : vec_len c.loop-row.rows ≡ length c.loop-row.rows.items = c.loop-row.rows.ok.0 in
    row_more _ _ _ c.args.reach.now.rows.items c.loop-row.row-index _ _ _ c.len.result c.row_of_reached.result inside c.loop-row.invariant (c.len.ensures ∙ len)
    (rw c.as_slice-row-items.ensures.value at c.row_of_reached.ensures) c.in_ok-push.ensures.items

pub row_of_reached-requires : goal.row_of_reached-requires
row_of_reached-requires c =
    let inside : c.loop-row.row-index < length c.args.reach.now.rows.items = rw c.as_slice-row-items.ensures.value at c.loop-row-test.true in
    rw c.as_slice-row-items.ensures.value (c.requires.1 _ (Contains-get_or c.args.reach.now.rows.items c.loop-row.row-index _ inside))

pub returns : goal.returns
returns c =
    let root : SFits w64 c.name-root.result = search rules in
    let rows = c.args.reach.now.rows.items in
    let names = c.args.names.now in
    let so_far : c.loop-row.rows.items ≡ with_rows c.args.rows.now.items (map (reach_row c.name-root.result) (map (named_row names) (take c.loop-row.row-index rows))) =
    simp to_z-of_z at c.loop-row.invariant in
    so_far
    ∙ ap (λ rs. with_rows c.args.rows.now.items (map (reach_row c.name-root.result) (map (named_row names) rs)))
    (take_all c.loop-row.row-index rows (rw c.as_slice-row-items.ensures.value at c.loop-row-test.false))
    ∙ ap (λ start. with_rows c.args.rows.now.items (map (reach_row start) (map (named_row names) rows))) c.name-root.ensures.id
