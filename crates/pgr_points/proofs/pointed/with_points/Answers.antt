use Rattle.std.proofs.Common.{◌≡◌, List, ◌++◌, take, sym, ap, subst, ◌∙◌, arith}
use Rattle.std.specs.List.{All}
use Rattle.std.proofs.lemmas.List.{take_all}
use Rattle.std.proofs.lemmas.List.Filters.{dedup_is}
use Rattle.std.proofs.lemmas.List.Sorted.{All-permutation}
use Rattle.pgr_table.specs.declared.row.PointRow.{PointRow}
use Rattle.pgr_table.specs.Points.{IsPoint}
use Rattle.pgr_graph.proofs.TableLinks.{parts_tie, links_rise}
use Rattle.pgr_points.specs.Senses.{points_of, parts_of_row}
use Rattle.pgr_points.proofs.TableLemmas.{parts_of_rows, no_rows, rows_more, links_kept}
use Rattle.pgr_points.proofs.pointed.with_points.Goals as goal

pub loop-i-init : goal.loop-i-init
loop-i-init c = c.new-links.ensures.items ∙ no_rows c.args.driving c.args.directed c.in_ok-placed.placed.items c.args.edges.now

pub push_row-requires-clause-points : goal.push_row-requires-clause-points
push_row-requires-clause-points c =
    let P : List PointRow → Type 0 = λ placed. All IsPoint placed in
    subst P (sym c.as_slice.ensures.value)
    (All-permutation IsPoint c.args.points.now c.in_ok-placed.placed.items c.in_ok-placed.ensures.same c.len-count.ensures.accepted.points)

pub loop-i-preserved : goal.loop-i-preserved
loop-i-preserved c =
    rows_more c.args.driving c.args.directed c.in_ok-placed.placed.items c.args.edges.now c.loop-i.i c.row.result c.loop-i.links.items c.push_row.new.links.items
    c.row.ensures c.loop-i.invariant (c.in_ok-push_row.ensures
    ∙ ap (λ (placed : List PointRow). c.loop-i.links.items ++ parts_of_row c.args.driving c.args.directed c.row.result (points_of c.row.result.id placed)) c.as_slice.ensures.value)

pub returns-clause-links : goal.returns-clause-links
returns-clause-links c =
    let placed = c.in_ok-placed.placed.items in
    let all : take c.loop-i.i c.args.edges.now ≡ c.args.edges.now = take_all c.loop-i.i c.args.edges.now (omega arith) in
    links_kept _ parts_tie c.args.points.now c.args.driving c.args.directed placed c.in_ok-placed.ensures.rising
    (All-permutation IsPoint c.args.points.now placed c.in_ok-placed.ensures.same c.len-count.ensures.accepted.points)
    c.in_ok-placed.ensures.same c.args.edges.now c.loop-i.links.items _ _ (c.loop-i.invariant ∙ ap (parts_of_rows c.args.driving c.args.directed placed) all)
    c.sort_unstable.ensures.permutation (dedup_is _ _ _ c.dedup.ensures.filtered)

pub returns-clause-rising : goal.returns-clause-rising
returns-clause-rising c = links_rise _ parts_tie _ _ c.sort_unstable.ensures.sorted (dedup_is _ _ _ c.dedup.ensures.filtered)
