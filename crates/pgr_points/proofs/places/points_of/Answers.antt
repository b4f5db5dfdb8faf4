-- The points between the two places of the search are those of the edge.
use Rattle.std.proofs.Common.{◌≡◌, ◌≤◌, ℕ, List, length, take, drop, true, false, sym, ap, ◌∙◌, subst, rules}
use Rattle.std.specs.Prelude.{int_lt, int_le}
use Rattle.std.specs.Ordering.{int_eq}
use Rattle.std.specs.List.{All, AllPairs}
use Rattle.std.specs.List.Sorted.{IsPartitionPoint, IsPartitionedBy}
use Rattle.std.proofs.lemmas.Int.{ints}
use Rattle.std.proofs.lemmas.List.Sorted.{IsPartitionPoint-from_clause}
use Rattle.pgr_outside.specs.Lists.{IsStrictlyRising}
use Rattle.pgr_table.specs.declared.row.PointRow.{PointRow}
use Rattle.pgr_table.specs.Points.{IsPoint}
use Rattle.pgr_points.specs.Places.{place_cmp}
use Rattle.pgr_points.specs.Senses.{points_of, AreInOrder}
use Rattle.pgr_outside.proofs.Runs.{part_is}
use Rattle.pgr_points.proofs.PlaceLemmas.{edges_below, edges_up_to, between_edges, below_edge, above_edge, points_good, points_in_order, rising_drop}
use Rattle.pgr_points.proofs.places.points_of.Goals as goal

points_are : (c : goal.After-run-1) → c.split_at-2.result.0.now ≡ points_of c.args.edge c.args.placed.now
points_are c =
    let placed = c.args.placed.now in
    let edge = c.args.edge in
    let low = λ (point : PointRow). int_lt point.edge_id edge in
    let up = λ (point : PointRow). int_le point.edge_id edge in
    let first = c.partition_point.result in
    let count = c.partition_point-2.result in
    let P : List PointRow → Type 0 = λ rest. IsPartitionPoint (λ point. up point ≡ true) (λ point. up point ≡ false) rest count in
    let Q : List PointRow → Type 0 = λ rest. count ≤ length rest in
    let R : List PointRow → Type 0 = λ rest. IsPartitionedBy up rest in
    let rest = c.split_at.result.1.now in
    let rest_is : rest ≡ drop first placed = c.split_at.ensures.back in
    let low_part : IsPartitionPoint (λ point. low point ≡ true) (λ point. low point ≡ false) placed first =
    IsPartitionPoint-from_clause low placed first c.partition_point.ensures.partitioned (edges_below placed c.requires.rising edge) (λ a r f h. search (rules, ints)) in
    let up_part : P rest = IsPartitionPoint-from_clause up rest count c.partition_point-2.ensures.partitioned
    (subst R (sym rest_is) (edges_up_to (drop first placed) (rising_drop placed first c.requires.rising) edge)) (λ a r f h. search (rules, ints)) in
    c.split_at-2.ensures.front ∙ (ap (take count) rest_is ∙ part_is low up (λ point. int_eq point.edge_id edge) (λ point. between_edges point.edge_id edge)
    (λ point. below_edge point.edge_id edge) (λ point. above_edge point.edge_id edge) placed first count low_part (subst P rest_is up_part) c.partition_point.ensures.bound
    (subst Q rest_is c.partition_point-2.ensures.bound))

pub returns-clause-same : goal.returns-clause-same
returns-clause-same c = points_are c

pub returns-clause-points : goal.returns-clause-points
returns-clause-points c =
    let P : List PointRow → Type 0 = λ run. All IsPoint run in
    subst P (sym (points_are c)) (points_good c.args.placed.now c.args.edge c.requires.points)

pub returns-clause-rise : goal.returns-clause-rise
returns-clause-rise c =
    let P : List PointRow → Type 0 = λ run. AllPairs AreInOrder run in
    subst P (sym (points_are c)) (points_in_order c.args.placed.now c.args.edge c.requires.points c.requires.rising)
