use Rattle.std.proofs.Common.{List, subst, rules}
use Rattle.std.specs.Ordering.{is_lt}
use Rattle.std.specs.List.Sorted.{IsSorted, IsPermutation}
use Rattle.std.proofs.lemmas.List.Sorted.{answers_always, ranks_by}
use Rattle.pgr_table.specs.declared.row.PointRow.{PointRow}
use Rattle.pgr_table.specs.Points.{ArePoints}
use Rattle.pgr_points.specs.Places.{place_cmp}
use Rattle.pgr_points.proofs.FractionLemmas.{place_total}
use Rattle.pgr_points.proofs.PlaceLemmas.{places_rise}
use Rattle.pgr_points.proofs.places.points_by_place.Goals as goal

pub returns-clause-rising : goal.returns-clause-rising
returns-clause-rising c =
    let sorted = c.sort_unstable_by.new.self.items in
    let P : List PointRow → Type 0 = λ rows. IsPermutation rows sorted in
    let in_order : IsSorted place_cmp sorted =
    c.sort_unstable_by.ensures.sorted (λ x y. is_lt (place_cmp x y)) (ranks_by place_total (λ x. x)) (answers_always _ _ _ (λ f a r h k. search rules)) in
    places_rise c.args.points.now c.len-count.ensures.accepted.distinct sorted (subst P c.in_ok-rows.ensures c.sort_unstable_by.ensures.permutation) in_order
