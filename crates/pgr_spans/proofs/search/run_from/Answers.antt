-- The arrows between the two places of the search are those from this vertex.
use Rattle.std.proofs.Common.{◌≡◌, ◌≤◌, List, length, take, drop, true, false, ltb, leb, ap, ◌∙◌, subst, rules}
use Rattle.std.specs.List.Sorted.{IsPartitionPoint, IsNonDecreasingBy}
use Rattle.std.proofs.lemmas.List.Sorted.{IsPartitionPoint-from_clause, IsPartitionedBy-ltb, IsPartitionedBy-leb, IsNonDecreasingBy-drop}
use Rattle.pgr_spans.specs.declared.arrow.Arrow.{Arrow}
use Rattle.pgr_outside.proofs.Runs.{run_is}
use Rattle.pgr_spans.proofs.search.run_from.Goals as goal

pub returns : goal.returns
returns c =
    let links = c.args.arrows.now in
    let v = c.args.v in
    let key = λ (arrow : Arrow). arrow.from in
    let first = c.partition_point.result in
    let count = c.partition_point-2.result in
    let P : List Arrow → Type 0 = λ rest. IsPartitionPoint (λ arrow. leb (key arrow) v ≡ true) (λ arrow. leb (key arrow) v ≡ false) rest count in
    let Q : List Arrow → Type 0 = λ rest. count ≤ length rest in
    let low : IsPartitionPoint (λ arrow. ltb (key arrow) v ≡ true) (λ arrow. ltb (key arrow) v ≡ false) links first = IsPartitionPoint-from_clause
    (λ arrow. ltb (key arrow) v) links first c.partition_point.ensures.partitioned (IsPartitionedBy-ltb key links v c.requires) (λ a r f h. search rules) in
    let rest = c.split_at.result.1.now in
    let rest_is : rest ≡ drop first links = c.split_at.ensures.back in
    let rest_in_order : IsNonDecreasingBy key rest = rw rest_is (IsNonDecreasingBy-drop key first links c.requires) in
    let high : P rest = IsPartitionPoint-from_clause (λ arrow. leb (key arrow) v) rest count c.partition_point-2.ensures.partitioned (IsPartitionedBy-leb key rest v rest_in_order)
    (λ a r f h. search rules) in
    c.split_at-2.ensures.front ∙ (ap (take count) rest_is ∙ run_is key links v first count low (subst P rest_is high) c.partition_point.ensures.bound
    (subst Q rest_is c.partition_point-2.ensures.bound))
