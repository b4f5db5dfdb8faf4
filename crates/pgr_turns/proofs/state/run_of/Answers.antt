-- The heads between the two places of the search are those with the edge.
use Rattle.std.proofs.Common.{◌≡◌, ◌≤◌, List, length, take, drop, true, false, ltb, leb, ap, ◌∙◌, subst, rules}
use Rattle.std.proofs.lemmas.Int.{ints}
use Rattle.std.specs.List.Sorted.{IsPartitionPoint, IsNonDecreasingBy}
use Rattle.std.proofs.lemmas.List.Sorted.{IsPartitionPoint-from_clause, IsPartitionedBy-ltb, IsPartitionedBy-leb, IsNonDecreasingBy-drop}
use Rattle.pgr_outside.proofs.Runs.{run_is}
use Rattle.pgr_turns.specs.declared.state.Head.{Head}
use Rattle.pgr_turns.specs.States.{edge_index}
use Rattle.pgr_turns.proofs.EdgeIndex.{closure_low, closure_up}
use Rattle.pgr_turns.proofs.state.run_of.Goals as goal

pub returns : goal.returns
returns c =
    let heads = c.args.heads.now in
    let key = edge_index c.args.edge in
    let first = c.partition_point.result in
    let count = c.partition_point-2.result in
    let P : List Head → Type 0 = λ rest. IsPartitionPoint (λ head. leb (key head) 1 ≡ true) (λ head. leb (key head) 1 ≡ false) rest count in
    let Q : List Head → Type 0 = λ rest. count ≤ length rest in
    let low : IsPartitionPoint (λ head. ltb (key head) 1 ≡ true) (λ head. ltb (key head) 1 ≡ false) heads first = IsPartitionPoint-from_clause (λ head. ltb (key head) 1) heads
    first c.partition_point.ensures.partitioned (IsPartitionedBy-ltb key heads 1 (c.requires c.args.edge))
    (λ a r f h. closure_low r a.0.now.edge c.args.edge (search (rules, ints))) in
    let rest = c.split_at.result.1.now in
    let rest_is : rest ≡ drop first heads = c.split_at.ensures.back in
    let rest_in_order : IsNonDecreasingBy key rest = rw rest_is (IsNonDecreasingBy-drop key first heads (c.requires c.args.edge)) in
    let high : P rest = IsPartitionPoint-from_clause (λ head. leb (key head) 1) rest count c.partition_point-2.ensures.partitioned
    (IsPartitionedBy-leb key rest 1 rest_in_order) (λ a r f h. closure_up r a.0.now.edge c.args.edge (search (rules, ints))) in
    c.split_at-2.ensures.front ∙ (ap (take count) rest_is ∙ run_is key heads 1 first count low (subst P rest_is high) c.partition_point.ensures.bound
    (subst Q rest_is c.partition_point-2.ensures.bound))
