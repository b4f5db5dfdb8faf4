-- The groups that begin up to the place stand in front.
use Rattle.std.proofs.Common.{◌≡◌, ◌<◌, ◌≤◌, ℕ, true, false, leb, arith, rules}
use Rattle.std.specs.List.Sorted.{IsPartitionPoint}
use Rattle.std.proofs.lemmas.Bool.Decides.{nat_tests}
use Rattle.std.proofs.lemmas.List.Sorted.{IsPartitionPoint-from_clause, IsPartitionedBy-leb}
use Rattle.pgr_parts.proofs.search.groups_up_to.Goals as goal

at_most : (a b : ℕ) → leb a b ≡ true → a ≤ b
at_most a b h = grind (arith, nat_tests)

more : (a b : ℕ) → leb a b ≡ false → b < a
more a b h = grind (arith, nat_tests)

pub returns-clause-low : goal.returns-clause-low
returns-clause-low c =
    let firsts = c.args.firsts.now in
    let place = c.args.place in
    let point : IsPartitionPoint (λ x. leb x place ≡ true) (λ x. leb x place ≡ false) firsts c.partition_point.result = IsPartitionPoint-from_clause
    (λ x. leb x place) firsts c.partition_point.result c.partition_point.ensures.partitioned (IsPartitionedBy-leb (λ (x : ℕ). x) firsts place c.requires)
    (λ a r f h. search rules) in
    λ i before inside. at_most _ _ (point.0 i 0 (omega arith) before)

pub returns-clause-high : goal.returns-clause-high
returns-clause-high c =
    let firsts = c.args.firsts.now in
    let place = c.args.place in
    let point : IsPartitionPoint (λ x. leb x place ≡ true) (λ x. leb x place ≡ false) firsts c.partition_point.result = IsPartitionPoint-from_clause
    (λ x. leb x place) firsts c.partition_point.result c.partition_point.ensures.partitioned (IsPartitionedBy-leb (λ (x : ℕ). x) firsts place c.requires)
    (λ a r f h. search rules) in
    λ i before inside. more _ _ (point.1 i 0 before inside)
