-- What is found for pairs of numbers, and how it grows, one pair at a time.
use Rattle.std.specs.Prelude.{◌≡◌, ◌≢◌, ◌<◌, ℕ, ℤ, List, ◌++◌, All, Any, Contains}
use Rattle.std.specs.List.{AllPairs}
use Rattle.std.specs.declared.cmp.Ordering.{Ordering}
use Rattle.std.specs.declared.cmp.Ordering.TheVariants.{Less}
use Rattle.std.specs.Ordering.{nat_cmp, ordering_then}
use Rattle.pgr_outside.specs.Lists.{IsStrictlyRising}
use Rattle.pgr_walks.specs.declared.link.LinkOf.{LinkOf}
use Rattle.pgr_numbers.specs.Names.{id_at}
use Rattle.pgr_ksp.specs.Routes.{AreFirstK}
use Rattle.pgr_answer.specs.declared.pair.Pair.{Pair}
use Rattle.pgr_answer.specs.declared.found.Found.{Found}
use Rattle.pgr_answer.specs.Answers.{walks_over}
use Rattle.pgr_answer.specs.Gathering.{pair_cmp}

-- two numbers below this one that differ
abbrev pub IsPairAmong : ℕ → Pair → Type 0
IsPairAmong size pair = (pair.start < size) × (pair.end < size) × (pair.start ≢ pair.end)

-- pairs that have one end
abbrev pub HaveEnd : List Pair → Type 0
HaveEnd pairs = AllPairs (λ p q. p.end ≡ q.end) pairs

-- the pair that something is found for
abbrev pub pair_of : {Shown : Type 0} → Found Shown → Pair
pair_of found = record { end = found.end; start = found.start }

-- the order of what is found: by start, then by end
abbrev pub found_cmp : {Shown : Type 0} → Found Shown → Found Shown → Ordering
found_cmp a b = ordering_then (nat_cmp a.start b.start) (nat_cmp a.end b.end)

-- the order of pairs by start, then by end
abbrev pub start_cmp : Pair → Pair → Ordering
start_cmp p q = ordering_then (nat_cmp p.start q.start) (nat_cmp p.end q.end)

-- what is found for pairs, in any order, where these walks lead from a vertex to another: each is for one of them, and is shown of it; there is something for
-- each that has such a walk
pub record AreFoundBy {Shown : Type 0} (Leads : ℤ → ℤ → List (LinkOf ℤ) → Type 0) (Shows : ℤ → ℤ → Shown → Type 0) (names : List ℤ) (pairs : List Pair)
    (found : List (Found Shown)) : Type 0 where
  pub asked : All (λ f. Contains pairs (pair_of f)) found
  pub shows : All (λ f. Shows (id_at names f.start) (id_at names f.end) f.kept) found
  pub every : (pair : Pair) (walk : List (LinkOf ℤ)) → Contains pairs pair → Leads (id_at names pair.start) (id_at names pair.end) walk → Any (λ f. pair_of f ≡ pair) found

-- what is found for pairs, where each walk over a set of links leads from its start to its end
abbrev pub AreFound : {Shown : Type 0} → (LinkOf ℤ → Type 0) → (ℤ → ℤ → Shown → Type 0) → List ℤ → List Pair → List (Found Shown) → Type 0
AreFound Has = AreFoundBy (walks_over Has)

-- what is found rises as its pairs do, by an order of pairs
abbrev pub RisesBy : {Shown : Type 0} → (Pair → Pair → Ordering) → List (Found Shown) → Type 0
RisesBy cmp found = AllPairs (λ f g. cmp (pair_of f) (pair_of g) ≡ Less) found

-- by end, and then by start
abbrev pub RisesByPair : {Shown : Type 0} → List (Found Shown) → Type 0
RisesByPair found = RisesBy pair_cmp found

-- the new list has, behind what was found for any pairs, what is found for more of them: where all these pairs rise by an order, it rises too
abbrev pub ExtendsInOrder : {Shown : Type 0} → (Pair → Pair → Ordering) → (ℤ → ℤ → List (LinkOf ℤ) → Type 0) → (ℤ → ℤ → Shown → Type 0)
    → List ℤ → List Pair → List (Found Shown) → List (Found Shown) → Type 0
ExtendsInOrder cmp Leads Shows names more old new =
    (done : List Pair) → IsStrictlyRising cmp (done ++ more) → AreFoundBy Leads Shows names done old × RisesBy cmp old
    → AreFoundBy Leads Shows names (done ++ more) new × RisesBy cmp new

-- by end, and then by start
abbrev pub ExtendsBy : {Shown : Type 0} → (ℤ → ℤ → List (LinkOf ℤ) → Type 0) → (ℤ → ℤ → Shown → Type 0) → List ℤ → List Pair → List (Found Shown)
    → List (Found Shown) → Type 0
ExtendsBy Leads Shows names more old new = ExtendsInOrder pair_cmp Leads Shows names more old new

-- the same, where each walk over a set of links leads from its start to its end
abbrev pub Extends : {Shown : Type 0} → (LinkOf ℤ → Type 0) → (ℤ → ℤ → Shown → Type 0) → List ℤ → List Pair → List (Found Shown) → List (Found Shown) → Type 0
Extends Has = ExtendsBy (walks_over Has)

-- both numbers of what is found are below this one
abbrev pub HasNames : {Shown : Type 0} → ℕ → Found Shown → Type 0
HasNames size found = (found.start < size) × (found.end < size)

-- what is found for pairs, in any order: for each of them the first K loopless routes between its numbers, over a set of links
pub record AreRoutesOf (Has : LinkOf ℕ → Type 0) (k : ℕ) (pairs : List Pair) (found : List (Found (List (List (LinkOf ℕ))))) : Type 0 where
  pub asked : All (λ f. Contains pairs (pair_of f)) found
  pub first : All (λ f. AreFirstK nat_cmp Has f.start f.end k f.kept) found
  pub every : (pair : Pair) → Contains pairs pair → Any (λ f. pair_of f ≡ pair) found
