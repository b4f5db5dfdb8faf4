-- One step of an enumeration: what it keeps, and what it gives.
use Rattle.std.proofs.Common.{◌≡◌, ◌≢◌, ℕ, zero, suc, ◌+◌, ◌<◌, ◌≤◌, Bool, List, [], ◌∷◌, ◌++◌, length, take, get_or, refl, sym, ap, subst, ◌∙◌, arith}
use Rattle.std.specs.Prelude.{Contains, All, count_by}
use Rattle.std.specs.declared.cmp.Reverse.{Reverse}
use Rattle.std.specs.Ordering.{nat_cmp}
use Rattle.std.specs.BinaryHeap.{IsUpperBound, IsHeap}
use Rattle.std.specs.List.Sorted.{IsPermutation}
use Rattle.std.proofs.lemmas.List.{get_or_default}
use Rattle.std.proofs.lemmas.List.Elements.{All-append, All-tail, Contains-get_or}
use Rattle.std.proofs.lemmas.List.Sorted.{All-permutation}
use Rattle.pgr_walks.specs.declared.link.LinkOf.{LinkOf}
use Rattle.pgr_walks.specs.Walk.{IsLooplessRoute}
use Rattle.pgr_walks.specs.RouteOrder.{IsLeast}
use Rattle.pgr_ksp.specs.declared.class.Class.{Class}
use Rattle.pgr_ksp.specs.Routes.{IsLeft, AreAll}
use Rattle.pgr_ksp.specs.Classes.{is_same, one, has, IsClass, later_cmp}
use Rattle.pgr_ksp.specs.Sound.{IsSound}
use Rattle.pgr_ksp.proofs.Choosing.{least_left, partition_after, all_given}
use Rattle.pgr_ksp.proofs.Giving.{one_more}

-- the first item of a heap is one of its items
pub first_item : (items : List (Reverse Class)) (top : Reverse Class) → 0 < length items → top ≡ get_or items 0 top → Contains items top
first_item items top some is = (0, some, sym is)

module _ (Has : LinkOf ℕ → Type 0) (s t : ℕ) (given : List (List (LinkOf ℕ))) (items : List (Reverse Class)) (sound : IsSound Has s t given items) where
  -- the first route of the first class is the least that is left
  pub least_of_first : (top : Reverse Class) → Contains items top → IsUpperBound later_cmp top items → IsLeast nat_cmp (IsLeft Has s t given) top.0.links.items
  least_of_first top there upper = least_left Has s t items top upper sound.classes there given sound.partition

  -- what is kept when it was given, and its class split
  pub sound_after : (rest parts new : List (Reverse Class)) (top : Reverse Class) → Contains items top → IsUpperBound later_cmp top items
      → IsPermutation items (top ∷ rest) → IsPermutation (rest ++ parts) new
      → IsHeap later_cmp new → All (λ item. IsClass Has s t item.0) parts
      → ((route : List (LinkOf ℕ)) → IsLooplessRoute Has s route t → count_by (has route) parts + one (is_same route top.0.links.items) ≡ one (has route top))
      → IsSound Has s t (given ++ top.0.links.items ∷ []) new
  sound_after rest parts new top there upper popped added heap classes split =
      let P : Reverse Class → Type 0 = λ item. IsClass Has s t item.0 in
      record {
        first = one_more nat_cmp Has s t given top.0.links.items sound.first (least_of_first top there upper);
        heap = heap;
        classes = All-permutation P (rest ++ parts) new added (All-append P rest parts (All-tail P top rest (All-permutation P items (top ∷ rest) popped sound.classes)) classes);
        partition = partition_after Has s t given items rest parts new top sound.partition popped added split;
      }

-- where a route is left not all were given
pub not_all : (Has : LinkOf ℕ → Type 0) (s t : ℕ) (given : List (List (LinkOf ℕ))) (route : List (LinkOf ℕ)) → IsLeast nat_cmp (IsLeft Has s t given) route
    → AreAll Has s t given → ⊥
not_all Has s t given route least all = least.belongs.is_new (all route least.belongs.is_route)

-- where no class is left all were given
pub none_is_left : (Has : LinkOf ℕ → Type 0) (s t : ℕ) (given : List (List (LinkOf ℕ))) (items : List (Reverse Class)) → IsSound Has s t given items → length items ≡ 0
    → AreAll Has s t given
none_is_left Has s t given [] sound none = all_given Has s t given sound.partition
none_is_left Has s t given (item ∷ items) sound none = absurd (omega arith)
