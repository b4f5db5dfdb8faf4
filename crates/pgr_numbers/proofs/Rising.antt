-- Lists of ids that rise: how they come of a sort, and what a binary search finds in them.
use Rattle.std.proofs.Common.{◌≡◌, ℕ, ◌+◌, List, get_or, refl, sym, ap, ◌∙◌, arith, ⊎_elim, ℤ, Ordering, Less, Equal, Greater, false, Err, subst}
use Rattle.std.specs.Ordering.{int_cmp, int_eq, is_lt, ordering_reverse}
use Rattle.std.specs.List.{dedup, Contains}
use Rattle.std.specs.List.Sorted.{IsSorted, IsPartitionPoint, IsBinarySearchResult}
use Rattle.std.proofs.lemmas.Bool.{cases_lt}
use Rattle.std.proofs.lemmas.Cmp.{int_cmp_total, tied_itself}
use Rattle.std.proofs.lemmas.List.Kept.{IsStrictlySortedBy-dedup}
use Rattle.std.proofs.lemmas.List.Sorted.{searchable_from_sorted}
use Rattle.std.proofs.lemmas.Map.Keys.{Less-from_sorted}
use Rattle.pgr_walks.specs.Graph.{IsStrictlyRising}

-- a sorted list without neighbours that are equal rises
pub IsStrictlyRising-dedup : (ids : List ℤ) → IsSorted int_cmp ids → IsStrictlyRising int_cmp (dedup int_eq ids)
IsStrictlyRising-dedup ids sorted i j x before inside =
    Less-from_sorted int_cmp (dedup int_eq ids) i j x (IsStrictlySortedBy-dedup int_cmp_total (λ _ _. refl) ids sorted) before inside

-- what comes before another isn't after it
not_after : (o p : Ordering) → o ≡ Less → p ≡ ordering_reverse o → is_lt p ≡ false
not_after o Less less back = cc
not_after o Equal less back = refl
not_after o Greater less back = refl

-- a list that rises is sorted
IsSorted-rising : (ids : List ℤ) → IsStrictlyRising int_cmp ids → IsSorted int_cmp ids
IsSorted-rising ids rise k d low inside =
    not_after _ _ (rise k (k + 1) d (omega arith) inside) (int_cmp_total.antisymm (get_or ids (k + 1) d) (get_or ids k d))

-- an id isn't in a list where all before a place are less and all from there on are greater
absent : (ids : List ℤ) (id : ℤ) (place : ℕ) → IsPartitionPoint (λ other. int_cmp other id ≡ Less) (λ other. int_cmp other id ≡ Greater) ids place → Contains ids id → ⊥
absent ids id place parts (k, inside, is) =
    let tied : int_cmp (get_or ids k id) id ≡ Equal = ap (λ other. int_cmp other id) is ∙ tied_itself int_cmp_total id in
    ⊎_elim
    (λ before. let less = parts.0 k id (omega arith) before in cc)
    (λ after. let greater = parts.1 k id after inside in cc)
    (cases_lt k place)

-- an id that a binary search of a list that rises doesn't find isn't in it
pub absent_from_search : (ids : List ℤ) (id asked : ℤ) (place : ℕ) → asked ≡ id → IsStrictlyRising int_cmp ids
    → IsBinarySearchResult (λ other. int_cmp other asked) ids (Err place) → Contains ids id → ⊥
absent_from_search ids id asked place same rise found there =
    let searchable = searchable_from_sorted int_cmp_total (λ other. other) ids asked (IsSorted-rising ids rise) in
    absent ids asked place (found searchable) (subst (Contains ids) (sym same) there)
