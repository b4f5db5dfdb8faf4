-- The lists of a table that aren't empty, one list more, and how many ids they have.
use Rattle.std.proofs.Common.{◌≡◌, ℕ, ℤ, ◌+◌, ◌<◌, ◌≤◌, true, cond, List, [], ◌∷◌, ◌++◌, length, take, Some, slice_get, ap, ◌∙◌, arith}
use Rattle.std.specs.Prelude.{nat_lt}
use Rattle.std.proofs.lemmas.Bool.{lt-ltb}
use Rattle.std.proofs.lemmas.List.{take_more}
use Rattle.std.proofs.lemmas.List.Elements.{filter-append}
use Rattle.std.proofs.lemmas.List.Sums.{sum_by-cons}
use Rattle.std.proofs.lemmas.Option.{get_or_from_slice_get}
use Rattle.pgr_turns.specs.Restrictions.{nonempty}
use Rattle.pgr_turns.specs.Trie.{elements}

pub nonempty_more : (lists : List (List ℤ)) (i : ℕ) (ids : List ℤ) → i < length lists → slice_get lists i ≡ Some ids
    → nonempty (take (i + 1) lists) ≡ nonempty (take i lists) ++ nonempty (ids ∷ [])
nonempty_more lists i ids inside row =
    ap nonempty (take_more lists i [] inside ∙ ap (λ (last : List ℤ). take i lists ++ last ∷ []) (get_or_from_slice_get lists i ids [] row))
    ∙ filter-append (λ (xs : List ℤ). nat_lt 0 (length xs)) (take i lists) (ids ∷ [])

elements_cons : (ids : List ℤ) (lists : List (List ℤ)) → elements (ids ∷ lists) ≡ length ids + elements lists
elements_cons ids lists = sum_by-cons (λ (xs : List ℤ). length xs) ids lists

nonempty_some : (x : ℤ) (xs : List ℤ) (lists : List (List ℤ)) → nonempty ((x ∷ xs) ∷ lists) ≡ (x ∷ xs) ∷ nonempty lists
nonempty_some x xs lists =
    let some : nat_lt 0 (length (x ∷ xs)) ≡ true = lt-ltb 0 (length (x ∷ xs)) (omega arith) in
    ap (λ b. cond b ((x ∷ xs) ∷ nonempty lists) (nonempty lists)) some

pub nonempty_few : (lists : List (List ℤ)) → elements (nonempty lists) ≤ elements lists
nonempty_few [] = omega arith
nonempty_few ([] ∷ lists) = omega (arith, nonempty_few lists, elements_cons [] lists)
nonempty_few ((x ∷ xs) ∷ lists) =
    omega (arith, nonempty_few lists, elements_cons (x ∷ xs) lists, elements_cons (x ∷ xs) (nonempty lists), ap (λ (ls : List (List ℤ)). elements ls) (nonempty_some x xs lists))
