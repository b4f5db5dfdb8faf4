-- Restrictions that don't take the sum of the costs too far: none of them has an id, or the sum for all of them is at most 2^63 - 1.
use Rattle.std.proofs.Common.{◌≡◌, ℕ, ℤ, ◌+◌, ◌*◌, ◌<◌, ◌≤◌, ◌⊎◌, inl, inr, ⊎_elim, Bool, true, false, not, ◌&&◌, if◌then◌else◌, cond, List, [], ◌∷◌, length, Option, Some, None, refl, sym, ap, subst, ◌∙◌, arith}
use Rattle.std.specs.Prelude.{◌==◌, nat_lt}
use Rattle.std.proofs.lemmas.Bool.{ltb-false, lt-ltb}
use Rattle.std.proofs.lemmas.Bool.Decides.{Decides-eqb}
use Rattle.std.proofs.lemmas.List.Sums.{sum_by-cons}
use Rattle.pgr_table.specs.Rows.{greatest}
use Rattle.pgr_graph.specs.Restricted.{first_over, is_over}
use Rattle.pgr_turns.specs.Restrictions.{nonempty}
use Rattle.pgr_turns.specs.Trie.{elements}

-- of a choice that is none, the other side is none
else_none : {X : Type 0} (b : Bool) (x : X) (rest : Option X) → (if b then Some x else rest) ≡ None → (b ≡ false) × (rest ≡ None)
else_none true x rest e = absurd cc
else_none false x rest e = (refl, e)

-- of a list with an id that isn't over, the sum is at most the bound
not_over : (n : ℕ) (b : Bool) → 0 < n → (not (n == 0) && b) ≡ false → b ≡ false
not_over n b some e = split (n == 0) refl e where
  split : (t : Bool) → (n == 0) ≡ t → (not t && b) ≡ false → b ≡ false
  split true is e = let zero = (Decides-eqb n 0).0 is in absurd (omega (arith, zero, some))
  split false is e = e

-- the sum for so many ids is at most the bound
abbrev pub IsWithin : ℕ → ℕ → Type 0
IsWithin total ids = total * (1 + ids) ≤ greatest

within : (total m n : ℕ) → m ≡ n → IsWithin total m → IsWithin total n
within total m n e h = subst (IsWithin total) e h

-- one list more in front, which isn't over
one_more : (total before rest : ℕ) (list : List ℤ) → is_over total (before + length list) list ≡ false → (rest ≡ 0) ⊎ IsWithin total ((before + length list) + rest)
    → (length list + rest ≡ 0) ⊎ IsWithin total (before + (length list + rest))
one_more total before rest [] over (inl zero) = inl (omega (arith, zero))
one_more total before rest (id ∷ ids) over (inl zero) =
    let small : IsWithin total (before + length (id ∷ ids)) = ltb-false greatest (total * (1 + (before + length (id ∷ ids))))
    (not_over (length (id ∷ ids)) (nat_lt greatest (total * (1 + (before + length (id ∷ ids))))) (omega arith) over) in
    inr (within total (before + length (id ∷ ids)) (before + (length (id ∷ ids) + rest)) (omega (arith, zero)) small)
one_more total before rest list over (inr h) = inr (within total ((before + length list) + rest) (before + (length list + rest)) (omega arith) h)

-- one list more has its ids more
elements_cons : (list : List ℤ) (lists : List (List ℤ)) → elements (list ∷ lists) ≡ length list + elements lists
elements_cons list lists = sum_by-cons (λ (ids : List ℤ). length ids) list lists

-- a list with an id is left among those that aren't empty
nonempty_some : (id : ℤ) (ids : List ℤ) (lists : List (List ℤ)) → nonempty ((id ∷ ids) ∷ lists) ≡ (id ∷ ids) ∷ nonempty lists
nonempty_some id ids lists =
    let some : nat_lt 0 (length (id ∷ ids)) ≡ true = lt-ltb 0 (length (id ∷ ids)) (omega arith) in
    ap (λ b. cond b ((id ∷ ids) ∷ nonempty lists) (nonempty lists)) some

-- without the empty ones lists have as many ids
pub elements_nonempty : (lists : List (List ℤ)) → elements (nonempty lists) ≡ elements lists
elements_nonempty [] = refl
elements_nonempty ([] ∷ lists) = let h = elements_nonempty lists in omega (arith, h)
elements_nonempty ((id ∷ ids) ∷ lists) =
    ap (λ (ls : List (List ℤ)). elements ls) (nonempty_some id ids lists)
    ∙ (elements_cons (id ∷ ids) (nonempty lists) ∙ (ap (λ n. length (id ∷ ids) + n) (elements_nonempty lists) ∙ sym (elements_cons (id ∷ ids) lists)))

-- where no list is over, none has an id or the sum for all is at most the bound
bounded_from : (total number before : ℕ) (lists : List (List ℤ)) → first_over total number before lists ≡ None → (elements lists ≡ 0) ⊎ IsWithin total (before + elements lists)
bounded_from total number before [] none = inl refl
bounded_from total number before (list ∷ lists) none =
    let parts = else_none (is_over total (before + length list) list) _ (first_over total (number + 1) (before + length list) lists) none in
    subst (λ n. (n ≡ 0) ⊎ IsWithin total (before + n)) (sym (elements_cons list lists))
    (one_more total before (elements lists) list parts.0 (bounded_from total (number + 1) (before + length list) lists parts.1))

pub bounded : (total : ℕ) (lists : List (List ℤ)) → first_over total 2 0 lists ≡ None → (elements lists ≡ 0) ⊎ IsWithin total (elements lists)
bounded total lists none = ⊎_elim inl (λ h. inr (within total (0 + elements lists) (elements lists) (omega arith) h)) (bounded_from total 2 0 lists none)
