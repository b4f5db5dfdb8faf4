-- How an edge id compares with another, as tests and as a number.
use Rattle.std.proofs.Common.{◌≡◌, ℤ, Bool, true, false, ltb, leb, refl, sym, ap, ◌∙◌, arith, Ordering, Less, Equal, Greater}
use Rattle.std.specs.Prelude.{int_lt, int_le}
use Rattle.std.specs.Ordering.{int_cmp, ordering_index}
use Rattle.std.proofs.lemmas.Int.{ints}

lt_less : (a e : ℤ) → int_cmp a e ≡ Less → int_lt a e ≡ true
lt_less a e h = grind (arith, ints)

lt_equal : (a e : ℤ) → int_cmp a e ≡ Equal → int_lt a e ≡ false
lt_equal a e h = grind (arith, ints)

lt_greater : (a e : ℤ) → int_cmp a e ≡ Greater → int_lt a e ≡ false
lt_greater a e h = grind (arith, ints)

le_less : (a e : ℤ) → int_cmp a e ≡ Less → int_le a e ≡ true
le_less a e h = grind (arith, ints)

le_equal : (a e : ℤ) → int_cmp a e ≡ Equal → int_le a e ≡ true
le_equal a e h = grind (arith, ints)

le_greater : (a e : ℤ) → int_cmp a e ≡ Greater → int_le a e ≡ false
le_greater a e h = grind (arith, ints)

index_lt : (a e : ℤ) → int_lt a e ≡ ltb (ordering_index (int_cmp a e)) 1
index_lt a e = at (int_cmp a e) refl
  where
    at : (o : Ordering) → int_cmp a e ≡ o → int_lt a e ≡ ltb (ordering_index (int_cmp a e)) 1
    at Less h = lt_less a e h ∙ sym (ap (λ o. ltb (ordering_index o) 1) h)
    at Equal h = lt_equal a e h ∙ sym (ap (λ o. ltb (ordering_index o) 1) h)
    at Greater h = lt_greater a e h ∙ sym (ap (λ o. ltb (ordering_index o) 1) h)

index_le : (a e : ℤ) → int_le a e ≡ leb (ordering_index (int_cmp a e)) 1
index_le a e = at (int_cmp a e) refl
  where
    at : (o : Ordering) → int_cmp a e ≡ o → int_le a e ≡ leb (ordering_index (int_cmp a e)) 1
    at Less h = le_less a e h ∙ sym (ap (λ o. leb (ordering_index o) 1) h)
    at Equal h = le_equal a e h ∙ sym (ap (λ o. leb (ordering_index o) 1) h)
    at Greater h = le_greater a e h ∙ sym (ap (λ o. leb (ordering_index o) 1) h)

-- what a test answers, by the number
pub closure_low : {P : Type 0} (r : Bool) (a e : ℤ) → (r ≡ int_lt a e) × P → (r ≡ ltb (ordering_index (int_cmp a e)) 1) × P
closure_low r a e h = (h.0 ∙ index_lt a e, h.1)

pub closure_up : {P : Type 0} (r : Bool) (a e : ℤ) → (r ≡ int_le a e) × P → (r ≡ leb (ordering_index (int_cmp a e)) 1) × P
closure_up r a e h = (h.0 ∙ index_le a e, h.1)
