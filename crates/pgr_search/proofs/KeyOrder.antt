-- The order of keys, where no key comes after every key.
use Rattle.std.proofs.Common.{◌≡◌, true, false, Option, Some, None, refl, sym, ap, ◌∙◌, Ordering, Less, Equal, Greater}
use Rattle.std.proofs.lemmas.Bool.{false≢true}
use Rattle.std.specs.Ordering.{is_lt, ordering_reverse}
use Rattle.std.specs.Cmp.{IsTotalOrder}
use Rattle.std.proofs.lemmas.Cmp.{tied_itself}
use Rattle.pgr_search.specs.Heap.{is_before}

module _ {K : Type 0} (cmp : K → K → Ordering) (total : IsTotalOrder cmp) where
  -- no key is before itself
  pub before_itself : (a : Option K) → is_before cmp a a ≡ false
  before_itself None = refl
  before_itself (Some a) = ap is_lt (tied_itself total a)

  -- of two keys one at most is before the other
  pub one_before : (a b : Option K) → is_before cmp a b ≡ true → is_before cmp b a ≡ false
  one_before None b e = absurd (false≢true e)
  one_before (Some a) None e = refl
  one_before (Some a) (Some b) e = ap is_lt (total.antisymm b a) ∙ by (cmp a b) e
    where
      by : (o : Ordering) → is_lt o ≡ true → is_lt (ordering_reverse o) ≡ false
      by Less f = refl
      by Equal f = absurd (false≢true f)
      by Greater f = absurd (false≢true f)

  keys_trans : (a b c : K) (o : Ordering) → cmp a b ≡ o → is_lt o ≡ false → is_lt (cmp b c) ≡ false → (p : Ordering) → cmp a c ≡ p → is_lt p ≡ false
  keys_trans a b c Less e f g p h = absurd (false≢true (sym f))
  keys_trans a b c Equal e f g p h = ap is_lt (sym h ∙ total.congr a b c e) ∙ g
  keys_trans a b c Greater e f g Less h =
      let back : cmp b a ≡ Less = total.antisymm b a ∙ ap ordering_reverse e in
      absurd (false≢true (sym g ∙ ap is_lt (total.trans b a c back h)))
  keys_trans a b c Greater e f g Equal h = refl
  keys_trans a b c Greater e f g Greater h = refl

  -- a key that is not before one that is not before a third is not before that
  pub not_before-trans : (a b c : Option K) → is_before cmp a b ≡ false → is_before cmp b c ≡ false → is_before cmp a c ≡ false
  not_before-trans None b c e f = refl
  not_before-trans (Some a) None c e f = absurd (false≢true (sym e))
  not_before-trans (Some a) (Some b) None e f = absurd (false≢true (sym f))
  not_before-trans (Some a) (Some b) (Some c) e f = keys_trans a b c (cmp a b) refl e f (cmp a c) refl

  -- keys that equal two others are as these
  pub not_before_at : (a b c d : Option K) → a ≡ c → b ≡ d → is_before cmp c d ≡ false → is_before cmp a b ≡ false
  not_before_at a b c d e f h = (λ i. is_before cmp (e i) (f i)) ∙ h
