-- Pairs of ids in order, and the part of a map of pairs that begins with one id.
use Rattle.std.proofs.Common.{◌≡◌, ◌≢◌, ◌⊎◌, inl, inr, ℕ, ℤ, negsuc, Bool, true, false, ◌&&◌, ◌||◌, cond, List, [], ◌∷◌, Option, Some, None, Ordering, Less, Equal, Greater, refl, sym, subst, ◌∙◌, ap, arith}
use Rattle.std.specs.Prelude.{IsSome, ◌<ℤ◌, ◌≤ℤ◌}
use Rattle.std.specs.List.{slice_get}
use Rattle.std.specs.Option.{IfSome}
use Rattle.std.specs.Ordering.{int_cmp, int_eq, is_eq, is_gt, ordering_then}
use Rattle.std.specs.declared.ops.Bound.{Bound}
use Rattle.std.specs.declared.ops.Bound.TheVariants.{Included, Excluded, Unbounded}
use Rattle.std.specs.BTreeMap.{BTreeMap, get}
use Rattle.std.specs.BTreeMap.Range.{IsRangeOf, IsFromStart, IsLeBy, IsLtBy}
use Rattle.std.proofs.lemmas.Cmp.{int_ranked, tied_itself, int_cmp_total}
use Rattle.std.proofs.lemmas.Int.{ints}
use Rattle.pgr_walks.specs.Graph.{greatest}
use Rattle.pgr_contract.specs.Ways.{pair_cmp, at_pair, is_pair, kept_cost, lesser, lowered, forgotten, AreLow, IsNear}
use Rattle.pgr_contract.proofs.Ids.{same_id, eq-int_eq, ne-int_eq}
use Rattle.pgr_contract.proofs.LeastLinks.{pair_cases, pair-hit, pair-miss}
use Rattle.pgr_contract.proofs.WayChanges.{lowered-hit, lowered-miss, nothing_not}

-- two orders one after the other are equal where both are
then-eq : (o r : Ordering) → is_eq (ordering_then o r) ≡ (is_eq o && is_eq r)
then-eq Less r = refl
then-eq Equal r = refl
then-eq Greater r = refl

-- the test of the map is that of the two ids
pub pair-is : (a b p q : ℤ) → is_eq (pair_cmp (a, b) (p, q)) ≡ is_pair a b p q
pair-is a b p q = then-eq (int_cmp a p) (int_cmp b q)

-- what is kept after an insertion
pub lowered-by : (a b : ℤ) (cost least : Option ℕ) (old new : BTreeMap (ℤ × ℤ) (Option ℕ)) → least ≡ lesser (kept_cost (at_pair old a b)) cost
    → ((q : ℤ × ℤ) → get pair_cmp new q ≡ cond (is_eq (pair_cmp (a, b) q)) (Some least) (get pair_cmp old q)) → (p q : ℤ) → at_pair new p q ≡ lowered a b cost (at_pair old) p q
lowered-by a b cost least old new is changed p q = by (pair_cases a b p q) where
  now : at_pair new p q ≡ cond (is_pair a b p q) (Some least) (at_pair old p q)
  now = changed (p, q) ∙ ap (λ x. cond x (Some least) (at_pair old p q)) (pair-is a b p q)

  by : ((a ≡ p) × (b ≡ q)) ⊎ ((a ≡ p) × (b ≡ q) → ⊥) → at_pair new p q ≡ lowered a b cost (at_pair old) p q
  by (inl (first, second)) =
      now ∙ (ap (λ x. cond x (Some least) (at_pair old p q)) (pair-hit a b p q first second)
      ∙ (ap (λ x. Some x) (is ∙ (ap (λ y. lesser (kept_cost (at_pair old y b)) cost) first ∙ ap (λ y. lesser (kept_cost (at_pair old p y)) cost) second))
      ∙ sym (lowered-hit a b cost (at_pair old) p q first second)))
  by (inr differ) =
      now ∙ (ap (λ x. cond x (Some least) (at_pair old p q)) (pair-miss a b p q differ) ∙ sym (lowered-miss a b cost (at_pair old) p q differ))

-- what is kept after two removals
pub forgotten-by : (a b : ℤ) (old once new : BTreeMap (ℤ × ℤ) (Option ℕ)) → ((q : ℤ × ℤ) → get pair_cmp once q ≡ cond (is_eq (pair_cmp (a, b) q)) None (get pair_cmp old q))
    → ((q : ℤ × ℤ) → get pair_cmp new q ≡ cond (is_eq (pair_cmp (b, a) q)) None (get pair_cmp once q)) → (p q : ℤ) → at_pair new p q ≡ forgotten a b (at_pair old) p q
forgotten-by a b old once new first second p q =
    second (p, q) ∙ (ap (λ x. cond x None (at_pair once p q)) (pair-is b a p q)
    ∙ (ap (λ x. cond (is_pair b a p q) None x) (first (p, q) ∙ ap (λ x. cond x None (at_pair old p q)) (pair-is a b p q)) ∙ by (is_pair b a p q) (is_pair a b p q)))
  where
    by : (x y : Bool) → cond x None (cond y None (at_pair old p q)) ≡ cond (y || x) None (at_pair old p q)
    by true true = refl
    by true false = refl
    by false true = refl
    by false false = refl

-- what is kept after a change stays low
pub lowered-low : (a b : ℤ) (cost : Option ℕ) (old new : BTreeMap (ℤ × ℤ) (Option ℕ)) → ((p q : ℤ) → at_pair new p q ≡ lowered a b cost (at_pair old) p q) → negsuc greatest ≤ℤ b
    → AreLow old → AreLow new
lowered-low a b cost old new changed least low p q some = by (pair_cases a b p q) where
  by : ((a ≡ p) × (b ≡ q)) ⊎ ((a ≡ p) × (b ≡ q) → ⊥) → negsuc greatest ≤ℤ q
  by (inl both) = subst (λ x. negsuc greatest ≤ℤ x) both.1 least
  by (inr differ) = low p q (subst IsSome (changed p q ∙ lowered-miss a b cost (at_pair old) p q differ) some)

pub forgotten-low : (a b : ℤ) (old new : BTreeMap (ℤ × ℤ) (Option ℕ)) → ((p q : ℤ) → at_pair new p q ≡ forgotten a b (at_pair old) p q) → AreLow old → AreLow new
forgotten-low a b old new changed low p q some = low p q (by (is_pair a b p q || is_pair b a p q) (subst IsSome (changed p q) some)) where
  by : (x : Bool) → IsSome (cond x None (at_pair old p q)) → IsSome (at_pair old p q)
  by true h = absurd (nothing_not h)
  by false h = h

-- a pair that isn't after another
le_pair : (a b c d : ℤ) → IsLeBy pair_cmp (a, b) (c, d) → (a <ℤ c) ⊎ ((a ≡ c) × (b ≤ℤ d))
le_pair a b c d h = by (int_cmp a c) refl h where
  second : (o : Ordering) → int_cmp b d ≡ o → is_gt o ≡ false → b ≤ℤ d
  second Less e f = let less : b <ℤ d = int_ranked b d Less (sym e) in omega (arith, ints)
  second Equal e f = let same : b ≡ d = int_ranked b d Equal (sym e) in omega (arith, ints)
  second Greater e f = absurd (let g = f in cc)

  by : (o : Ordering) → int_cmp a c ≡ o → is_gt (ordering_then o (int_cmp b d)) ≡ false → (a <ℤ c) ⊎ ((a ≡ c) × (b ≤ℤ d))
  by Less e f = inl (int_ranked a c Less (sym e))
  by Equal e f = inr (int_ranked a c Equal (sym e), second (int_cmp b d) refl f)
  by Greater e f = absurd (let g = f in cc)

lt_pair : (a b c d : ℤ) → IsLtBy pair_cmp (a, b) (c, d) → (a <ℤ c) ⊎ ((a ≡ c) × (b <ℤ d))
lt_pair a b c d h = by (int_cmp a c) refl h where
  by : (o : Ordering) → int_cmp a c ≡ o → ordering_then o (int_cmp b d) ≡ Less → (a <ℤ c) ⊎ ((a ≡ c) × (b <ℤ d))
  by Less e f = inl (int_ranked a c Less (sym e))
  by Equal e f = inr (int_ranked a c Equal (sym e), int_ranked b d Less (sym f))
  by Greater e f = absurd (let g = f in cc)

pair_le : (a b d : ℤ) → b ≤ℤ d → IsLeBy pair_cmp (a, b) (a, d)
pair_le a b d le = ap (λ o. is_gt (ordering_then o (int_cmp b d))) (tied_itself int_cmp_total a) ∙ by (int_cmp b d) refl where
  by : (o : Ordering) → int_cmp b d ≡ o → is_gt (int_cmp b d) ≡ false
  by Less e = ap is_gt e
  by Equal e = ap is_gt e
  by Greater e = let less : d <ℤ b = int_ranked b d Greater (sym e) in absurd (omega (arith, ints))

pair_lt : (a b d : ℤ) → b <ℤ d → IsLtBy pair_cmp (a, b) (a, d)
pair_lt a b d less = ap (λ o. ordering_then o (int_cmp b d)) (tied_itself int_cmp_total a) ∙ by (int_cmp b d) refl where
  by : (o : Ordering) → int_cmp b d ≡ o → int_cmp b d ≡ Less
  by Less e = e
  by Equal e = let same : b ≡ d = int_ranked b d Equal (sym e) in absurd (omega (arith, ints))
  by Greater e = let more : d <ℤ b = int_ranked b d Greater (sym e) in absurd (omega (arith, ints))

some_or : (o : Option (Option ℕ)) → (IsSome o → ⊥) → o ≡ None
some_or None h = refl
some_or (Some x) h = absurd (h refl)

module _ (ways : BTreeMap (ℤ × ℤ) (Option ℕ)) (v : ℤ) (Above : ℤ → Type 0) (lo : Bound (ℤ × ℤ))
    (within : (z : ℤ) → Above z → IsSome (at_pair ways v z) → IsFromStart pair_cmp lo (v, z))
    (beyond : (p q : ℤ) → IsFromStart pair_cmp lo (p, q) → (v <ℤ p) ⊎ ((v ≡ p) × Above q)) (range : List ((ℤ × ℤ) × Option ℕ))
    (is_range : IsRangeOf pair_cmp lo Unbounded ways range) where
  -- an empty range: no neighbour
  pub near_none : range ≡ [] → IsNear ways Above v None
  near_none empty z above = some_or (at_pair ways v z) (λ some.
      nothing_not (subst IsSome (is_range.5 empty (v, z) (within z above some, tt)) some))

  -- the first of the range: the first neighbour, where it begins with v
  pub near_some : (p q : ℤ) (way : Option ℕ) (rest : List ((ℤ × ℤ) × Option ℕ)) → range ≡ ((p, q), way) ∷ rest → IsNear ways Above v (cond (int_eq p v) (Some q) None)
  near_some p q way rest first = by (same_id p v) where
    entry : IsFromStart pair_cmp lo (p, q) × (get pair_cmp ways (p, q) ≡ Some way)
    entry = let e = subst (λ r. IfSome (slice_get r 0) (λ e. (IsFromStart pair_cmp lo e.0 × Unit {0}) × (get pair_cmp ways e.0 ≡ Some e.1))) first is_range.1 in (e.0.0, e.1)

    least : (z : ℤ) → Above z → IsSome (at_pair ways v z) → IsLeBy pair_cmp (p, q) (v, z)
    least z above some = subst (λ r. IfSome (slice_get r 0) (λ e. IsLeBy pair_cmp e.0 (v, z))) first (is_range.2 (v, z) (within z above some, tt) some)

    no : p ≢ v → (z : ℤ) → Above z → at_pair ways v z ≡ None
    no differs z above = some_or (at_pair ways v z) (λ some. elim (le_pair p q v z (least z above some)) as (λ _. ⊥) [
      | inl less ↦ elim (beyond p q entry.0) as (λ _. ⊥) [
        | inl more ↦ absurd (omega (arith, ints, less, more))
        | inr same ↦ differs (sym same.0)
      ]
      | inr same ↦ differs same.0
    ])

    yes : p ≡ v → IsNear ways Above v (Some q)
    yes same = (
      elim (beyond p q entry.0) as (λ _. Above q) [ inl more ↦ absurd (omega (arith, ints, more, same)) | inr there ↦ there.1 ],
      (
        subst IsSome (sym (subst (λ x. get pair_cmp ways (x, q) ≡ Some way) same entry.1)) refl,
        (λ z above some. elim (le_pair p q v z (least z above some)) as (λ _. q ≤ℤ z) [ inl less ↦ absurd (omega (arith, ints, less, same)) | inr there ↦ there.1 ]),
      ),
    )

    by : (p ≡ v) ⊎ (p ≢ v) → IsNear ways Above v (cond (int_eq p v) (Some q) None)
    by (inl same) = subst (λ b. IsNear ways Above v (cond b (Some q) None)) (sym (eq-int_eq p v same)) (yes same)
    by (inr differs) = subst (λ b. IsNear ways Above v (cond b (Some q) None)) (sym (ne-int_eq p v differs)) (no differs)

-- from the least id on
pub from_least : (ways : BTreeMap (ℤ × ℤ) (Option ℕ)) (v : ℤ) → AreLow ways → (z : ℤ) → Unit {0} → IsSome (at_pair ways v z)
    → IsFromStart pair_cmp (Included (v, negsuc greatest)) (v, z)
from_least ways v low z any some = pair_le v (negsuc greatest) z (low v z some)

pub least_from : (v p q : ℤ) → IsFromStart pair_cmp (Included (v, negsuc greatest)) (p, q) → (v <ℤ p) ⊎ ((v ≡ p) × Unit {0})
least_from v p q h = elim (le_pair v (negsuc greatest) p q h) as (λ _. (v <ℤ p) ⊎ ((v ≡ p) × Unit {0})) [ inl less ↦ inl less | inr same ↦ inr (same.0, tt) ]

-- after another
pub from_after : (ways : BTreeMap (ℤ × ℤ) (Option ℕ)) (v x z : ℤ) → x <ℤ z → IsSome (at_pair ways v z) → IsFromStart pair_cmp (Excluded (v, x)) (v, z)
from_after ways v x z above some = pair_lt v x z above

pub after_from : (v x p q : ℤ) → IsFromStart pair_cmp (Excluded (v, x)) (p, q) → (v <ℤ p) ⊎ ((v ≡ p) × (x <ℤ q))
after_from v x p q h = lt_pair v x p q h
