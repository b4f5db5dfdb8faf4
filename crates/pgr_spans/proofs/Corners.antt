-- The ids of the places with values that differ, one place after another.
use Rattle.std.proofs.Common.{◌≡◌, ⊎_elim, ℕ, ◌+◌, ◌<◌, true, false, List, [], ◌∷◌, ◌++◌, length, get_or, Option, None, ℤ, pos, sym, subst, ◌∙◌, ap, arith, ◌↔◌, Less}
use Rattle.std.specs.List.{Contains}
use Rattle.std.specs.Ordering.{int_cmp}
use Rattle.std.proofs.lemmas.Bool.{cases_eq}
use Rattle.std.proofs.lemmas.List.Elements.{Contains-push, Contains-push_cases, Contains-append_left, Contains-get_or}
use Rattle.std.proofs.lemmas.List.Quantifiers.{all_pairs_push}
use Rattle.pgr_outside.specs.Lists.{IsStrictlyRising}
use Rattle.pgr_numbers.specs.Names.{id_at}
use Rattle.pgr_spans.specs.declared.seen.Seen.{Seen}
use Rattle.pgr_spans.specs.Seen.{parts}
use Rattle.pgr_spans.specs.Member.{ArePointsAt}

-- the ids of the places below n with values that differ, rising
pub record ArePointsUpTo (names : List ℤ) (found : List (Option Seen)) (n : ℕ) (points : List ℤ) : Type 0 where
  pub rise : IsStrictlyRising int_cmp points
  pub each : (id : ℤ) → Contains points id ↔ ((v : ℕ) × (v < n) × (parts (get_or found v None) ≡ true) × (id_at names v ≡ id))

pub points_none : (names : List ℤ) (found : List (Option Seen)) → ArePointsUpTo names found 0 []
points_none names found = record {
  rise = λ i j d before inside. absurd (omega arith);
  each = λ id. ((λ (k, inside, is). absurd (omega arith)), (λ (v, below, parted, is). absurd (omega arith)));
}

-- a place whose values don't differ
pub points_skip : (names : List ℤ) (found : List (Option Seen)) (n : ℕ) (points : List ℤ) → parts (get_or found n None) ≡ false → ArePointsUpTo names found n points
    → ArePointsUpTo names found (n + 1) points
points_skip names found n points none are = record {
  rise = are.rise;
  each = λ id. (
    (λ has. let (v, below, parted, is) = (are.each id).0 has in (v, omega arith, parted, is)),
    (λ (v, below, parted, is). ⊎_elim (λ same. let no = ap (λ i. parts (get_or found i None)) same ∙ none in absurd cc) (λ differs. (are.each id).1 (v, omega arith, parted, is))
        (cases_eq v n)),
  );
}

-- and one whose values do
pub points_push : (names : List ℤ) (found : List (Option Seen)) (n : ℕ) (points : List ℤ) → IsStrictlyRising int_cmp names → n < length names → parts (get_or found n None) ≡ true
    → ArePointsUpTo names found n points → ArePointsUpTo names found (n + 1) (points ++ id_at names n ∷ [])
points_push names found n points rise inside parted are = record {
  rise = all_pairs_push (λ x y. int_cmp x y ≡ Less) points (id_at names n) are.rise (λ k d below.
      let (v, v_below, v_parted, is) = (are.each (get_or points k d)).0 (Contains-get_or points k d below) in
      subst (λ x. int_cmp x (id_at names n) ≡ Less) is (rise v n (pos 0) v_below inside));
  each = λ id. (
    (λ has. ⊎_elim
        (λ old. let (v, below, v_parted, is) = (are.each id).0 old in (v, omega arith, v_parted, is))
        (λ last. (n, omega arith, parted, last))
        (Contains-push_cases points (id_at names n) id has)),
    (λ (v, below, v_parted, is). ⊎_elim
        (λ same. subst (Contains (points ++ id_at names n ∷ [])) (sym (ap (id_at names) same) ∙ is) (Contains-push points (id_at names n)))
        (λ differs. Contains-append_left points (id_at names n ∷ []) id ((are.each id).1 (v, omega arith, v_parted, is)))
        (cases_eq v n)),
  );
}

-- after all places
pub points_all : (names : List ℤ) (found : List (Option Seen)) (n : ℕ) (points : List ℤ) → n ≡ length names → ArePointsUpTo names found n points → ArePointsAt names found points
points_all names found n points all are = record {
  rise = are.rise;
  each = λ id. subst (λ m. Contains points id ↔ ((v : ℕ) × (v < m) × (parts (get_or found v None) ≡ true) × (id_at names v ≡ id))) all (are.each id);
}
