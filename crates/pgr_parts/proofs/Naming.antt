-- How members get a name, one after another.
use Rattle.std.proofs.Common.{◌≡◌, ℕ, ◌+◌, ◌<◌, ◌≤◌, ⊎_elim, List, Contains, length, get_or, set, sym, ap, ◌∙◌, subst, arith, cond, count_by}
use Rattle.std.proofs.lemmas.Bool.{cases_lt, cases_eq}
use Rattle.std.proofs.lemmas.List.{get_or-set_same, get_or-set_other, length-set}
use Rattle.std.proofs.lemmas.List.Elements.{Contains-get_or}
use Rattle.std.proofs.lemmas.List.Sums.{sum_by-set}
use Rattle.pgr_parts.specs.declared.standing.Standing.{Standing}
use Rattle.pgr_parts.specs.declared.standing.Standing.TheVariants.{Unseen, Named}
use Rattle.pgr_parts.specs.Standings.{is_unseen, AreNamed}
use Rattle.pgr_parts.proofs.Places.{at_zero}

-- the first n members have the name, and what is none of them stands as before
pub record AreNamedUpTo (members : List ℕ) (n name : ℕ) (before now : List Standing) : Type 0 where
  pub size_is : length now ≡ length before
  pub named : (k : ℕ) → k < n → get_or now (get_or members k 0) Unseen ≡ Named name
  pub others : (v : ℕ) → ((k : ℕ) → k < n → k < length members → get_or members k 0 ≡ v → ⊥) → get_or now v Unseen ≡ get_or before v Unseen
  pub fewer : count_by is_unseen now ≤ count_by is_unseen before

pub AreNamedUpTo-more : (members : List ℕ) (n name v : ℕ) (before now : List Standing) → AreNamedUpTo members n name before now → n < length members → v ≡ get_or members n 0
    → v < length before → AreNamedUpTo members (n + 1) name before (set now v (Named name))
AreNamedUpTo-more members n name v before now h inside is below = record {
  size_is = length-set now v (Named name) ∙ h.size_is;
  named = λ k lt. ⊎_elim (λ (same : get_or members k 0 ≡ v). ap (λ x. get_or (set now v (Named name)) x Unseen) same ∙ here)
      (λ differs. get_or-set_other now v (get_or members k 0) (Named name) Unseen differs ∙ h.named k (earlier k lt differs)) (cases_eq (get_or members k 0) v);
  others = λ u none. get_or-set_other now v u (Named name) Unseen (λ same. none n (omega arith) inside (sym is ∙ sym same)) ∙ h.others u (λ k lt. none k (omega arith));
  fewer =
      let counted = sum_by-set (λ t. cond (is_unseen t) 1 0) now v (Named name) Unseen (omega (arith, h.size_is)) in
      omega (arith, h.fewer);
}
  where
    here : get_or (set now v (Named name)) v Unseen ≡ Named name
    here = get_or-set_same now v (Named name) Unseen (omega (arith, h.size_is))

    earlier : (k : ℕ) → k < n + 1 → (get_or members k 0 ≡ v → ⊥) → k < n
    earlier k lt differs = ⊎_elim (λ less. less) (λ (ge : n ≤ k). absurd (differs (let same : k ≡ n = omega arith in ap (λ x. get_or members x 0) same ∙ sym is))) (cases_lt k n)

pub AreNamed-from_all : (members : List ℕ) (n name : ℕ) (before now : List Standing) → AreNamedUpTo members n name before now → length members ≤ n
    → AreNamed members name before now
AreNamed-from_all members n name before now h past = record {
  size_is = h.size_is;
  named = λ v there. (let at = at_zero members v there in ap (λ x. get_or now x Unseen) (sym at) ∙ h.named there.0 (omega (arith, there.1)));
  others = λ v none. h.others v (λ k lt inside is. none (subst (Contains members) is (Contains-get_or members k 0 inside)));
  fewer = h.fewer;
}

-- the same lists by other names
pub AreNamed-same : (members members' : List ℕ) (name : ℕ) (before before' after after' : List Standing) → members ≡ members' → before ≡ before' → after' ≡ after
    → AreNamed members name before after → AreNamed members' name before' after'
AreNamed-same members members' name before before' after after' e f g h =
    let P : List ℕ → Type 0 = λ xs. AreNamed xs name before' after' in
    let Q : List Standing → Type 0 = λ xs. AreNamed members name xs after' in
    let R : List Standing → Type 0 = λ xs. AreNamed members name before xs in
    subst P e (subst Q f (subst R (sym g) h))
