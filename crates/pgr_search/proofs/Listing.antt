-- The list of settled vertices beside their labels: how it grows, and how it takes the labels away again.
use Rattle.std.proofs.Common.{◌≡◌, ℕ, suc, ◌+◌, ◌<◌, ◌≤◌, ◌^◌, ◌⊎◌, inl, inr, ⊎_elim, cond, List, [], ◌∷◌, Option, Some, None, IsNone, All, length, get_or, set, refl, sym, ap, ◌∙◌, subst, arith}
use Rattle.std.specs.Option.{is_some}
use Rattle.std.specs.List.{count_by}
use Rattle.std.proofs.lemmas.Bool.{cases_eq, cases_lt}
use Rattle.std.proofs.lemmas.Option.{none-some}
use Rattle.std.proofs.lemmas.List.{get_or-set_same, get_or-set_other, length-set, get_or_default, get_or_past}
use Rattle.std.proofs.lemmas.List.Sums.{sum_by-set, sum_by-cons, count_by-le-length}
use Rattle.pgr_walks.specs.declared.label.Label.{Label}
use Rattle.pgr_search.specs.Settled.{IsListed}

-- each label that is left is that of a vertex at a place from k on
pub record IsForgotten (labels : List (Option Label)) (order : List ℕ) (k count : ℕ) : Type 0 where
  pub inside : (i : ℕ) → i < count → get_or order i 0 < length labels
  pub left : (v : ℕ) (label : Label) → get_or labels v None ≡ Some label → (i : ℕ) × (k ≤ i) × (i < count) × (get_or order i 0 ≡ v)

pub none_forgotten : (labels : List (Option Label)) (order : List ℕ) (count : ℕ) → IsListed labels order count → IsForgotten labels order 0 count
none_forgotten labels order count h = record {
  inside = h.inside;
  left = λ v label e. (let i = h.listed v label e in (i.0, omega arith, i.1, i.2));
}

pub one_forgotten : (labels : List (Option Label)) (order : List ℕ) (k count : ℕ) → k < count → IsForgotten labels order k count
    → IsForgotten (set labels (get_or order k 0) None) order (k + 1) count
one_forgotten labels order k count lt h = record {
  inside = λ i below. omega (arith, h.inside i below, length-set labels (get_or order k 0) None);
  left = λ v label e. at v label e (cases_eq v (get_or order k 0));
}
  where
    at : (v : ℕ) (label : Label) → get_or (set labels (get_or order k 0) None) v None ≡ Some label → (v ≡ get_or order k 0) ⊎ (v ≡ get_or order k 0 → ⊥)
        → (i : ℕ) × (k + 1 ≤ i) × (i < count) × (get_or order i 0 ≡ v)
    at v label e (inl same) =
        absurd (none-some label
        (sym (get_or-set_same labels (get_or order k 0) None None (h.inside k lt)) ∙ ap (λ x. get_or (set labels (get_or order k 0) None) x None) (sym same) ∙ e))
    at v label e (inr other) =
        let i = h.left v label (sym (get_or-set_other labels (get_or order k 0) v None None other) ∙ e) in
        let later : k + 1 ≤ i.0 =
        ⊎_elim (λ (same : i.0 ≡ k). absurd (other (sym i.3 ∙ ap (λ x. get_or order x 0) same))) (λ (differs : i.0 ≡ k → ⊥). omega (arith, i.1)) (cases_eq i.0 k) in
        (i.0, later, i.2, i.3)

pub all_forgotten : (labels : List (Option Label)) (order : List ℕ) (k count : ℕ) → count ≤ k → IsForgotten labels order k count → All IsNone labels
all_forgotten labels order k count end h = λ v d lt. subst IsNone (get_or_default labels v None d lt) (at v (get_or labels v None) refl)
  where
    at : (v : ℕ) (found : Option Label) → get_or labels v None ≡ found → IsNone found
    at v None e = refl
    at v (Some label) e = let i = h.left v label e in absurd (omega (arith, i.1, i.2))

-- where no vertex has a label none is counted
none_counted : (labels : List (Option Label)) → ((k : ℕ) → k < length labels → get_or labels k None ≡ None) → count_by is_some labels ≡ 0
none_counted [] none = refl
none_counted (label ∷ labels) none =
    let first : label ≡ None = none 0 (omega arith) in
    let rest : count_by is_some labels ≡ 0 = none_counted labels (λ k lt. none (suc k) (omega arith)) in
    let here : ◌≡◌ {A = ℕ} (cond (is_some label) 1 0) 0 = ap (λ (o : Option Label). cond (is_some o) 1 0) first in
    omega (arith, sum_by-cons (λ (o : Option Label). cond (is_some o) 1 0) label labels, rest, here)

pub none_is : (o : Option Label) → IsNone o → o ≡ None
none_is None e = refl
none_is (Some label) e = cc

pub no_label : (labels : List (Option Label)) → All IsNone labels → (v : ℕ) → get_or labels v None ≡ None
no_label labels none v = at (cases_lt v (length labels))
  where
    at : (v < length labels) ⊎ (length labels ≤ v) → get_or labels v None ≡ None
    at (inl below) = none_is (get_or labels v None) (none v None below)
    at (inr past) = get_or_past labels v None past

-- no vertex is settled
pub none_listed : (labels : List (Option Label)) (order : List ℕ) → length labels < 2 ^ 32 → length order ≡ length labels → All IsNone labels → IsListed labels order 0
none_listed labels order small size none = record {
  small = small;
  size = size;
  counted = sym (none_counted labels (λ k lt. no_label labels none k));
  inside = λ i lt. absurd (omega arith);
  listed = λ v label e. absurd (none-some label (sym (no_label labels none v) ∙ e));
}

-- a vertex that isn't settled has a place in the list
pub room_left : (labels : List (Option Label)) (order : List ℕ) (count v : ℕ) (label : Label) → IsListed labels order count → v < length labels → get_or labels v None ≡ None
    → count < length order
room_left labels order count v label h below free =
    let more = sum_by-set (λ (o : Option Label). cond (is_some o) 1 0) labels v (Some label) None below in
    let none : ◌≡◌ {A = ℕ} (cond (is_some (get_or labels v None)) 1 0) 0 = ap (λ (o : Option Label). cond (is_some o) 1 0) free in
    let most = count_by-le-length is_some (set labels v (Some label)) in
    omega (arith, more, none, most, length-set labels v (Some label), h.counted, h.size)

-- one vertex more is settled
pub one_listed : (labels : List (Option Label)) (order : List ℕ) (count v : ℕ) (label : Label) → IsListed labels order count → v < length labels → get_or labels v None ≡ None
    → IsListed (set labels v (Some label)) (set order count v) (count + 1)
one_listed labels order count v label h below free = record {
  small = omega (arith, length-set labels v (Some label), h.small);
  size = length-set order count v ∙ h.size ∙ sym (length-set labels v (Some label));
  counted = counted;
  inside = λ i lt. inside i lt (cases_eq i count);
  listed = λ u other e. listed u other e (cases_eq u v);
}
  where
    last : count < length order
    last = room_left labels order count v label h below free

    counted : count + 1 ≡ count_by is_some (set labels v (Some label))
    counted =
        let more = sum_by-set (λ (o : Option Label). cond (is_some o) 1 0) labels v (Some label) None below in
        let none : ◌≡◌ {A = ℕ} (cond (is_some (get_or labels v None)) 1 0) 0 = ap (λ (o : Option Label). cond (is_some o) 1 0) free in
        omega (arith, more, none, h.counted)

    inside : (i : ℕ) → i < count + 1 → (i ≡ count) ⊎ (i ≡ count → ⊥) → get_or (set order count v) i 0 < length (set labels v (Some label))
    inside i lt (inl same) = omega (arith, ap (λ x. get_or (set order count v) x 0) same, get_or-set_same order count v 0 last, length-set labels v (Some label), below)
    inside i lt (inr other) = omega (arith, get_or-set_other order count i v 0 other, length-set labels v (Some label), h.inside i (omega arith))

    listed : (u : ℕ) (other : Label) → get_or (set labels v (Some label)) u None ≡ Some other → (u ≡ v) ⊎ (u ≡ v → ⊥)
        → (i : ℕ) × (i < count + 1) × (get_or (set order count v) i 0 ≡ u)
    listed u other e (inl same) = (count, omega arith, get_or-set_same order count v 0 last ∙ sym same)
    listed u other e (inr differs) =
        let i = h.listed u other (sym (get_or-set_other labels v u (Some label) None differs) ∙ e) in
        (i.0, omega (arith, i.1), get_or-set_other order count i.0 v 0 (λ same. omega (arith, i.1, same)) ∙ i.2)
