-- How the labels of targets are set, one target after another.
use Rattle.std.proofs.Common.{◌≡◌, ℕ, ◌+◌, ◌<◌, ◌⊎◌, inl, inr, ⊎_elim, List, Option, Some, None, Contains, length, get_or, set, sym, ap, ◌∙◌, subst, arith}
use Rattle.std.proofs.lemmas.Bool.{cases_eq}
use Rattle.std.proofs.lemmas.List.{get_or-set_same, get_or-set_other, get_or_default}
use Rattle.std.proofs.lemmas.List.Elements.{Contains-get_or}
use Rattle.pgr_walks.specs.declared.label.Label.{Label}
use Rattle.pgr_search.specs.Start.{empty_label, StartsAt}

-- the targets below a place have the label of the walk without links, and no vertex that is no target has a label
pub record StartsUpTo (targets : List ℕ) (labels : List (Option Label)) (n : ℕ) : Type 0 where
  pub marked : (k : ℕ) → k < n → get_or labels (get_or targets k 0) None ≡ Some empty_label
  pub others : (v : ℕ) (label : Label) → get_or labels v None ≡ Some label → Contains targets v × (label ≡ empty_label)

-- one target more
pub StartsUpTo-more : (targets : List ℕ) (labels : List (Option Label)) (n : ℕ) → n < length targets → get_or targets n 0 < length labels → StartsUpTo targets labels n
    → StartsUpTo targets (set labels (get_or targets n 0) (Some empty_label)) (n + 1)
StartsUpTo-more targets labels n lt below s = record {
  marked = λ k h. mark k h (cases_eq (get_or targets k 0) t);
  others = λ v label e. other v label e (cases_eq v t);
}
  where
    t : ℕ
    t = get_or targets n 0

    mark : (k : ℕ) → k < n + 1 → (get_or targets k 0 ≡ get_or targets n 0) ⊎ (get_or targets k 0 ≡ get_or targets n 0 → ⊥)
        → get_or (set labels (get_or targets n 0) (Some empty_label)) (get_or targets k 0) None ≡ Some empty_label
    mark k h (inl same) =
        ap (λ x. get_or (set labels (get_or targets n 0) (Some empty_label)) x None) same ∙ get_or-set_same labels (get_or targets n 0) (Some empty_label) None below
    mark k h (inr differ) =
        let earlier : k < n = ⊎_elim (λ (e : k ≡ n). absurd (differ (ap (λ x. get_or targets x 0) e))) (λ (ne : k ≡ n → ⊥). omega arith) (cases_eq k n) in
        get_or-set_other labels (get_or targets n 0) (get_or targets k 0) (Some empty_label) None differ ∙ s.marked k earlier

    other : (v : ℕ) (label : Label) → get_or (set labels (get_or targets n 0) (Some empty_label)) v None ≡ Some label → (v ≡ get_or targets n 0) ⊎ (v ≡ get_or targets n 0 → ⊥)
        → Contains targets v × (label ≡ empty_label)
    other v label e (inl same) =
        let now : Some empty_label ≡ Some label = sym (get_or-set_same labels (get_or targets n 0) (Some empty_label) None below)
        ∙ ap (λ x. get_or (set labels (get_or targets n 0) (Some empty_label)) x None) (sym same) ∙ e in
        (subst (λ x. Contains targets x) (sym same) (Contains-get_or targets n 0 lt), cc)
    other v label e (inr differ) =
        s.others v label (sym (get_or-set_other labels (get_or targets n 0) v (Some empty_label) None differ) ∙ e)

-- the whole list
pub StartsAt-from_all : (targets : List ℕ) (labels : List (Option Label)) → StartsUpTo targets labels (length targets) → StartsAt targets labels
StartsAt-from_all targets labels s = record {
  marked = λ t is. (let at = s.marked is.0 is.1 in let e : get_or targets is.0 0 ≡ t = get_or_default targets is.0 0 t is.1 ∙ is.2 in ap (λ x. get_or labels x None) (sym e) ∙ at);
  others = s.others;
}

-- where no vertex has a label, no target is marked yet
pub StartsUpTo-none : (targets : List ℕ) (labels : List (Option Label)) → ((v : ℕ) → get_or labels v None ≡ None) → StartsUpTo targets labels 0
StartsUpTo-none targets labels empty = record {
  marked = λ k h. absurd (omega arith);
  others = λ v label e. let clash : None ≡ Some label = sym (empty v) ∙ e in cc;
}
