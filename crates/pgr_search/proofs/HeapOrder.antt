-- The order of a heap's entries: how it comes back while an entry moves up or down, and that the first entry is least.
use Rattle.std.proofs.Common.{◌≡◌, ℕ, zero, suc, ◌+◌, ◌-◌, ◌<◌, ◌≤◌, ◌⊎◌, inl, inr, true, false, List, length, refl, sym, ap, ◌∙◌, arith, Ordering}
use Rattle.std.proofs.lemmas.Bool.{cases_eq}
use Rattle.std.specs.Cmp.{IsTotalOrder}
use Rattle.pgr_search.specs.declared.heap.Waiting.{Waiting}
use Rattle.pgr_search.specs.Heap.{is_before, key_in, vertex_in, place_at, above, IsOrdered, IsOrderedUnder, IsOrderedOver}
use Rattle.pgr_search.proofs.KeyOrder.{before_itself, one_before, not_before-trans, not_before_at}

-- the entries at two places, and what is kept for their vertices, were exchanged
pub record IsExchanged {K : Type 0} (places : List ℕ) (entries : List (Waiting K)) (places' : List ℕ) (entries' : List (Waiting K)) (a b : ℕ) : Type 0 where
  pub len : length entries' ≡ length entries
  pub size : length places' ≡ length places
  pub key_a : key_in entries' a ≡ key_in entries b
  pub key_b : key_in entries' b ≡ key_in entries a
  pub key_other : (p : ℕ) → (p ≡ a → ⊥) → (p ≡ b → ⊥) → key_in entries' p ≡ key_in entries p
  pub vertex_a : vertex_in entries' a ≡ vertex_in entries b
  pub vertex_b : vertex_in entries' b ≡ vertex_in entries a
  pub vertex_other : (p : ℕ) → (p ≡ a → ⊥) → (p ≡ b → ⊥) → vertex_in entries' p ≡ vertex_in entries p
  pub place_a : place_at places' (vertex_in entries b) ≡ a + 1
  pub place_b : place_at places' (vertex_in entries a) ≡ b + 1
  pub place_other : (v : ℕ) → (v ≡ vertex_in entries a → ⊥) → (v ≡ vertex_in entries b → ⊥) → place_at places' v ≡ place_at places v

module _ {K : Type 0} (cmp : K → K → Ordering) (total : IsTotalOrder cmp) where
  -- no entry is before the first
  pub first_is_least : (entries : List (Waiting K)) → IsOrdered cmp entries → (fuel p : ℕ) → p ≤ fuel → p < length entries
      → is_before cmp (key_in entries p) (key_in entries 0) ≡ false
  first_is_least entries ordered zero p enough lt =
      not_before_at cmp total (key_in entries p) (key_in entries 0) (key_in entries 0) (key_in entries 0) (ap (key_in entries) (let e : p ≡ 0 = omega arith in e)) refl
      (before_itself cmp total (key_in entries 0))
  first_is_least entries ordered (suc fuel) p enough lt =
      by (cases_eq p 0) (λ some. first_is_least entries ordered fuel (above p) (omega arith) (omega arith))
    where
      by : (p ≡ 0) ⊎ (p ≡ 0 → ⊥) → ((p ≡ 0 → ⊥) → is_before cmp (key_in entries (above p)) (key_in entries 0) ≡ false)
          → is_before cmp (key_in entries p) (key_in entries 0) ≡ false
      by (inl e) top =
          not_before_at cmp total (key_in entries p) (key_in entries 0) (key_in entries 0) (key_in entries 0) (ap (key_in entries) e) refl
          (before_itself cmp total (key_in entries 0))
      by (inr some) top =
          not_before-trans cmp total (key_in entries p) (key_in entries (above p)) (key_in entries 0) (ordered p (omega arith) lt) (top some)

  -- an entry that is before the one above it changes places with that
  module _ (places : List ℕ) (entries : List (Waiting K)) (places' : List ℕ) (entries' : List (Waiting K)) (at : ℕ) (some : 0 < at) (below : at < length entries)
      (x : IsExchanged places entries places' entries' at (above at)) (o : IsOrderedUnder cmp entries at)
      (rise : is_before cmp (key_in entries at) (key_in entries (above at)) ≡ true) where
    rises_at : (p : ℕ) → 0 < p → p < length entries → (p ≡ above at → ⊥) → (p ≡ at) ⊎ (p ≡ at → ⊥) → (above p ≡ at) ⊎ (above p ≡ at → ⊥)
        → (above p ≡ above at) ⊎ (above p ≡ above at → ⊥) → is_before cmp (key_in entries' p) (key_in entries' (above p)) ≡ false
    rises_at p one lt not_above (inl e) q r =
        not_before_at cmp total (key_in entries' p) (key_in entries' (above p)) (key_in entries (above at)) (key_in entries at) (ap (key_in entries') e ∙ x.key_a)
        (ap (λ n. key_in entries' (above n)) e ∙ x.key_b) (one_before cmp total (key_in entries at) (key_in entries (above at)) rise)
    rises_at p one lt not_above (inr differs) (inl e) r =
        not_before_at cmp total (key_in entries' p) (key_in entries' (above p)) (key_in entries p) (key_in entries (above at)) (x.key_other p differs not_above)
        (ap (key_in entries') e ∙ x.key_a) (o.spanned p one lt some e)
    rises_at p one lt not_above (inr differs) (inr f) (inl e) =
        not_before_at cmp total (key_in entries' p) (key_in entries' (above p)) (key_in entries p) (key_in entries at) (x.key_other p differs not_above)
        (ap (key_in entries') e ∙ x.key_b)
        (not_before-trans cmp total (key_in entries p) (key_in entries (above p)) (key_in entries at) (o.others p one lt differs)
        (not_before_at cmp total (key_in entries (above p)) (key_in entries at) (key_in entries (above at)) (key_in entries at) (ap (key_in entries) e) refl
        (one_before cmp total (key_in entries at) (key_in entries (above at)) rise)))
    rises_at p one lt not_above (inr differs) (inr f) (inr g) =
        not_before_at cmp total (key_in entries' p) (key_in entries' (above p)) (key_in entries p) (key_in entries (above p)) (x.key_other p differs not_above)
        (x.key_other (above p) f g) (o.others p one lt differs)

    rises_over : (p : ℕ) → 0 < p → p < length entries → 0 < above at → above p ≡ above at → (p ≡ at) ⊎ (p ≡ at → ⊥)
        → is_before cmp (key_in entries' p) (key_in entries' (above (above at))) ≡ false
    rises_over p one lt inner e (inl same) =
        not_before_at cmp total (key_in entries' p) (key_in entries' (above (above at))) (key_in entries (above at)) (key_in entries (above (above at)))
        (ap (key_in entries') same ∙ x.key_a) (x.key_other (above (above at)) (λ f. omega arith) (λ f. omega arith))
        (o.others (above at) inner (omega arith) (λ f. omega arith))
    rises_over p one lt inner e (inr differs) =
        not_before_at cmp total (key_in entries' p) (key_in entries' (above (above at))) (key_in entries p) (key_in entries (above (above at)))
        (x.key_other p differs (λ f. omega arith)) (x.key_other (above (above at)) (λ f. omega arith) (λ f. omega arith))
        (not_before-trans cmp total (key_in entries p) (key_in entries (above at)) (key_in entries (above (above at)))
        (not_before_at cmp total (key_in entries p) (key_in entries (above at)) (key_in entries p) (key_in entries (above p)) refl (ap (key_in entries) (sym e))
        (o.others p one lt differs)) (o.others (above at) inner (omega arith) (λ f. omega arith)))

    pub rises : IsOrderedUnder cmp entries' (above at)
    rises = record {
      others = λ p one lt not_above. rises_at p one (omega (arith, x.len)) not_above (cases_eq p at) (cases_eq (above p) at) (cases_eq (above p) (above at));
      spanned = λ p one lt inner e. rises_over p one (omega (arith, x.len)) inner e (cases_eq p at);
    }

  -- an entry changes places with the least under it, which is before it
  module _ (places : List ℕ) (entries : List (Waiting K)) (places' : List ℕ) (entries' : List (Waiting K)) (at child : ℕ) (some : 0 < child) (below : child < length entries)
      (under : above child ≡ at) (x : IsExchanged places entries places' entries' at child) (o : IsOrderedOver cmp entries at)
      (rise : is_before cmp (key_in entries child) (key_in entries at) ≡ true)
      (least : (p : ℕ) → 0 < p → p < length entries → above p ≡ at → is_before cmp (key_in entries p) (key_in entries child) ≡ false) where
    sinks_at : (p : ℕ) → 0 < p → p < length entries → (above p ≡ child → ⊥) → (p ≡ child) ⊎ (p ≡ child → ⊥) → (above p ≡ at) ⊎ (above p ≡ at → ⊥) → (p ≡ at) ⊎ (p ≡ at → ⊥)
        → is_before cmp (key_in entries' p) (key_in entries' (above p)) ≡ false
    sinks_at p one lt not_under (inl e) q r =
        not_before_at cmp total (key_in entries' p) (key_in entries' (above p)) (key_in entries at) (key_in entries child) (ap (key_in entries') e ∙ x.key_b)
        (ap (key_in entries') (ap above e ∙ under) ∙ x.key_a) (one_before cmp total (key_in entries child) (key_in entries at) rise)
    sinks_at p one lt not_under (inr differs) (inl e) r =
        not_before_at cmp total (key_in entries' p) (key_in entries' (above p)) (key_in entries p) (key_in entries child) (x.key_other p (λ f. omega arith) differs)
        (ap (key_in entries') e ∙ x.key_a) (least p one lt e)
    sinks_at p one lt not_under (inr differs) (inr f) (inl e) =
        not_before_at cmp total (key_in entries' p) (key_in entries' (above p)) (key_in entries child) (key_in entries (above p)) (ap (key_in entries') e ∙ x.key_a)
        (x.key_other (above p) (λ h. omega arith) (λ h. omega arith))
        (not_before_at cmp total (key_in entries child) (key_in entries (above p)) (key_in entries child) (key_in entries (above at)) refl (ap (λ n. key_in entries (above n)) e)
        (o.spanned child some below (omega arith) under))
    sinks_at p one lt not_under (inr differs) (inr f) (inr g) =
        not_before_at cmp total (key_in entries' p) (key_in entries' (above p)) (key_in entries p) (key_in entries (above p)) (x.key_other p g differs)
        (x.key_other (above p) f not_under) (o.others p one lt f)

    sinks_over : (p : ℕ) → 0 < p → p < length entries → above p ≡ child → is_before cmp (key_in entries' p) (key_in entries' (above child)) ≡ false
    sinks_over p one lt e =
        not_before_at cmp total (key_in entries' p) (key_in entries' (above child)) (key_in entries p) (key_in entries (above p))
        (x.key_other p (λ f. omega arith) (λ f. omega arith)) (ap (key_in entries') under ∙ x.key_a ∙ ap (key_in entries) (sym e)) (o.others p one lt (λ f. omega arith))

    pub sinks : IsOrderedOver cmp entries' child
    sinks = record {
      others = λ p one lt not_under. sinks_at p one (omega (arith, x.len)) not_under (cases_eq p child) (cases_eq (above p) at) (cases_eq p at);
      spanned = λ p one lt inner e. sinks_over p one (omega (arith, x.len)) e;
    }

  module _ (entries : List (Waiting K)) (at : ℕ) where
    -- where the one above isn't after it, an entry has risen far enough
    pub risen : IsOrderedUnder cmp entries at → (0 < at → is_before cmp (key_in entries at) (key_in entries (above at)) ≡ false) → IsOrdered cmp entries
    risen o top p one lt = by (cases_eq p at)
      where
        by : (p ≡ at) ⊎ (p ≡ at → ⊥) → is_before cmp (key_in entries p) (key_in entries (above p)) ≡ false
        by (inl e) =
            not_before_at cmp total (key_in entries p) (key_in entries (above p)) (key_in entries at) (key_in entries (above at)) (ap (key_in entries) e)
            (ap (λ n. key_in entries (above n)) e) (top (omega arith))
        by (inr differs) = o.others p one lt differs

    -- where none under it is before it, it has sunk far enough
    pub sunk : IsOrderedOver cmp entries at → ((p : ℕ) → 0 < p → p < length entries → above p ≡ at → is_before cmp (key_in entries p) (key_in entries at) ≡ false)
        → IsOrdered cmp entries
    sunk o none p one lt = by (cases_eq (above p) at)
      where
        by : (above p ≡ at) ⊎ (above p ≡ at → ⊥) → is_before cmp (key_in entries p) (key_in entries (above p)) ≡ false
        by (inl e) =
            not_before_at cmp total (key_in entries p) (key_in entries (above p)) (key_in entries p) (key_in entries at) refl (ap (key_in entries) e) (none p one lt e)
        by (inr differs) = o.others p one lt differs
