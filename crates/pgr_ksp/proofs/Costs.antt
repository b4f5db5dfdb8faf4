-- The least costs from the start are a consistent estimate.
use Rattle.std.proofs.Common.{◌≡◌, ◌≢◌, ℕ, Bool, length, take, drop, zero, suc, ◌+◌, ◌-◌, ◌<◌, ◌≤◌, ◌^◌, List, [], ◌∷◌, ◌++◌, Option, Some, None, refl, sym, ap, subst, ◌∙◌, arith, ◌⊎◌, inl, inr}
use Rattle.std.specs.Prelude.{slice_index_or}
use Rattle.std.proofs.lemmas.List.{length-append, length-take-le}
use Rattle.pgr_walks.specs.declared.link.LinkOf.{LinkOf}
use Rattle.pgr_walks.specs.declared.label.Label.{Label}
use Rattle.pgr_walks.specs.Walk.{IsWalk, cost_of}
use Rattle.pgr_walks.specs.Graph.{greatest, Fits}
use Rattle.pgr_walks.specs.Label.{AtMost, IsLabelFrom, label_of}
use Rattle.pgr_walks.proofs.LabelOrder.{AtMost-cost}
use Rattle.pgr_search.specs.Estimates.{IsConsistent}
use Rattle.pgr_ksp.specs.FromStart.{far, cost_or_far, cost_beyond}
use Rattle.pgr_ksp.specs.Sound.{CanSearch}
use Rattle.pgr_ksp.proofs.Alike.{walk-append, cost-append}

module _ (Has : LinkOf ℕ → Type 0) (s : ℕ) where
  -- along a link the least cost rises by no more than the link costs
  pub cost_step : (link : LinkOf ℕ) → Has link → (a b : Option Label) → IsLabelFrom Has s link.from a → IsLabelFrom Has s link.to b
      → ((label : Label) → b ≡ Some label → label.cost ≤ far) → cost_or_far b - 0 ≤ (cost_or_far a - 0) + link.cost
  cost_step link is_link None None la lb small = omega arith
  cost_step link is_link None (Some b) la lb small = omega (arith, small b refl)
  cost_step link is_link (Some a) None la lb small = absurd (lb (la.walk ++ link ∷ []) (walk-append Has s link.from link.to la.walk (link ∷ []) la.is_walk (is_link, refl, refl)))
  cost_step link is_link (Some a) (Some b) la lb small =
      let walk = walk-append Has s link.from link.to la.walk (link ∷ []) la.is_walk (is_link, refl, refl) in
      let most = AtMost-cost b (label_of (la.walk ++ link ∷ [])) (lb.least (la.walk ++ link ∷ []) walk) in
      omega (arith, most, cost-append la.walk (link ∷ []), ap (λ l. l.cost) la.label_is)

  -- so the costs of all labels from the start are a consistent estimate
  pub costs_consistent : (size : ℕ) (labels : List (Option Label)) → ((link : LinkOf ℕ) → Has link → (link.from < size) × (link.to < size))
      → ((v : ℕ) → v < size → IsLabelFrom Has s v (slice_index_or labels v None))
      → ((v : ℕ) (label : Label) → v < size → slice_index_or labels v None ≡ Some label → label.cost ≤ greatest)
      → IsConsistent Has (cost_beyond labels 0)
  costs_consistent size labels below is_label small link is_link =
      cost_step link is_link (slice_index_or labels link.from None) (slice_index_or labels link.to None) (is_label link.from (below link is_link).0)
      (is_label link.to (below link is_link).1)
      (λ label e. omega (arith, small link.to label (below link is_link).1 e))

-- they are small
pub cost_small : (o : Option Label) → ((label : Label) → o ≡ Some label → label.cost ≤ greatest) → cost_or_far o - 0 < 2 ^ 127
cost_small None h = omega arith
cost_small (Some label) h = omega (arith, h label refl)

-- marks that were written over all of others are as many
pub written_length : (n : ℕ) (new old : List Bool) → n ≡ length old → length new ≡ length old → length (take n (new ++ drop (length new) old)) ≡ length old
written_length n new old is same =
    omega (arith, is, same, length-take-le n (new ++ drop (length new) old) (omega (arith, is, same, length-append new (drop (length new) old))))

-- what a search needs holds again with other marks and labels, for as many vertices
pub can_again : (size : ℕ) (Has : LinkOf ℕ → Type 0) (s t : ℕ) (gone marks : List Bool) (costs room labels : List (Option Label)) → CanSearch size Has s t gone costs room
    → length marks ≡ length gone → length labels ≡ length room
    → CanSearch size Has s t marks costs labels
can_again size Has s t gone marks costs room labels can same_marks same_labels = record {
  fits = can.fits;
  differ = can.differ;
  s_below = can.s_below;
  t_below = can.t_below;
  marks = same_marks ∙ can.marks;
  costs_size = can.costs_size;
  room_size = same_labels ∙ can.room_size;
  small = can.small;
  consistent = can.consistent;
}

-- it holds at first, by the least costs from the start
pub can_start : (size : ℕ) (Has : LinkOf ℕ → Type 0) (s t : ℕ) (gone : List Bool) (costs room : List (Option Label)) → Fits Has → s ≢ t → s < size → t < size
    → length gone ≡ size → length costs ≡ size → length room ≡ size
    → ((link : LinkOf ℕ) → Has link → (link.from < size) × (link.to < size)) → ((v : ℕ) → v < size → IsLabelFrom Has s v (slice_index_or costs v None))
    → ((v : ℕ) (label : Label) → v < size → slice_index_or costs v None ≡ Some label → label.cost ≤ greatest) → CanSearch size Has s t gone costs room
can_start size Has s t gone costs room fits differ s_below t_below marks costs_size room_size below is_label small = record {
  fits = fits;
  differ = differ;
  s_below = s_below;
  t_below = t_below;
  marks = marks;
  costs_size = costs_size;
  room_size = room_size;
  small = λ v h. cost_small (slice_index_or costs v None) (λ label e. small v label h e);
  consistent = costs_consistent Has s size costs below is_label small;
}
