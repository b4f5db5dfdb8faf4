-- Labels of a search that may stop: a vertex has its least label or none, and none only where no label that is held is greater.
use Rattle.std.proofs.Common.{◌⊎◌, inl, inr, refl, sym, ◌∙◌, subst, arith}
use Rattle.std.proofs.lemmas.Bool.{cases_lt}
use Rattle.std.proofs.lemmas.Option.{none-some}
use Rattle.std.proofs.lemmas.List.{get_or_past}
use Rattle.std.specs.Prelude.{◌≡◌, ℕ, ◌<◌, ◌≤◌, List, ◌∷◌, Option, Some, None, IsSome, All, Contains, length, slice_index_or}
use Rattle.pgr_walks.specs.declared.link.LinkOf.{LinkOf}
use Rattle.pgr_walks.specs.declared.label.Label.{Label}
use Rattle.pgr_walks.specs.Walk.{cost_of}
use Rattle.pgr_walks.specs.Graph.{IsLinkOf}
use Rattle.pgr_walks.specs.Label.{AtMost, LeadsTo, IsLeastLabel, IsLabel, HoldsLabels, label_of}
use Rattle.pgr_search.specs.declared.bound.Bound.{Bound}
use Rattle.pgr_search.specs.declared.bound.Bound.TheVariants.{Everywhere, Wanted, Limit}

-- the label of a vertex, if it has one
abbrev pub label_at : List (Option Label) → ℕ → Option Label
label_at labels v = slice_index_or labels v None

-- each label is the least of its vertex, and with a vertex each vertex has one that a least walk from it comes to
pub record HoldsFinalLabels (size : ℕ) (Has : LinkOf ℕ → Type 0) (targets : List ℕ) (labels : List (Option Label)) : Type 0 where
  pub size_is : length labels ≡ size
  pub least : (v : ℕ) (label : Label) → label_at labels v ≡ Some label → IsLeastLabel Has targets v label
  pub along : (v : ℕ) (link : LinkOf ℕ) (rest : List (LinkOf ℕ)) → label_at labels v ≡ Some (label_of (link ∷ rest)) → LeadsTo Has targets v (link ∷ rest)
      → IsSome (label_at labels link.to)

-- final labels up to some label: no walk from a vertex that has none has a label less than one that is held
pub record HoldsLabelsUpTo (size : ℕ) (Has : LinkOf ℕ → Type 0) (targets : List ℕ) (labels : List (Option Label)) : Type 0 where
  pub final : HoldsFinalLabels size Has targets labels
  pub others : (v : ℕ) (walk : List (LinkOf ℕ)) → v < size → label_at labels v ≡ None → LeadsTo Has targets v walk → (u : ℕ) (label : Label) → label_at labels u ≡ Some label
      → AtMost label (label_of walk)

-- each wanted vertex has its least label, or none where no walk leads from it to a target; and no label is beyond those of all of them
pub record ReachesWanted (Has : LinkOf ℕ → Type 0) (targets wanted : List ℕ) (labels : List (Option Label)) : Type 0 where
  pub final : (w : ℕ) → Contains wanted w → IsLabel Has targets w (label_at labels w)
  pub none_beyond : (v : ℕ) (label : Label) → label_at labels v ≡ Some label
      → (w : ℕ) × (Contains wanted w × ((other : Label) → label_at labels w ≡ Some other → AtMost label other))

-- a vertex has its least label where that costs at most the limit, and else none
pub record KeepsLimit (size : ℕ) (Has : LinkOf ℕ → Type 0) (targets : List ℕ) (limit : ℕ) (labels : List (Option Label)) : Type 0 where
  pub within : (v : ℕ) (label : Label) → label_at labels v ≡ Some label → label.cost ≤ limit
  pub beyond_it : (v : ℕ) (walk : List (LinkOf ℕ)) → v < size → label_at labels v ≡ None → LeadsTo Has targets v walk → limit < cost_of walk

-- final labels, and that of a vertex is known: its least label, or none where no walk leads from it to a target
pub record HoldsLabelsFrom (size : ℕ) (Has : LinkOf ℕ → Type 0) (targets : List ℕ) (labels : List (Option Label)) (v : ℕ) : Type 0 where
  pub final : HoldsFinalLabels size Has targets labels
  pub label : IsLabel Has targets v (label_at labels v)

-- which vertices have their labels when a search ends at a bound
abbrev pub MeetsBound : ℕ → (LinkOf ℕ → Type 0) → List ℕ → Bound → List (Option Label) → Type 0
MeetsBound size Has targets Everywhere labels = (v : ℕ) → v < size → IsLabel Has targets v (label_at labels v)
MeetsBound size Has targets (Wanted wanted) labels = ReachesWanted Has targets wanted.now labels
MeetsBound size Has targets (Limit limit) labels = KeepsLimit size Has targets limit labels

-- the wanted vertices of a bound are vertices of the graph
abbrev pub IsBoundOf : ℕ → Bound → Type 0
IsBoundOf size Everywhere = Unit {0}
IsBoundOf size (Wanted wanted) = All (λ w. w < size) wanted.now
IsBoundOf size (Limit limit) = Unit {0}

-- a label that isn't none
IsSome-from : {X : Type 0} (o : Option X) → (o ≡ None → ⊥) → IsSome o
IsSome-from None some = absurd (some refl)
IsSome-from (Some x) some = refl

-- the labels of all vertices of a graph are final
pub all_final : (size : ℕ) (ins : ℕ → List (LinkOf ℕ)) (targets : List ℕ) (labels : List (Option Label)) → HoldsLabels size (IsLinkOf size ins) targets labels
    → HoldsFinalLabels size (IsLinkOf size ins) targets labels
all_final size ins targets labels holds = record {
  size_is = holds.size_is;
  least = λ v label e. least v label e (cases_lt v size);
  along = λ v link rest e leads. IsSome-from (label_at labels link.to) (λ none. subst (IsLabel (IsLinkOf size ins) targets link.to) none
      (holds.label link.to leads.is_walk.0.0) rest (record { target = leads.target; is_target = leads.is_target; is_walk = leads.is_walk.2 }));
}
  where
    least : (v : ℕ) (label : Label) → label_at labels v ≡ Some label → (v < size) ⊎ (size ≤ v) → IsLeastLabel (IsLinkOf size ins) targets v label
    least v label e (inl below) = subst (IsLabel (IsLinkOf size ins) targets v) e (holds.label v below)
    least v label e (inr past) = absurd (none-some label (sym (get_or_past labels v None (omega (arith, holds.size_is))) ∙ e))

-- and that of each of them is known
pub all_known : (size : ℕ) (ins : ℕ → List (LinkOf ℕ)) (targets : List ℕ) (labels : List (Option Label)) → HoldsLabels size (IsLinkOf size ins) targets labels → (v : ℕ)
    → v < size → HoldsLabelsFrom size (IsLinkOf size ins) targets labels v
all_known size ins targets labels holds v below = record { final = all_final size ins targets labels holds; label = holds.label v below }

-- so is that of each wanted vertex where a search has reached them
pub wanted_known : (size : ℕ) (Has : LinkOf ℕ → Type 0) (targets wanted : List ℕ) (labels : List (Option Label)) → HoldsLabelsUpTo size Has targets labels
    → ReachesWanted Has targets wanted labels → (v : ℕ) → Contains wanted v → HoldsLabelsFrom size Has targets labels v
wanted_known size Has targets wanted labels holds reaches v has = record { final = holds.final; label = reaches.final v has }
