-- The labels that a search begins with.
use Rattle.std.specs.Prelude.{◌≡◌, ℕ, List, Option, Some, None, Contains, slice_index_or}
use Rattle.pgr_walks.specs.declared.label.Label.{Label}

-- the label of the walk without links
abbrev pub empty_label : Label
empty_label = record { cost = 0; hops = 0 }

-- each target has the label of the walk without links, and no other vertex has a label
pub record StartsAt (targets : List ℕ) (labels : List (Option Label)) : Type 0 where
  pub marked : (t : ℕ) → Contains targets t → slice_index_or labels t None ≡ Some empty_label
  pub others : (v : ℕ) (label : Label) → slice_index_or labels v None ≡ Some label → Contains targets v × (label ≡ empty_label)
