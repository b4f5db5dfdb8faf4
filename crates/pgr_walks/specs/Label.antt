-- Labels: the least cost and hops over all walks from a vertex to one of some targets.
use Rattle.std.specs.Prelude.{◌≡◌, ◌⊎◌, ℕ, ◌+◌, ◌<◌, ◌≤◌, List, Option, Some, None, Contains, length, slice_index_or}
use Rattle.pgr_walks.specs.declared.link.LinkOf.{LinkOf}
use Rattle.pgr_walks.specs.declared.label.Label.{Label}
use Rattle.pgr_walks.specs.Walk.{IsWalk, cost_of, hops_of}

-- the label of a walk: its cost and its hops
abbrev pub label_of : {V : Type 0} → List (LinkOf V) → Label
label_of walk = record { cost = cost_of walk; hops = hops_of walk }

-- the label of a walk that begins with the link, and goes on with a walk of this label
abbrev pub beyond : {V : Type 0} → Label → LinkOf V → Label
beyond label link = record { cost = label.cost + link.cost; hops = label.hops + 1 }

-- a label is at most another: it costs less, or the same with no more hops
abbrev pub AtMost : Label → Label → Type 0
AtMost a b = (a.cost < b.cost) ⊎ ((a.cost ≡ b.cost) × (a.hops ≤ b.hops))

-- a walk from v to one of the targets
pub record LeadsTo {V : Type 0} (Has : LinkOf V → Type 0) (targets : List V) (v : V) (walk : List (LinkOf V)) : Type 0 where
  pub target : V
  pub is_target : Contains targets target
  pub is_walk : IsWalk Has v walk target

-- a label that some walk from v to a target has, and that is at most that of every such walk
pub record IsLeastLabel {V : Type 0} (Has : LinkOf V → Type 0) (targets : List V) (v : V) (label : Label) : Type 0 where
  pub walk : List (LinkOf V)
  pub leads : LeadsTo Has targets v walk
  pub label_is : label_of walk ≡ label
  pub least : (other : List (LinkOf V)) → LeadsTo Has targets v other → AtMost label (label_of other)

-- the least label of v, and none exactly where no walk leads from v to a target
abbrev pub IsLabel : {V : Type 0} → (LinkOf V → Type 0) → List V → V → Option Label → Type 0
IsLabel Has targets v None = (walk : List (LinkOf _)) → LeadsTo Has targets v walk → ⊥
IsLabel Has targets v (Some label) = IsLeastLabel Has targets v label

-- a label that some walk from root to v has, and that is at most that of every such walk
pub record IsLeastLabelFrom {V : Type 0} (Has : LinkOf V → Type 0) (root v : V) (label : Label) : Type 0 where
  pub walk : List (LinkOf V)
  pub is_walk : IsWalk Has root walk v
  pub label_is : label_of walk ≡ label
  pub least : (other : List (LinkOf V)) → IsWalk Has root other v → AtMost label (label_of other)

-- the least label of the walks from root to v, and none exactly where there is no such walk
abbrev pub IsLabelFrom : {V : Type 0} → (LinkOf V → Type 0) → V → V → Option Label → Type 0
IsLabelFrom Has root v None = (walk : List (LinkOf _)) → IsWalk Has root walk v → ⊥
IsLabelFrom Has root v (Some label) = IsLeastLabelFrom Has root v label

-- the labels of the vertices below the size, by number: of each the least over all walks from it to a target
pub record HoldsLabels (size : ℕ) (Has : LinkOf ℕ → Type 0) (targets : List ℕ) (labels : List (Option Label)) : Type 0 where
  pub size_is : length labels ≡ size
  pub label : (v : ℕ) → v < size → IsLabel Has targets v (slice_index_or labels v None)
