-- Whether a search goes on: what it knows where it takes the next vertex, and where it ends.
use Rattle.std.specs.Prelude.{◌≡◌, ℕ, ◌<◌, ◌≤◌, ◌⊎◌, List, Option, Some, None, IsNone, IsSome, All, Contains, length, slice_index_or}
use Rattle.pgr_walks.specs.declared.label.Label.{Label}
use Rattle.pgr_search.specs.FinalLabels.{label_at}
use Rattle.pgr_search.specs.declared.bound.Bound.{Bound}
use Rattle.pgr_search.specs.declared.bound.Bound.TheVariants.{Everywhere, Wanted, Limit}

-- so many of the wanted vertices, from the first, are settled
pub record AreReached (wanted : List ℕ) (settled : List (Option Label)) (count : ℕ) : Type 0 where
  pub few : count ≤ length wanted
  pub reached : (k : ℕ) → k < count → IsSome (label_at settled (slice_index_or wanted k 0))

-- how far a search has come on the way to its bound
abbrev pub HasReached : Bound → List (Option Label) → ℕ → Type 0
HasReached Everywhere settled count = Unit {0}
HasReached (Wanted wanted) settled count = AreReached wanted.now settled count
HasReached (Limit limit) settled count = Unit {0}

-- a vertex of this label is before the bound
abbrev pub IsBefore : Bound → List (Option Label) → Label → Type 0
IsBefore Everywhere settled label = Unit {0}
IsBefore (Wanted wanted) settled label = (w : ℕ) × Contains wanted.now w × (label_at settled w ≡ None)
IsBefore (Limit limit) settled label = label.cost ≤ limit

-- a search has come to its bound
abbrev pub IsOver : Bound → List (Option Label) → List (Option Label) → Type 0
IsOver Everywhere settled waiting = All IsNone waiting
IsOver (Wanted wanted) settled waiting = All IsNone waiting ⊎ ((w : ℕ) → Contains wanted.now w → IsSome (label_at settled w))
IsOver (Limit limit) settled waiting = (v : ℕ) (label : Label) → label_at waiting v ≡ Some label → limit < label.cost
