-- Lists as sets and sequences: what several layers say of lists.
use Rattle.std.specs.Prelude.{◌≡◌, ◌≢◌, ℕ, ◌<◌, List, length, slice_get, slice_index_or}
use Rattle.std.specs.declared.cmp.Ordering.{Ordering}
use Rattle.std.specs.declared.cmp.Ordering.TheVariants.{Less}

-- no two places of the list have the same element
abbrev pub IsWithoutRepeats : {X : Type 0} → List X → Type 0
IsWithoutRepeats xs = (i j : ℕ) → i < j → j < length xs → slice_get xs i ≢ slice_get xs j

-- each element comes before every later one: so the list rises, and nothing stands in it twice
abbrev pub IsStrictlyRising : {X : Type 0} → (X → X → Ordering) → List X → Type 0
IsStrictlyRising {X} cmp xs = (i j : ℕ) (x : X) → i < j → j < length xs → cmp (slice_index_or xs i x) (slice_index_or xs j x) ≡ Less
