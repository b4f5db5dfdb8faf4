-- What is known of the values under a key after one pass over entries.
use Rattle.std.specs.Prelude.{◌≡◌, ◌≢◌, ℕ, ◌<◌, List, length, Option, Some, None, Bool, true, false, not, ◌&&◌, MatchOption, Contains, slice_index_or, ℤ, ◌≤ℤ◌}
use Rattle.std.specs.Bool.{MatchBool}
use Rattle.std.specs.List.{AllPairs}
use Rattle.std.specs.Ordering.{int_eq}
use Rattle.pgr_spans.specs.declared.seen.Entry.{Entry}
use Rattle.pgr_spans.specs.declared.seen.Seen.{Seen}

-- the value stands under the key
abbrev pub IsUnderKey : List Entry → ℕ → ℤ → Type 0
IsUnderKey entries key value = Contains entries (record { key = key; value = value })

-- what is known under a key: a value, the least one where values don't fall, and whether all are the same or one is another
pub record IsSeen (entries : List Entry) (key : ℕ) (seen : Seen) : Type 0 where
  pub first : IsUnderKey entries key seen.first
  pub least : AllPairs (λ e f. e.value ≤ℤ f.value) entries → (value : ℤ) → IsUnderKey entries key value → seen.first ≤ℤ value
  pub others : MatchBool seen.same ((value : ℤ) → IsUnderKey entries key value → value ≡ seen.first) ((value : ℤ) × IsUnderKey entries key value × (value ≢ seen.first))

-- what is known under a key, or that nothing stands there
abbrev pub IsKnown : List Entry → ℕ → Option Seen → Type 0
IsKnown entries key known = MatchOption known ((value : ℤ) → IsUnderKey entries key value → ⊥) (IsSeen entries key)

-- what is known under each key below the size
pub record AreSeen (size : ℕ) (entries : List Entry) (found : List (Option Seen)) : Type 0 where
  pub size_is : length found ≡ size
  pub each : (key : ℕ) → key < size → IsKnown entries key (slice_index_or found key None)

-- what is known with one more value
abbrev pub seen_next : Option Seen → ℤ → Seen
seen_next None value = record { first = value; same = true }
seen_next (Some seen) value = record { first = seen.first; same = seen.same && int_eq seen.first value }

-- whether two values under a key differ
abbrev pub parts : Option Seen → Bool
parts None = false
parts (Some seen) = not seen.same
