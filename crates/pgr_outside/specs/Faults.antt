-- Counts of faults: how a failure outside is told from a call that gives up.
use Rattle.std.specs.Prelude.{ℕ, ◌+◌, ◌-◌, ◌^◌, ◌≤◌, min, List, Result, Ok, Err, OnErr}

-- a count of faults rose between two moments: it is greater after, or it stands at the last value of its type, where it stays
abbrev pub HasRisen : ℕ → ℕ → Type 0
HasRisen before after = min (before + 1) (2 ^ 64 - 1) ≤ after

-- no name's count of faults fell between two moments
abbrev pub NoneFell : (List ℕ → ℕ) → (List ℕ → ℕ) → Type 0
NoneFell before after = (name : List ℕ) → before name ≤ after name

-- what holds anyway holds where there is an error
pub OnErr-always : {T E P : Type 0} (result : Result T E) → P → OnErr result P
OnErr-always (Ok value) holds = tt
OnErr-always (Err error) holds = holds
