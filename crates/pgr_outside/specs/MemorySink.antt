-- A sink in memory: what it holds, and what it does at each call.
use Rattle.std.specs.Prelude.{◌≡◌, ℕ, ◌<◌, ◌⊎◌, List, length, Contains}
use Rattle.pgr_outside.specs.Calls.{raised}

-- what a sink in memory is: what was written, the room that is left, the most bytes of a write, the numbers of the calls that fail, the number of the last call, and its
-- count of faults
pub record SinkState : Type 0 where
  pub bytes : List ℕ
  pub room : ℕ
  pub most : ℕ
  pub fails : List ℕ
  pub calls : ℕ
  pub faults : ℕ

-- the next call with this piece fails: its number is one of those that fail, or the room is full and the piece isn't empty
abbrev pub FailsNext : SinkState → List ℕ → Type 0
FailsNext sink piece = Contains sink.fails (raised sink.calls) ⊎ ((sink.room ≡ 0) × (0 < length piece))
