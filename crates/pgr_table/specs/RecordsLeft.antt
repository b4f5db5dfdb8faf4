-- The records that a reader of bytes in memory has left.
use Rattle.std.specs.Prelude.{◌≡◌, ℕ, ◌+◌, true, false, List, [], length, Option, Some, None, IsSome}
use Rattle.csv.specs.Machine.{ends_at_end}
use Rattle.csv.specs.Reading.{records_from, default_config, source_of, Ready, reader_config, reader_state, reader_trim, is_flexible}
use Rattle.csv.specs.declared.reader.Reader.{Reader}
use Rattle.csv.specs.declared.reader.Trim.TheVariants as trim
use Rattle.csv.specs.declared.parser.State.{State}

-- the records of these bytes from a state of the reader, none where the bytes aren't known
abbrev pub records_of : State → Option (List ℕ) → List (List (List ℕ))
records_of state None = []
records_of state (Some bytes) = records_from default_config (length bytes + 1) state bytes

-- the records that the reader has left
abbrev pub records_left : {R : Type 0} → (R → Option (List ℕ)) → Reader R → List (List (List ℕ))
records_left remaining reader = records_of (reader_state reader) (source_of remaining reader)

-- the reader stands between two records of bytes that are known, and reads them untrimmed and of any length
pub record IsGoing {R : Type 0} (remaining : R → Option (List ℕ)) (reader : Reader R) : Type 0 where
  pub config : reader_config reader ≡ default_config
  pub untrimmed : reader_trim reader ≡ trim.None
  pub flexible : is_flexible reader ≡ true
  pub ready : Ready reader
  pub known : IsSome (source_of remaining reader)
  pub between : ends_at_end (reader_state reader) ≡ false
