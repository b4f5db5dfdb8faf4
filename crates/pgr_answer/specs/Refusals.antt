-- Why files are refused: of each refusal where it stands in their order, and what it says of its file.
use Rattle.std.specs.Prelude.{◌≡◌, ◌⊎◌, ℕ, List, ◌∷◌, ◌++◌, All, Option, Some, None, IsSomeAnd}
use Rattle.pgr_outside.specs.Faults.{HasRisen}
use Rattle.pgr_words.specs.declared.command.Command.{Command}
use Rattle.pgr_outside.specs.declared.reading.ReadRefused.{ReadRefused}
use Rattle.pgr_outside.specs.declared.reading.ReadRefused.TheVariants as read
use Rattle.pgr_table.specs.declared.fault.TableRefused.{TableRefused}
use Rattle.pgr_table.specs.declared.fault.TableRefused.TheVariants as table
use Rattle.pgr_answer.specs.declared.role.Role.{Role}
use Rattle.pgr_answer.specs.declared.refused.Refused.{Refused}
use Rattle.pgr_answer.specs.declared.refused.Refused.TheVariants.{ReadFailed, TooLong, Table, Memory}
use Rattle.pgr_answer.specs.Files.{File, Content, files_of, refusal_of, IsPossible, AreAccepted, IsKnownAccepted}
use Rattle.pgr_answer.specs.Contents.{tables_of}
use Rattle.pgr_answer.specs.Together.{refusal_together}

-- a file, among those that are read in this order, with those before it
pub record StandsBehind (files front : List File) (file : File) : Type 0 where
  pub back : List File
  pub order : files ≡ front ++ file ∷ back

-- the file has a content, the known one where that is known, that is refused so
pub record IsContentRefused (known : List ℕ → Option (List ℕ)) (file : File) (refused : Refused) : Type 0 where
  pub bytes : List ℕ
  pub possible : IsPossible known (record { file = file; bytes = bytes })
  pub is_refused : refusal_of file bytes ≡ Some refused

-- what a refusal says of the file that it is for, where these were the counts of faults of names before and after:
-- its count rose where a read failed, or else it has a content that is refused so; where memory ran out nothing is said
abbrev pub IsRefused : (List ℕ → Option (List ℕ)) → (List ℕ → ℕ) → (List ℕ → ℕ) → File → Refused → Type 0
IsRefused known before after file (ReadFailed role) = (role ≡ file.role) × HasRisen (before file.name) (after file.name)
IsRefused known before after file (TooLong role) = IsContentRefused known file (TooLong role)
IsRefused known before after file (Table role fault) = IsContentRefused known file (Table role fault)
IsRefused known before after file Memory = Unit {0}

-- a refusal holds: it is for one of the files, and the files before that one have contents, the known ones where they are known, that are accepted (where memory ran out, it
-- always holds)
pub record HoldsAmong (known : List ℕ → Option (List ℕ)) (before after : List ℕ → ℕ) (files : List File) (refused : Refused) : Type 0 where
  pub front : List File
  pub file : File
  pub place : StandsBehind files front file
  pub contents : List Content
  pub accepted : AreAccepted known front contents
  pub refuses : IsRefused known before after file refused

-- the tables of all files are refused together: the files have contents, the known ones where they are known, that are each accepted, and together are refused so
pub record IsRefusedTogether (known : List ℕ → Option (List ℕ)) (command : Command) (refused : Refused) : Type 0 where
  pub contents : List Content
  pub accepted : AreAccepted known (files_of command) contents
  pub refuses : refusal_together command (tables_of contents) ≡ Some refused

-- a refusal of a command holds: it is for one of its files, or for the tables of all of them together
abbrev pub RefusesCommand : (List ℕ → Option (List ℕ)) → (List ℕ → ℕ) → (List ℕ → ℕ) → Command → Refused → Type 0
RefusesCommand known before after command refused = HoldsAmong known before after (files_of command) refused ⊎ IsRefusedTogether known command refused

-- the first refusal of files by known contents: the file's content is known and refused so, and each file before it is known to be accepted
pub record IsFirstAmong (known : List ℕ → Option (List ℕ)) (files : List File) (refused : Refused) : Type 0 where
  pub front : List File
  pub file : File
  pub place : StandsBehind files front file
  pub accepted : All (IsKnownAccepted known) front
  pub refuses : IsSomeAnd (known file.name) (λ bytes. refusal_of file bytes ≡ Some refused)

-- the tables of a command aren't refused together, whatever contents its files have: where all are known, they have one
abbrev pub AreAcceptedTogether : (List ℕ → Option (List ℕ)) → Command → Type 0
AreAcceptedTogether known command = (contents : List Content) → AreAccepted known (files_of command) contents → refusal_together command (tables_of contents) ≡ None

-- each file is known to be accepted, and the tables that the known contents are, are refused together so
pub record IsFirstTogether (known : List ℕ → Option (List ℕ)) (command : Command) (refused : Refused) : Type 0 where
  pub accepted : All (IsKnownAccepted known) (files_of command)
  pub refuses : (contents : List Content) → AreAccepted known (files_of command) contents → refusal_together command (tables_of contents) ≡ Some refused

-- the first refusal of a command by known contents: of one of its files, or else of the tables of all of them together
abbrev pub IsFirstRefusal : (List ℕ → Option (List ℕ)) → Command → Refused → Type 0
IsFirstRefusal known command refused = IsFirstAmong known (files_of command) refused ⊎ IsFirstTogether known command refused

-- the refusal of a file with this role that wasn't read
abbrev pub from_read : Role → ReadRefused → Refused
from_read role read.Failed = ReadFailed role
from_read role read.TooLong = TooLong role
from_read role read.Memory = Memory

-- the refusal of a table with this role that isn't accepted
abbrev pub from_table : Role → TableRefused → Refused
from_table role (table.Fault fault) = Table role fault
from_table role table.Memory = Memory
