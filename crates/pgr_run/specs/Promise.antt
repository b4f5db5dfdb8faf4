-- The promise of a run: what each of its ends says of the words, of the files and of what was written.
use Rattle.std.specs.Prelude.{◌≡◌, ◌⊎◌, ◌++◌, ℕ, List, map, Option, Result, Err, IfOk, IsErrOf, IsOkAnd, String, string_bytes}
use Rattle.std.specs.declared.alloc.Global.{Global}
use Rattle.pgr_outside.specs.Faults.{HasRisen}
use Rattle.pgr_outside.specs.Sink.{with_added, AddsPrefix}
use Rattle.pgr_words.specs.declared.command.Command.{Command}
use Rattle.pgr_words.specs.Commands.{command_of}
use Rattle.pgr_rows.specs.declared.rows.Rows.{Rows}
use Rattle.pgr_rows.specs.Text.{text_of}
use Rattle.pgr_answer.specs.Files.{files_of}
use Rattle.pgr_answer.specs.Refusals.{HoldsAmong, RefusesCommand, IsFirstRefusal}
use Rattle.pgr_answer.specs.Allowed.{AnswersCommand}
use Rattle.pgr_answer.specs.declared.answered.Note.{Note}
use Rattle.pgr_answer.specs.declared.role.Role.{Role}
use Rattle.pgr_answer.specs.declared.refused.Refused.{Refused}
use Rattle.pgr_answer.specs.declared.refused.Refused.TheVariants as refused
use Rattle.pgr_run.specs.declared.cause.Cause.{Cause}
use Rattle.pgr_run.specs.declared.cause.Cause.TheVariants as cause
use Rattle.pgr_run.specs.declared.status.Status.{Status}
use Rattle.pgr_run.specs.declared.status.Status.TheVariants as status
use Rattle.pgr_run.specs.Messages.{message_of}

-- the words, each as its bytes
abbrev pub texts : List (String Global) → List (List ℕ)
texts words = map string_bytes words

-- the words are a command for which this holds
abbrev pub Asks : List (List ℕ) → (Command → Type 0) → Type 0
Asks words P = IsOkAnd (command_of words) P

-- a sink gained exactly the text of rows that answer the command, together with these notes: its files have contents, the known ones where they are known, each is an accepted
-- table of its role, the rows are allowed over the tables that they are, and the notes are those over them
pub record WritesAllowed (command : Command) (content : List ℕ → Option (List ℕ)) (notes : List Note) (before after : Option (List ℕ)) : Type 0 where
  pub rows : Rows
  pub answers : AnswersCommand command content rows notes
  pub written : after ≡ with_added before (text_of rows)

-- a sink gained a prefix of the text of such rows
pub record WritesPrefix (command : Command) (content : List ℕ → Option (List ℕ)) (notes : List Note) (before after : Option (List ℕ)) : Type 0 where
  pub rows : Rows
  pub answers : AnswersCommand command content rows notes
  pub written : AddsPrefix before after (text_of rows)

-- a sink gained these lines: the whole of them, or a prefix where its count of faults rose
abbrev pub WritesLines : List ℕ → Option (List ℕ) → Option (List ℕ) → ℕ → ℕ → Type 0
WritesLines lines before after faults_before faults_after =
    (after ≡ with_added before lines) ⊎ (HasRisen faults_before faults_after × AddsPrefix before after lines)

-- what is seen of a run from outside: the contents of names that were known at its beginning, the counts of faults of names before and after, and of
-- the output what it held and its count, before and after; and the notes that were told, or begun to be
pub record Seen : Type 0 where
  pub content : List ℕ → Option (List ℕ)
  pub names_before : List ℕ → ℕ
  pub names_after : List ℕ → ℕ
  pub out_before : Option (List ℕ)
  pub out_after : Option (List ℕ)
  pub faults_before : ℕ
  pub faults_after : ℕ
  pub notes : List Note

-- the output holds what it held
abbrev pub OutStays : Seen → Type 0
OutStays seen = seen.out_after ≡ seen.out_before

-- one of the files that the words name is refused so: it has a content that is, or a read of it failed; and the files before it have contents that are
-- accepted. The contents are the known ones where they are known
abbrev pub RefusesFile : List (List ℕ) → Seen → Refused → Type 0
RefusesFile words seen refused = Asks words (λ command. HoldsAmong seen.content seen.names_before seen.names_after (files_of command) refused)

-- a table that the words name is refused so: one of the files has a content that is, or the tables of all files are, taken together. The contents are the known
-- ones where they are known
abbrev pub RefusesTables : List (List ℕ) → Seen → Refused → Type 0
RefusesTables words seen refused = Asks words (λ command. RefusesCommand seen.content seen.names_before seen.names_after command refused)

-- a cause holds of a run over these words: the words break this rule first; one of the files that they name is refused so, or their tables are, taken
-- together; or a write failed, and the output gained a prefix of the text of an allowed table. Of out of memory nothing is said but that the output stays,
-- as it does in every case but a failed write
abbrev pub Holds : List (List ℕ) → Seen → Cause → Type 0
Holds words seen (cause.Words fault) = (command_of words ≡ Err fault) × OutStays seen
Holds words seen (cause.Refused (refused.ReadFailed role)) = RefusesFile words seen (refused.ReadFailed role) × OutStays seen
Holds words seen (cause.Refused (refused.TooLong role)) = RefusesFile words seen (refused.TooLong role) × OutStays seen
Holds words seen (cause.Refused (refused.Table role fault)) = RefusesTables words seen (refused.Table role fault) × OutStays seen
Holds words seen (cause.Refused refused.Memory) = OutStays seen
Holds words seen cause.WriteFailed =
    Asks words (λ command. HasRisen seen.faults_before seen.faults_after × WritesPrefix command seen.content seen.notes seen.out_before seen.out_after)

-- a read of one of the files that the command names failed, and the files before it have contents that are accepted
abbrev pub AReadFailed : Command → (List ℕ → Option (List ℕ)) → (List ℕ → ℕ) → (List ℕ → ℕ) → Type 0
AReadFailed command content before after = (role : Role) × HoldsAmong content before after (files_of command) (refused.ReadFailed role)

-- a result is an error for this refusal, for out of memory, or for a failed read
abbrev pub EndsIn : {X E : Type 0} → Result X E → (Refused → E) → Refused → Type 0
EndsIn result err found =
    IsErrOf result (err found) ⊎ IsErrOf result (err refused.Memory) ⊎ ((role : Role) × IsErrOf result (err (refused.ReadFailed role)))

-- where the words are a command and a refusal is the first by known contents, this holds of both
abbrev pub WhereFirst : List (List ℕ) → (List ℕ → Option (List ℕ)) → (Command → Refused → Type 0) → Type 0
WhereFirst words content P = IfOk (command_of words) (λ command. (found : Refused) → IsFirstRefusal content command found → P command found)

-- what came of writing an answer with this table and these notes, where the output held and counted this before and after, and so the other sink: with status 0 all of the
-- table was written, and the notes were told; or a write failed, and the output gained a prefix, and the notes were told with the message behind them
abbrev pub IsWritten : List ℕ → List ℕ → Status → Option (List ℕ) → Option (List ℕ) → ℕ → ℕ → Option (List ℕ) → Option (List ℕ) → ℕ → ℕ → Type 0
IsWritten table notes result out_before out_after out_faults_before out_faults_after err_before err_after err_faults_before err_faults_after =
    ((result ≡ status.Done) × (out_after ≡ with_added out_before table) × WritesLines notes err_before err_after err_faults_before err_faults_after)
    ⊎ ((result ≡ status.Outside) × HasRisen out_faults_before out_faults_after × AddsPrefix out_before out_after table
    × WritesLines (notes ++ message_of cause.WriteFailed) err_before err_after err_faults_before err_faults_after)
