-- The message of each cause, and each note: one line.
use Rattle.std.specs.Prelude.{ℕ, List, ◌++◌, flat_map, codes, decimal}
use Rattle.std.specs.Fmt.{signed_decimal}
use Rattle.pgr_answer.specs.declared.answered.Note.{Note}
use Rattle.pgr_words.specs.FaultText as words
use Rattle.pgr_table.specs.FaultText as tables
use Rattle.pgr_answer.specs.Roles as roles
use Rattle.pgr_answer.specs.declared.refused.Refused.{Refused}
use Rattle.pgr_answer.specs.declared.refused.Refused.TheVariants as refused
use Rattle.pgr_run.specs.declared.cause.Cause.{Cause}
use Rattle.pgr_run.specs.declared.cause.Cause.TheVariants as cause

-- what is said of a command that isn't answered; a file is called by its role
abbrev pub refused_text : Refused → List ℕ
refused_text (refused.ReadFailed role) = roles.name_of role ++ codes ": read failed"
refused_text (refused.TooLong role) = roles.name_of role ++ codes ": file too long"
refused_text (refused.Table role fault) = roles.name_of role ++ codes ": " ++ tables.fault_text fault
refused_text refused.Memory = codes "want of memory"

-- what is said of a cause
abbrev pub text_of : Cause → List ℕ
text_of (cause.Words fault) = words.fault_text fault
text_of (cause.Refused refused) = refused_text refused
text_of cause.WriteFailed = codes "write failed"

-- the message of a cause: one line that begins with the program's name
abbrev pub message_of : Cause → List ℕ
message_of cause = codes "pgr: " ++ text_of cause ++ codes "\n"

-- the line of a note: the start, and the first link that breaks its estimate
abbrev pub note_text : Note → List ℕ
note_text note =
    codes "pgr: note: start " ++ signed_decimal note.start ++ codes ": edge " ++ signed_decimal note.link.edge ++ codes " from " ++ signed_decimal note.link.from
    ++ codes " to " ++ signed_decimal note.link.to ++ codes " with cost " ++ decimal note.link.cost ++ codes " breaks the estimate\n"

-- the lines of notes, in order
abbrev pub notes_text : List Note → List ℕ
notes_text notes = flat_map note_text notes
