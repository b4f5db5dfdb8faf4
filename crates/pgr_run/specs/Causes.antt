-- Why a run ended without its table written whole, and the status of each cause.
use Rattle.pgr_table.specs.declared.fault.TableFault.{TableFault}
use Rattle.pgr_table.specs.declared.fault.TableFault.TheVariants as fault
use Rattle.pgr_words.specs.declared.fault.WordsRefused.{WordsRefused}
use Rattle.pgr_words.specs.declared.fault.WordsRefused.TheVariants as words
use Rattle.pgr_answer.specs.declared.refused.Refused.{Refused}
use Rattle.pgr_answer.specs.declared.refused.Refused.TheVariants as refused
use Rattle.pgr_run.specs.declared.cause.Cause.{Cause}
use Rattle.pgr_run.specs.declared.cause.Cause.TheVariants as cause
use Rattle.pgr_run.specs.declared.status.Status.{Status}
use Rattle.pgr_run.specs.declared.status.Status.TheVariants as status

-- the status of a table's first fault: Limit where it has too many rows or too great a sum, and else Table
abbrev pub status_of_fault : TableFault → Status
status_of_fault fault.NoHeader = status.Table
status_of_fault (fault.UnevenRecord number) = status.Table
status_of_fault (fault.MissingColumn column) = status.Table
status_of_fault (fault.RepeatedColumn column) = status.Table
status_of_fault (fault.BadField number column) = status.Table
status_of_fault (fault.DuplicateId number) = status.Table
status_of_fault (fault.TooManyRows number) = status.Limit
status_of_fault (fault.CostSum number) = status.Limit

-- the status of a command that isn't answered
abbrev pub status_of_refusal : Refused → Status
status_of_refusal (refused.ReadFailed role) = status.Outside
status_of_refusal (refused.TooLong role) = status.Limit
status_of_refusal (refused.Table role fault) = status_of_fault fault
status_of_refusal refused.Memory = status.Memory

-- the status of a cause
abbrev pub status_of : Cause → Status
status_of (cause.Words fault) = status.Words
status_of (cause.Refused refused) = status_of_refusal refused
status_of cause.WriteFailed = status.Outside

-- the cause of words that aren't read as a command
abbrev pub from_words : WordsRefused → Cause
from_words (words.Fault fault) = cause.Words fault
from_words words.Memory = cause.Refused refused.Memory
