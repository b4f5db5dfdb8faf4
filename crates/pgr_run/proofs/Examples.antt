-- The messages of causes that have no number, computed.
use Rattle.std.proofs.Common.{◌≡◌, refl}
use Rattle.std.specs.Prelude.{codes}
use Rattle.pgr_words.specs.declared.option.OptionName.TheVariants.{Start}
use Rattle.pgr_words.specs.declared.fault.WordFault.TheVariants.{NoFunction, RepeatedOption, BadValue, MissingOption}
use Rattle.pgr_table.specs.declared.column.Column.TheVariants.{Target}
use Rattle.pgr_table.specs.declared.fault.TableFault.TheVariants.{NoHeader, MissingColumn}
use Rattle.pgr_answer.specs.declared.role.Role.TheVariants.{Edges, Combinations}
use Rattle.pgr_answer.specs.declared.refused.Refused.TheVariants as refused
use Rattle.pgr_run.specs.declared.cause.Cause.TheVariants as cause
use Rattle.pgr_run.specs.Messages.{message_of}

-- words that break a rule
no_function : message_of (cause.Words NoFunction) ≡ codes "pgr: no function\n"
no_function = refl

a_repeated_option : message_of (cause.Words (RepeatedOption Start)) ≡ codes "pgr: option start repeated\n"
a_repeated_option = refl

a_bad_value : message_of (cause.Words (BadValue Start)) ≡ codes "pgr: bad value for start\n"
a_bad_value = refl

a_missing_option : message_of (cause.Words (MissingOption Start)) ≡ codes "pgr: option start missing\n"
a_missing_option = refl

-- files that are refused, each called by its role
no_header : message_of (cause.Refused (refused.Table Edges NoHeader)) ≡ codes "pgr: edges: no header\n"
no_header = refl

a_missing_column : message_of (cause.Refused (refused.Table Combinations (MissingColumn Target))) ≡ codes "pgr: combinations: column target missing\n"
a_missing_column = refl

a_failed_read : message_of (cause.Refused (refused.ReadFailed Combinations)) ≡ codes "pgr: combinations: read failed\n"
a_failed_read = refl

a_long_file : message_of (cause.Refused (refused.TooLong Edges)) ≡ codes "pgr: edges: file too long\n"
a_long_file = refl

-- memory, and the output
no_memory : message_of (cause.Refused refused.Memory) ≡ codes "pgr: want of memory\n"
no_memory = refl

a_failed_write : message_of cause.WriteFailed ≡ codes "pgr: write failed\n"
a_failed_write = refl
