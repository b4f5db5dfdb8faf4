-- What contents of files are: tables.
use Rattle.std.specs.Prelude.{List, fold, Result, Ok, Err}
use Rattle.pgr_table.specs.declared.fault.TableFault.{TableFault}
use Rattle.pgr_answer.specs.declared.tables.Tables.{Tables}
use Rattle.pgr_answer.specs.Tables.{no_tables, judged_as}
use Rattle.pgr_answer.specs.Files.{Content}

-- tables after a verdict: with its rows in their place, and as they were where it is a fault
abbrev pub after : Result (Tables → Tables) TableFault → Tables → Tables
after (Ok place) tables = place tables
after (Err fault) tables = tables

-- tables with the rows of a content in their place
abbrev pub with_content : Tables → Content → Tables
with_content tables content = after (judged_as content.file.kind content.bytes) tables

-- the tables that contents are; one that no content is has no row
abbrev pub tables_of : List Content → Tables
tables_of contents = fold with_content no_tables contents
