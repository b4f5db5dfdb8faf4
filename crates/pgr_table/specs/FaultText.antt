-- What is said of a table with a fault.
use Rattle.std.specs.Prelude.{ℕ, List, ◌++◌, codes, decimal}
use Rattle.pgr_table.specs.Columns.{name_of}
use Rattle.pgr_table.specs.declared.fault.TableFault.{TableFault}
use Rattle.pgr_table.specs.declared.fault.TableFault.TheVariants.{NoHeader, UnevenRecord, MissingColumn, RepeatedColumn, BadField, DuplicateId, TooManyRows, CostSum}

-- the text of a fault
abbrev pub fault_text : TableFault → List ℕ
fault_text NoHeader = codes "no header"
fault_text (UnevenRecord number) = codes "record " ++ decimal number ++ codes " is uneven"
fault_text (MissingColumn column) = codes "column " ++ name_of column ++ codes " missing"
fault_text (RepeatedColumn column) = codes "column " ++ name_of column ++ codes " repeated"
fault_text (BadField number column) = codes "record " ++ decimal number ++ codes ": bad " ++ name_of column
fault_text (DuplicateId number) = codes "record " ++ decimal number ++ codes ": id repeated"
fault_text (TooManyRows number) = codes "record " ++ decimal number ++ codes ": too many rows"
fault_text (CostSum number) = codes "record " ++ decimal number ++ codes ": sum too large"
