-- What is read of files: tables, one file after the other.
use Rattle.std.specs.Prelude.{◌≡◌, ℕ, List, fold, Option, Result, Ok, Err}
use Rattle.pgr_table.specs.declared.fault.TableFault.{TableFault}
use Rattle.pgr_table.specs.declared.fault.TableRefused.{TableRefused}
use Rattle.pgr_table.specs.declared.fault.TableRefused.TheVariants.{Fault, Memory}
use Rattle.pgr_answer.specs.declared.tables.Tables.{Tables}
use Rattle.pgr_answer.specs.Contents.{with_content}
use Rattle.pgr_answer.specs.Files.{File, Content, AreAccepted}

-- a table was read: by this verdict its rows are in their place, or the verdict is the fault that refuses it
abbrev pub IsTableRead : Result (Unit {0}) TableRefused → Result (Tables → Tables) TableFault → Tables → Tables → Type 0
IsTableRead (Ok _) verdict old new = (place : Tables → Tables) × (verdict ≡ Ok place) × (new ≡ place old)
IsTableRead (Err (Fault fault)) verdict old new = verdict ≡ Err fault
IsTableRead (Err Memory) verdict old new = Unit {0}

-- files were read: they have contents, the known ones where they are known, each of them an accepted table of its role, and the rows of these are in their places
pub record AreRead (known : List ℕ → Option (List ℕ)) (files : List File) (old new : Tables) : Type 0 where
  pub contents : List Content
  pub accepted : AreAccepted known files contents
  pub tables : new ≡ fold with_content old contents
