-- The files that a command names, and the contents that they may have.
use Rattle.std.specs.Prelude.{◌≡◌, ℕ, List, map, flat_map, All, length, if◌then◌else◌, nat_lt, Option, Some, None, option_map, IfSome, IsSomeAnd, Result, Ok, Err}
use Rattle.std.specs.Option.{option_to_list}
use Rattle.pgr_words.specs.declared.command.Command.{Command}
use Rattle.pgr_table.specs.declared.fault.TableFault.{TableFault}
use Rattle.pgr_answer.specs.declared.role.Role.{Role}
use Rattle.pgr_answer.specs.declared.role.Kind.{Kind}
use Rattle.pgr_answer.specs.declared.refused.Refused.{Refused}
use Rattle.pgr_answer.specs.declared.refused.Refused.TheVariants.{TooLong, Table}
use Rattle.pgr_answer.specs.Roles.{roles, file_name_of, kind_of}
use Rattle.pgr_answer.specs.Tables.{judged_as}

-- the greatest number of bytes of a file
abbrev pub most_bytes : ℕ
most_bytes = 268435456

-- a file that a command names: what it is to the command, what it is read as, and its name
pub record File : Type 0 where
  pub role : Role
  pub kind : Kind
  pub name : List ℕ

-- the file that has this role to a command, or no file
abbrev pub files_with : Command → Role → List File
files_with command role = option_to_list (option_map (λ name. record { role = role; kind = kind_of command.function role; name = name }) (file_name_of command role))

-- the files that a command names, in the order in which they are read
abbrev pub files_of : Command → List File
files_of command = flat_map (files_with command) roles

-- a file with bytes that may be its content
pub record Content : Type 0 where
  pub file : File
  pub bytes : List ℕ

-- the bytes are the file's known content, where that is known
abbrev pub IsPossible : (List ℕ → Option (List ℕ)) → Content → Type 0
IsPossible known content = IfSome (known content.file.name) (λ bytes. content.bytes ≡ bytes)

-- the fault of a verdict, if it has one
abbrev pub fault_in : {X : Type 0} → Result X TableFault → Option TableFault
fault_in (Ok x) = None
fault_in (Err fault) = Some fault

-- why bytes aren't an accepted table as which this file is read: there are more of them than a file may have, or else their first fault; and none where they are one
abbrev pub refusal_of : File → List ℕ → Option Refused
refusal_of file bytes = if nat_lt most_bytes (length bytes) then Some (TooLong file.role) else option_map (Table file.role) (fault_in (judged_as file.kind bytes))

-- the bytes are an accepted table as which the file is read
abbrev pub IsAccepted : Content → Type 0
IsAccepted content = refusal_of content.file content.bytes ≡ None

-- contents of these files, in their order: each is the known one where that is known, and an accepted table of its role
pub record AreAccepted (known : List ℕ → Option (List ℕ)) (files : List File) (contents : List Content) : Type 0 where
  pub of_files : map (λ content. content.file) contents ≡ files
  pub possible : All (IsPossible known) contents
  pub accepted : All IsAccepted contents

-- the file's content is known, and is an accepted table of its role
abbrev pub IsKnownAccepted : (List ℕ → Option (List ℕ)) → File → Type 0
IsKnownAccepted known file = IsSomeAnd (known file.name) (λ bytes. refusal_of file bytes ≡ None)
