-- Files by their names, and what a list of them tells.
use Rattle.std.specs.Prelude.{◌≢◌, ℕ, List, map, find, AllPairs, Option, String, string_bytes, Vec}
use Rattle.std.specs.declared.alloc.Global.{Global}
use Rattle.std.specs.Option.{option_map}
use Rattle.std.specs.Str.{bytes_eq}

-- a file: the bytes of its name, and its content
abbrev pub File : Type 0
File = List ℕ × List ℕ

-- the files of texts and vectors, as bytes
abbrev pub named : List (String Global × Vec ℕ Global) → List File
named = map (λ file. (string_bytes file.0, file.1.items))

-- no two of the files have the same name
abbrev pub HasDistinctNames : List File → Type 0
HasDistinctNames = AllPairs (λ file other. file.0 ≢ other.0)

-- the content of the file with this name, if there is one
abbrev pub content_of : List File → List ℕ → Option (List ℕ)
content_of files name = option_map (λ file. file.1) (find (λ file. bytes_eq file.0 name) files)
