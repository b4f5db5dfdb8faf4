-- A store in memory: what it holds, and what it does at each call.
use Rattle.std.specs.Prelude.{◌≡◌, ℕ, ◌⊎◌, List, Contains, None}
use Rattle.pgr_outside.specs.Calls.{raised}
use Rattle.pgr_outside.specs.Files.{File, content_of}

-- what a store in memory is: its files, the most bytes of a read, the numbers of the calls that fail, the number of the last call, and its count of faults
pub record StoreState : Type 0 where
  pub files : List File
  pub most : ℕ
  pub fails : List ℕ
  pub calls : ℕ
  pub faults : ℕ

-- the next call for this name fails: its number is one of those that fail, or there is no such file
abbrev pub FailsNext : StoreState → List ℕ → Type 0
FailsNext store name = Contains store.fails (raised store.calls) ⊎ (content_of store.files name ≡ None)
