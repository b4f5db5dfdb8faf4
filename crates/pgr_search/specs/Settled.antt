-- Which vertices are settled, as a list beside their labels.
use Rattle.std.specs.Prelude.{◌≡◌, ℕ, ◌<◌, ◌^◌, List, Option, Some, None, length, slice_index_or}
use Rattle.std.specs.Option.{is_some}
use Rattle.std.specs.List.{count_by}
use Rattle.pgr_walks.specs.declared.label.Label.{Label}

-- so many places of the list, which has one for each vertex, hold the vertices that have a label
pub record IsListed (labels : List (Option Label)) (order : List ℕ) (count : ℕ) : Type 0 where
  pub small : length labels < 2 ^ 32
  pub size : length order ≡ length labels
  pub counted : count ≡ count_by is_some labels
  pub inside : (i : ℕ) → i < count → slice_index_or order i 0 < length labels
  pub listed : (v : ℕ) (label : Label) → slice_index_or labels v None ≡ Some label → (i : ℕ) × (i < count) × (slice_index_or order i 0 ≡ v)
