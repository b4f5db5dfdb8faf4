-- What rows of tables count, and their bounds.
use Rattle.std.specs.Prelude.{ℕ, ℤ, pos, negsuc}
pub use Rattle.pgr_outside.specs.Limits.{greatest}

-- what a number counts in the sum of a table: itself, and nothing where it is negative
abbrev pub counted : ℤ → ℕ
counted (pos n) = n
counted (negsuc n) = 0

-- the greatest number of rows
abbrev pub most_rows : ℕ
most_rows = 4194304

-- the greatest number of elements of all lists of a table
abbrev pub most_elements : ℕ
most_elements = 1048576
