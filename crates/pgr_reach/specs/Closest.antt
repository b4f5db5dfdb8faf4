-- The least cost and root of a vertex among rows, each of a root.
use Rattle.std.specs.Prelude.{ℕ, List, Bool, true, false, Option, Some, None, ◌==◌, ◌&&◌, ◌||◌, nat_lt, if◌then◌else◌, fold}
use Rattle.pgr_reach.specs.declared.reach.ReachedOf.{ReachedOf}
use Rattle.pgr_reach.specs.declared.reach.Reach.{Reach}
use Rattle.pgr_reach.specs.declared.closest.Closest.{Closest}

-- a cost and root are before what was found, if anything was: the cost is less, or the same and the root less
abbrev pub is_closer : Option Closest → ℕ → ℕ → Bool
is_closer None cost root = true
is_closer (Some found) cost root = nat_lt cost found.cost || ((cost == found.cost) && nat_lt root found.root)

-- what is found of a vertex after a row of a root
abbrev pub after_row : ℕ → ℕ → Option Closest → ReachedOf ℕ → Option Closest
after_row v root found row = if (row.node == v) && is_closer found row.label.cost root then Some (record { cost = row.label.cost; root = root }) else found

-- what is found of a vertex after the rows of a root
abbrev pub after_rows : ℕ → ℕ → Option Closest → List (ReachedOf ℕ) → Option Closest
after_rows v root found rows = fold (after_row v root) found rows

-- what is found of a vertex after some roots with their rows
abbrev pub after_reaches : ℕ → Option Closest → List Reach → Option Closest
after_reaches v found reaches = fold (λ found reach. after_rows v reach.root found reach.rows.items) found reaches

-- what is found is this cost at this root
abbrev pub is_found : Option Closest → ℕ → ℕ → Bool
is_found None cost root = false
is_found (Some found) cost root = (found.cost == cost) && (found.root == root)
