-- How a name spreads from a vertex to its neighbours.
use Rattle.std.specs.Prelude.{◌≡◌, ℕ, ◌<◌, ◌≤◌, ◌++◌, List, [], Option, Some, None, Contains, length, slice_index_or, slice_set}
use Rattle.pgr_parts.specs.Trails.{Leads}

-- a vertex has a name
abbrev pub HasName : List (Option ℕ) → ℕ → Type 0
HasName names v = (m : ℕ) × (slice_index_or names v None ≡ Some m)

-- names over whole classes: a named vertex is led to from its name, which is not greater; what is on its list has the same name; and each vertex below the bound has a name
pub record AreSpread (lists : List (List ℕ)) (bound : ℕ) (names : List (Option ℕ)) : Type 0 where
  pub size_is : length names ≡ length lists
  pub sound : (v m : ℕ) → slice_index_or names v None ≡ Some m → Leads lists m v × (m ≤ v)
  pub closed : (v m w : ℕ) → slice_index_or names v None ≡ Some m → Contains (slice_index_or lists v []) w → slice_index_or names w None ≡ Some m
  pub below : (v : ℕ) → v < bound → HasName names v

-- a vertex that waited had no name: then it has the root's, and its list waits; or it had one, and all is as it was
pub record IsNamedFrom (list : List ℕ) (root v : ℕ) (names names' : List (Option ℕ)) (waiting waiting' : List ℕ) : Type 0 where
  pub fresh : slice_index_or names v None ≡ None → (names' ≡ slice_set names v (Some root)) × (waiting' ≡ waiting ++ list)
  pub named : (m : ℕ) → slice_index_or names v None ≡ Some m → (names' ≡ names) × (waiting' ≡ waiting)
