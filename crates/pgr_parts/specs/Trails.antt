-- Where lists of vertices lead, of which there is one for each vertex.
use Rattle.std.specs.Prelude.{◌≡◌, ℕ, ◌<◌, List, [], ◌∷◌, Contains, length, slice_index_or}

-- the vertices lead from u to v: each is on the list of the one before it
abbrev pub IsTrail : List (List ℕ) → ℕ → List ℕ → ℕ → Type 0
IsTrail lists u [] v = u ≡ v
IsTrail lists u (w ∷ rest) v = Contains (slice_index_or lists u []) w × IsTrail lists w rest v

-- some vertices lead from u to v
pub record Leads (lists : List (List ℕ)) (u v : ℕ) : Type 0 where
  pub trail : List ℕ
  pub is_trail : IsTrail lists u trail v

-- vertices lead from each of two vertices to the other
abbrev pub LeadBothWays : List (List ℕ) → ℕ → ℕ → Type 0
LeadBothWays lists u v = Leads lists u v × Leads lists v u

-- on each list stand vertices that have a list
pub record AreWithin (lists : List (List ℕ)) : Type 0 where
  pub below : (v w : ℕ) → Contains (slice_index_or lists v []) w → w < length lists

-- of two vertices each is on the list of the other, or none is
pub record AreMutual (lists : List (List ℕ)) : Type 0 where
  pub back : (v w : ℕ) → Contains (slice_index_or lists v []) w → Contains (slice_index_or lists w []) v
