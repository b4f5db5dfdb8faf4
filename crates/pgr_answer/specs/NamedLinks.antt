-- The links between ids that a numbered graph and the names of its vertices give.
use Rattle.std.specs.Prelude.{◌≡◌, ℕ, zero, suc, ◌<◌, Bool, IsTrue, ◌||◌, List, [], ◌++◌, map, ℤ, Contains}
use Rattle.std.specs.List.{list_any}
use Rattle.std.specs.Ordering.{int_eq}
use Rattle.pgr_walks.specs.declared.link.LinkOf.{LinkOf}
use Rattle.pgr_numbers.specs.Names.{named}

-- all links of a graph of this size, with these links into each vertex: vertex by vertex
abbrev pub all_links : ℕ → (ℕ → List (LinkOf ℕ)) → List (LinkOf ℕ)
all_links zero ins = []
all_links (suc v) ins = all_links v ins ++ ins v

-- the links between ids that they stand for, where the vertices have these names
abbrev pub named_links : List ℤ → ℕ → (ℕ → List (LinkOf ℕ)) → List (LinkOf ℤ)
named_links names size ins = map (named names) (all_links size ins)

-- each link into a vertex below the size leads to it, from a vertex below the size
abbrev pub LeadToVertices : ℕ → (ℕ → List (LinkOf ℕ)) → Type 0
LeadToVertices size ins = (v : ℕ) (link : LinkOf ℕ) → v < size → Contains (ins v) link → (link.to ≡ v) × (link.from < size)

-- whether an id is one of the two ends of a link
abbrev pub is_end : ℤ → LinkOf ℤ → Bool
is_end id link = int_eq id link.from || int_eq id link.to

-- an id is an end of some of the links
abbrev pub IsEndOf : List (LinkOf ℤ) → ℤ → Type 0
IsEndOf links id = IsTrue (list_any (is_end id) links)
