-- A rising numbering of vertex ids: the number of an id is its place in the rising list of the ends of some links.
use Rattle.std.specs.Prelude.{◌≡◌, ◌↔◌, ℕ, ◌<◌, List, length, map, Contains, All, ℤ, pos, slice_index_or}
use Rattle.std.specs.Ordering.{int_cmp}
use Rattle.pgr_walks.specs.Graph.{IsStrictlyRising}
use Rattle.pgr_walks.specs.declared.link.LinkOf.{LinkOf}
use Rattle.pgr_walks.specs.Walk.{IsVertex}

-- the names are the ends of the links, each once, rising
pub record AreEnds (links : List (LinkOf ℤ)) (names : List ℤ) : Type 0 where
  pub rise : IsStrictlyRising int_cmp names
  pub ends : (id : ℤ) → Contains names id ↔ IsVertex (Contains links) id

-- the id that a number below their length stands for
abbrev pub id_at : List ℤ → ℕ → ℤ
id_at names n = slice_index_or names n (pos 0)

-- a link between numbers as a link between the ids that they stand for
abbrev pub named : List ℤ → LinkOf ℕ → LinkOf ℤ
named names link = record { from = id_at names link.from; edge = link.edge; cost = link.cost; to = id_at names link.to }

-- both ends of a link are among the names
abbrev pub IsNamed : List ℤ → LinkOf ℤ → Type 0
IsNamed names link = Contains names link.from × Contains names link.to

-- both ends of a link are numbers of names
abbrev pub IsNumbered : List ℤ → LinkOf ℕ → Type 0
IsNumbered names link = (link.from < length names) × (link.to < length names)

-- links between the numbers of rising names that stand for some links between ids: the same links in order, and both ends of each are numbers of names
pub record AreNumbered (names : List ℤ) (links : List (LinkOf ℤ)) (numbers : List (LinkOf ℕ)) : Type 0 where
  pub rise : IsStrictlyRising int_cmp names
  pub same : map (named names) numbers ≡ links
  pub ends : All (IsNumbered names) numbers
