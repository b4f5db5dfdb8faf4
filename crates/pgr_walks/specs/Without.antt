-- Links without those that touch some vertices, and without some links.
use Rattle.std.specs.Prelude.{◌≡◌, ℕ, ◌==◌, ◌&&◌, List, Bool, true, false, not, Option, Some, None, Contains, slice_index_or, if◌then◌else◌}
use Rattle.pgr_walks.specs.declared.link.LinkOf.{LinkOf}
use Rattle.pgr_walks.specs.ListGraph.{holds}

-- the vertex is marked
abbrev pub IsMarked : List Bool → ℕ → Type 0
IsMarked gone v = slice_index_or gone v false ≡ true

-- the link touches no vertex that is marked as gone, and is none of the taboo links
pub record IsSpared (gone : List Bool) (taboo : List (LinkOf ℕ)) (link : LinkOf ℕ) : Type 0 where
  pub from_stays : IsMarked gone link.from → ⊥
  pub to_stays : IsMarked gone link.to → ⊥
  pub allowed : Contains taboo link → ⊥

-- what is left out of a graph: links that touch marked vertices, and taboo links, which all leave one vertex
pub record Omissions : Type 0 where
  pub gone : List Bool
  pub first : ℕ
  pub taboo : List (LinkOf ℕ)

-- whether the link is spared: only a link that leaves the one vertex is looked for among the taboo links
abbrev pub spares : Omissions → LinkOf ℕ → Bool
spares omissions link = not (slice_index_or omissions.gone link.from false) &&
    (not (slice_index_or omissions.gone link.to false) && not ((link.from == omissions.first) && holds omissions.taboo link))

-- what a visitor that leaves those links out makes of each
abbrev pub spare : Omissions → LinkOf ℕ → Option (LinkOf ℕ)
spare omissions link = if spares omissions link then Some link else None
