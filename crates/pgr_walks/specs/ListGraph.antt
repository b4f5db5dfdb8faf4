-- A graph of a list of links: the links that begin at a vertex, and those that lead to it.
use Rattle.std.specs.Prelude.{ℕ, ◌==◌, ◌<◌, List, filter, Bool, ◌≡◌}
use Rattle.std.specs.List.{list_any}
use Rattle.std.specs.declared.cmp.Ordering.{Ordering}
use Rattle.std.specs.Ordering.{nat_cmp, ordering_then, eq_by_cmp}
use Rattle.pgr_walks.specs.declared.link.LinkOf.{LinkOf}
use Rattle.pgr_walks.specs.Link.{link_cmp, entry_cmp}

-- those of the links that begin at v, in their order
abbrev pub links_from : List (LinkOf ℕ) → ℕ → List (LinkOf ℕ)
links_from links v = filter (λ link. link.from == v) links

-- those of the links that lead to v, in their order
abbrev pub links_into : List (LinkOf ℕ) → ℕ → List (LinkOf ℕ)
links_into links v = filter (λ link. link.to == v) links

-- the order of all links by where they lead: then by edge, cost and where they begin
abbrev pub arrival_cmp : LinkOf ℕ → LinkOf ℕ → Ordering
arrival_cmp a b = ordering_then (nat_cmp a.to b.to) (entry_cmp nat_cmp a b)

-- the ends of the link are below the size
abbrev pub HasEndsBelow : ℕ → LinkOf ℕ → Type 0
HasEndsBelow size link = (link.from < size) × (link.to < size)

-- whether the link is one of the links
abbrev pub holds : List (LinkOf ℕ) → LinkOf ℕ → Bool
holds links link = list_any (eq_by_cmp (link_cmp nat_cmp) link) links

-- the same links stand in both lists
abbrev pub HoldTheSame : List (LinkOf ℕ) → List (LinkOf ℕ) → Type 0
HoldTheSame xs ys = (link : LinkOf ℕ) → holds xs link ≡ holds ys link
