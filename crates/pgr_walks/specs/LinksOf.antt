-- The links of a graph, by its meanings.
use Rattle.std.specs.Prelude.{ℕ}
use Rattle.pgr_walks.specs.declared.link.LinkOf.{LinkOf}
use Rattle.pgr_walks.specs.declared.graph.Graph.{Ghosts}
use Rattle.pgr_walks.specs.Graph.{IsLinkOf}

-- the links of a graph g, where the meanings are those that its type gives: LinksOf G.Graph g.now, or LinksOf ⟦<ListGraph as Graph>⟧ g
abbrev pub LinksOf : {G : Type 0} → Ghosts G → G → LinkOf ℕ → Type 0
LinksOf meanings g link = IsLinkOf (meanings.count g) (meanings.ins g) link
