-- The links of an edge table, between vertex ids: a set of (from, edge, cost, to).
use Rattle.std.specs.Prelude.{◌≡◌, ◌⊎◌, ℕ, ℤ, pos, List, Bool, true, false, Any}
use Rattle.pgr_walks.specs.declared.link.LinkOf.{LinkOf}
use Rattle.pgr_table.specs.declared.row.EdgeRow.{EdgeRow}
use Rattle.pgr_graph.specs.declared.links.Direction.{Direction}
use Rattle.pgr_graph.specs.declared.links.Direction.TheVariants.{Forward, Backward}

-- the row stands with this cost in the direction: in the directed graph forward with its cost and backward with its reverse cost, in the undirected
-- graph both ways with each; a cost that is negative is none
abbrev pub HasSense : Bool → EdgeRow → Direction → ℕ → Type 0
HasSense true row Forward cost = row.cost ≡ pos cost
HasSense true row Backward cost = row.reverse_cost ≡ pos cost
HasSense false row direction cost = (row.cost ≡ pos cost) ⊎ (row.reverse_cost ≡ pos cost)

-- the link along the row in the direction: forward from its source to its target
abbrev pub link_along : EdgeRow → Direction → ℕ → LinkOf ℤ
link_along row Forward cost = record { from = row.source; edge = row.id; cost = cost; to = row.target }
link_along row Backward cost = record { from = row.target; edge = row.id; cost = cost; to = row.source }

-- the row gives the link
abbrev pub IsLinkOfRow : Bool → EdgeRow → LinkOf ℤ → Type 0
IsLinkOfRow directed row link = (direction : Direction) × HasSense directed row direction link.cost × (link ≡ link_along row direction link.cost)

-- some row of the table gives the link
abbrev pub IsLinkOfTable : List EdgeRow → Bool → LinkOf ℤ → Type 0
IsLinkOfTable rows directed link = Any (λ row. IsLinkOfRow directed row link) rows
