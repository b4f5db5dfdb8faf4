-- What one direction of a row gives for a cost as it was read.
use Rattle.std.specs.Prelude.{ℤ, pos, negsuc, Option, Some, None}
use Rattle.pgr_walks.specs.declared.link.LinkOf.{LinkOf}
use Rattle.pgr_table.specs.declared.row.EdgeRow.{EdgeRow}
use Rattle.pgr_graph.specs.declared.links.Direction.{Direction}
use Rattle.pgr_graph.specs.Links.{link_along}

-- the link along the row in the direction with the cost, or none where the cost is negative
abbrev pub link_of_sense : EdgeRow → Direction → ℤ → Option (LinkOf ℤ)
link_of_sense row direction (pos cost) = Some (link_along row direction cost)
link_of_sense row direction (negsuc n) = None
