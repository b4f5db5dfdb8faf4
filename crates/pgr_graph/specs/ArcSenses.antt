-- What one direction of a row gives for a capacity as it was read.
use Rattle.std.specs.Prelude.{◌==◌, ℤ, pos, negsuc, if◌then◌else◌, Option, Some, None}
use Rattle.std.specs.Ordering.{int_eq}
use Rattle.pgr_walks.specs.declared.link.LinkOf.{LinkOf}
use Rattle.pgr_table.specs.declared.row.CapacityRow.{CapacityRow}
use Rattle.pgr_graph.specs.declared.links.Direction.{Direction}
use Rattle.pgr_graph.specs.Arcs.{arc_along}

-- the arc along the row in the direction with the capacity, or none where the capacity isn't positive or the row's ends are equal
abbrev pub arc_of_sense : CapacityRow → Direction → ℤ → Option (LinkOf ℤ)
arc_of_sense row direction (pos n) = if n == 0 then None else if int_eq row.source row.target then None else Some (arc_along row direction n)
arc_of_sense row direction (negsuc n) = None
