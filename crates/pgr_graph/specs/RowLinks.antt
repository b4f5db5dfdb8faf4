-- The links that a row gives, and those of a table row by row, as lists: each once, in the order in which they are listed.
use Rattle.std.specs.Prelude.{◌++◌, ℤ, Bool, List, if◌then◌else◌}
use Rattle.std.specs.List.{flat_map}
use Rattle.std.specs.Option.{option_to_list}
use Rattle.std.specs.Ordering.{int_eq}
use Rattle.pgr_walks.specs.declared.link.LinkOf.{LinkOf}
use Rattle.pgr_table.specs.declared.row.EdgeRow.{EdgeRow}
use Rattle.pgr_graph.specs.declared.links.Direction.{Direction}
use Rattle.pgr_graph.specs.declared.links.Direction.TheVariants.{Forward, Backward}
use Rattle.pgr_graph.specs.Senses.{link_of_sense}

-- the links along the row in the direction with each of its costs, equal costs once
abbrev pub links_along : EdgeRow → Direction → List (LinkOf ℤ)
links_along row direction =
    if int_eq row.cost row.reverse_cost then option_to_list (link_of_sense row direction row.cost)
    else option_to_list (link_of_sense row direction row.cost) ++ option_to_list (link_of_sense row direction row.reverse_cost)

-- the links of the row: a self loop has the same links both ways
abbrev pub links_of_row : Bool → EdgeRow → List (LinkOf ℤ)
links_of_row directed row =
    if int_eq row.source row.target then links_along row Forward
    else if directed then option_to_list (link_of_sense row Forward row.cost) ++ option_to_list (link_of_sense row Backward row.reverse_cost)
    else links_along row Forward ++ links_along row Backward

-- the links of all rows, row by row
abbrev pub links_of_rows : Bool → List EdgeRow → List (LinkOf ℤ)
links_of_rows directed rows = flat_map (links_of_row directed) rows
