-- The links of a table, one at a time: what each slot of a row has, in the order in which they are listed.
use Rattle.std.specs.Prelude.{ℤ, Bool, true, false, List, [], ◌∷◌, Option, None, if◌then◌else◌}
use Rattle.std.specs.List.{flat_map}
use Rattle.std.specs.Ordering.{int_eq}
use Rattle.pgr_walks.specs.declared.link.LinkOf.{LinkOf}
use Rattle.pgr_table.specs.declared.row.EdgeRow.{EdgeRow}
use Rattle.pgr_graph.specs.declared.links.Direction.{Direction}
use Rattle.pgr_graph.specs.declared.links.Direction.TheVariants.{Forward, Backward}
use Rattle.pgr_graph.specs.Senses.{link_of_sense}

-- the link along the row with its reverse cost, or none where that is negative or equals the cost
abbrev pub second_along : EdgeRow → Direction → Option (LinkOf ℤ)
second_along row direction = if int_eq row.cost row.reverse_cost then None else link_of_sense row direction row.reverse_cost

-- the slots of a row: in the directed graph there and back, in the undirected one both costs there and both back; a slot is empty where its cost is
-- negative or its link stands in an earlier slot of the row, and the second slot of a self loop in the directed graph is there with the reverse cost
abbrev pub slots_of_row : Bool → EdgeRow → List (Option (LinkOf ℤ))
slots_of_row true row =
    link_of_sense row Forward row.cost
    ∷ (if int_eq row.source row.target then second_along row Forward else link_of_sense row Backward row.reverse_cost)
    ∷ []
slots_of_row false row =
    link_of_sense row Forward row.cost
    ∷ second_along row Forward
    ∷ (if int_eq row.source row.target then None else link_of_sense row Backward row.cost)
    ∷ (if int_eq row.source row.target then None else second_along row Backward)
    ∷ []

-- the slots of all rows, row by row
abbrev pub slots_of_table : Bool → List EdgeRow → List (Option (LinkOf ℤ))
slots_of_table directed rows = flat_map (slots_of_row directed) rows
