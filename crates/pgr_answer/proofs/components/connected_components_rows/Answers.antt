-- The names of the classes of the network's graph are a table of the classes over the links of the edges.
use Rattle.std.proofs.Common.{◌∙◌}
use Rattle.pgr_answer.proofs.ClassTables.{connected_table, connected_below}
use Rattle.pgr_answer.proofs.NetworkLemmas.{is_network}
use Rattle.pgr_answer.proofs.components.connected_components_rows.Goals as goal

pub rows_of_classes-requires-clause-size : goal.rows_of_classes-requires-clause-size
rows_of_classes-requires-clause-size c = rw c.as_slice.ensures.value (c.in_ok-classes.ensures.size_is ∙ c.in_ok-network.network.size_is)

pub rows_of_classes-requires-clause-among : goal.rows_of_classes-requires-clause-among
rows_of_classes-requires-clause-among c = rw (c.as_slice.ensures.value, ← c.in_ok-network.network.size_is) (connected_below _ _ _ c.in_ok-classes.ensures)

pub returns : goal.returns
returns c =
    let names = c.in_ok-network.network.names in
    let rows = rw c.as_slice.ensures.value at c.in_ok-rows.ensures in
    connected_table _ names _ _ (is_network c.in_ok-network.network) _ c.in_ok-network.ensures.links
    (c.numbers_rise_with_ids.ensures.order names) (c.numbers_rise_with_ids.ensures.one names)
    _ rows.0 rows.1 _ (c.from_vec.ensures ∙ rows.2) c.in_ok-classes.ensures
