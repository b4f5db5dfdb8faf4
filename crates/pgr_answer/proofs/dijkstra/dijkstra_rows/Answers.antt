-- What is found for the pairs that are asked for is a table of paths over the links of the edges.
use Rattle.std.proofs.Common.{◌∙◌}
use Rattle.pgr_answer.specs.Pairs.{IsAsked}
use Rattle.pgr_answer.proofs.TablesFound.{pairs_among, found_named, path_table_found, routes_numbered, routes_some}
use Rattle.pgr_answer.proofs.NetworkLemmas.{is_network}
use Rattle.pgr_answer.proofs.dijkstra.dijkstra_rows.Goals as goal

pub found_for-requires-clause-among : goal.found_for-requires-clause-among
found_for-requires-clause-among c = rw c.as_slice-pairs.ensures.value
    (pairs_among _ (IsAsked c.as_slice-starts.result.now c.as_slice-ends.result.now c.args.tables.now.combinations) _ c.in_ok-pairs.ensures.exactly)

pub rows_of_routes-requires-clause-named : goal.rows_of_routes-requires-clause-named
rows_of_routes-requires-clause-named c =
    let are = rw c.as_slice-pairs.ensures.value at c.in_ok-found.ensures.found in
    rw c.as_slice-found.ensures.value (found_named _ (IsAsked c.as_slice-starts.result.now c.as_slice-ends.result.now c.args.tables.now.combinations) _
    c.in_ok-pairs.ensures.exactly _ _ _ are)

pub rows_of_routes-requires-clause-numbered : goal.rows_of_routes-requires-clause-numbered
rows_of_routes-requires-clause-numbered c = rw c.as_slice-found.ensures.value (routes_numbered _ _ _ _ c.in_ok-found.ensures.found)

pub rows_of_routes-requires-clause-links : goal.rows_of_routes-requires-clause-links
rows_of_routes-requires-clause-links c = rw c.as_slice-found.ensures.value (routes_some _ _ _ _ c.in_ok-found.ensures.found)

pub returns : goal.returns
returns c =
    let names = c.in_ok-network.network.names in
    let ends = (is_network c.in_ok-network.network).ends in
    let asked = rw (c.as_slice-starts.ensures, c.as_slice-ends.ensures) at c.in_ok-pairs.ensures.exactly in
    let are = rw c.as_slice-pairs.ensures.value at c.in_ok-found.ensures.found in
    let rows = rw c.as_slice-found.ensures.value at c.in_ok-rows.ensures in
    path_table_found names _ _ asked _ ends
    (λ m n. c.numbers_rise_with_ids.ensures.order names m n ends.rise) (λ m n. c.numbers_rise_with_ids.ensures.one names m n ends.rise)
    _ c.in_ok-network.ensures.links _ _ are c.in_ok-found.ensures.rise (c.from_vec.ensures ∙ rows)
