-- What is found for the pairs that are asked for is a table of costs over the links of the edges.
use Rattle.std.proofs.Common.{◌∙◌}
use Rattle.pgr_answer.specs.Pairs.{IsAsked}
use Rattle.pgr_answer.proofs.TablesFound.{pairs_among, found_named, cost_table_found}
use Rattle.pgr_answer.proofs.NetworkLemmas.{is_network}
use Rattle.pgr_answer.proofs.costs.costs_between.Goals as goal

pub found_for-requires-clause-among : goal.found_for-requires-clause-among
found_for-requires-clause-among c = rw c.as_slice-pairs.ensures.value
    (pairs_among _ (IsAsked c.args.starts.now c.args.ends.now c.args.combinations.now) _ c.in_ok-pairs.ensures.exactly)

pub rows_of_costs-requires : goal.rows_of_costs-requires
rows_of_costs-requires c =
    let are = rw c.as_slice-pairs.ensures.value at c.in_ok-found.ensures.found in
    rw c.as_slice-found.ensures.value (found_named _ (IsAsked c.args.starts.now c.args.ends.now c.args.combinations.now) _ c.in_ok-pairs.ensures.exactly _ _ _ are)

pub returns : goal.returns
returns c =
    let names = c.in_ok-network.network.names in
    let ends = (is_network c.in_ok-network.network).ends in
    let are = rw c.as_slice-pairs.ensures.value at c.in_ok-found.ensures.found in
    let rows = rw c.as_slice-found.ensures.value at c.in_ok-rows.ensures in
    cost_table_found names _ _ c.in_ok-pairs.ensures.exactly _ ends
    (λ m n. c.numbers_rise_with_ids.ensures.order names m n ends.rise) (λ m n. c.numbers_rise_with_ids.ensures.one names m n ends.rise)
    _ c.in_ok-network.ensures.links _ _ _ are c.in_ok-found.ensures.rise (c.from_vec.ensures ∙ rows)
