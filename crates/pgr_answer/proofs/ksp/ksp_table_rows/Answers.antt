-- The lists that are found for the pairs that are asked for are a table of the first K routes over the links of the edges.
use Rattle.std.proofs.Common.{ℕ, ◌∙◌}
use Rattle.pgr_answer.specs.Pairs.{IsAsked}
use Rattle.pgr_answer.proofs.TablesFound.{pairs_among}
use Rattle.pgr_answer.proofs.ClassTables.{links_named}
use Rattle.pgr_answer.proofs.RoutesById.{first_by_ids, first_numbered}
use Rattle.pgr_answer.proofs.KspFound.{lists_named, lists_numbered, lists_some, ksp_table_found}
use Rattle.pgr_answer.specs.Networks.{id_links}
use Rattle.pgr_answer.proofs.NetworkLemmas.{is_network}
use Rattle.pgr_answer.proofs.ksp.ksp_table_rows.Goals as goal

pub lists_for-requires-clause-among : goal.lists_for-requires-clause-among
lists_for-requires-clause-among c = rw c.as_slice-pairs.ensures.value
    (pairs_among _ (IsAsked c.as_slice-starts.result.now c.as_slice-ends.result.now c.args.tables.now.combinations) _ c.in_ok-pairs.ensures.exactly)

pub rows_of_lists-requires-clause-named : goal.rows_of_lists-requires-clause-named
rows_of_lists-requires-clause-named c =
    let are = rw c.as_slice-pairs.ensures.value at c.in_ok-found.ensures.found in
    rw c.as_slice-found.ensures.value (lists_named _ (IsAsked c.as_slice-starts.result.now c.as_slice-ends.result.now c.args.tables.now.combinations) _
    c.in_ok-pairs.ensures.exactly _ (is_network c.in_ok-network.network).ends (λ m n. c.numbers_rise_with_ids.ensures.order _ m n c.in_ok-network.network.rise)
    (λ m n. c.numbers_rise_with_ids.ensures.one _ m n c.in_ok-network.network.rise) _ c.in_ok-network.ensures.links _ _ _ are)

pub rows_of_lists-requires-clause-numbered : goal.rows_of_lists-requires-clause-numbered
rows_of_lists-requires-clause-numbered c =
    let names = c.in_ok-network.network.names in
    let network = is_network c.in_ok-network.network in
    let stand = links_named names (id_links c.in_ok-network.network) network.numbers _ _ _ network.numbered network.exactly c.in_ok-network.ensures.links in
    rw c.as_slice-found.ensures.value (lists_numbered names _ c.args.command.now.k _ _ c.in_ok-found.ensures.found
    (λ s t route is. first_numbered names network.ends.rise (λ m n. c.numbers_rise_with_ids.ensures.one names m n network.ends.rise)
    (λ walk other. c.route_order_is_kept.ensures names walk other network.ends.rise) _ _ stand s t route is))

pub rows_of_lists-requires-clause-links : goal.rows_of_lists-requires-clause-links
rows_of_lists-requires-clause-links c = rw c.as_slice-found.ensures.value (lists_some _ c.args.command.now.k _ _ c.in_ok-found.ensures.found)

pub returns : goal.returns
returns c =
    let names = c.in_ok-network.network.names in
    let network = is_network c.in_ok-network.network in
    let ends = network.ends in
    let asked = rw (c.as_slice-starts.ensures, c.as_slice-ends.ensures) at c.in_ok-pairs.ensures.exactly in
    let are = rw c.as_slice-pairs.ensures.value at c.in_ok-found.ensures.found in
    let rows = rw c.as_slice-found.ensures.value at c.in_ok-rows.ensures in
    let stand = links_named names (id_links c.in_ok-network.network) network.numbers _ _ _ network.numbered network.exactly c.in_ok-network.ensures.links in
    let order = λ (m n : ℕ). c.numbers_rise_with_ids.ensures.order names m n ends.rise in
    let one = λ (m n : ℕ). c.numbers_rise_with_ids.ensures.one names m n ends.rise in
    ksp_table_found names _ _ asked _ ends order one _ c.in_ok-network.ensures.links c.args.command.now.k _ _ are c.in_ok-found.ensures.rise
    (λ s t s_in t_in given first. first_by_ids names ends.rise one (λ walk other. c.route_order_is_kept.ensures names walk other ends.rise) _ _ stand s t s_in t_in
    c.args.command.now.k given first)
    _ (c.from_vec.ensures ∙ rows)
