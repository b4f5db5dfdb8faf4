-- What is found for the pairs that are asked for is a table of paths over the links of the edges; the notes are those of the starts.
use Rattle.std.proofs.Common.{◌∙◌, rules}
use Rattle.std.proofs.lemmas.List.Sorted.{answers_always}
use Rattle.pgr_answer.specs.Pairs.{IsAsked}
use Rattle.pgr_answer.proofs.TablesFound.{pairs_among, found_named, path_table_found, routes_numbered, routes_some}
use Rattle.pgr_answer.proofs.EstimatesById.{names_named}
use Rattle.pgr_answer.proofs.NoteLemmas.{notes_found}
use Rattle.pgr_answer.proofs.GuidedLemmas.{pairs_moved, pairs_by_start, starts_of_pairs, starts_below}
use Rattle.pgr_answer.proofs.NetworkLemmas.{is_network}
use Rattle.pgr_answer.proofs.astar.astar_rows.Goals as goal

pub guided_routes-requires-clause-named : goal.guided_routes-requires-clause-named
guided_routes-requires-clause-named c = names_named _ _ _ _ (is_network c.in_ok-network.network).ends c.in_ok-network.ensures.links

pub guided_routes-requires-clause-starts : goal.guided_routes-requires-clause-starts
guided_routes-requires-clause-starts c = rw c.as_slice-asked.ensures.value
    (starts_below _ (IsAsked c.as_slice-starts.result.now c.as_slice-ends.result.now c.args.tables.now.combinations) _ c.in_ok-asked.ensures.exactly)

pub guided_routes-requires-clause-rise : goal.guided_routes-requires-clause-rise
guided_routes-requires-clause-rise c = rw c.as_slice-asked.ensures.value c.in_ok-asked.ensures.rise

pub guided_routes-requires-clause-among : goal.guided_routes-requires-clause-among
guided_routes-requires-clause-among c = rw c.as_slice-pairs.ensures.value
    (pairs_among _ (IsAsked c.as_slice-starts.result.now c.as_slice-ends.result.now c.args.tables.now.combinations) _
    (pairs_moved _ _ _ c.in_ok-pairs.ensures.exactly c.sort_unstable_by_key.ensures.permutation))

pub guided_routes-requires-clause-by_start : goal.guided_routes-requires-clause-by_start
guided_routes-requires-clause-by_start c = rw c.as_slice-pairs.ensures.value
    (pairs_by_start _ _ c.in_ok-pairs.ensures.rise c.sort_unstable_by_key.ensures.permutation
    (c.sort_unstable_by_key.ensures.sorted (λ pair. (pair.start, pair.end)) (answers_always _ _ _ (λ f a r g h. search rules))))

pub guided_routes-requires-clause-started : goal.guided_routes-requires-clause-started
guided_routes-requires-clause-started c = rw (c.as_slice-pairs.ensures.value, c.as_slice-asked.ensures.value)
    (starts_of_pairs _ (IsAsked c.as_slice-starts.result.now c.as_slice-ends.result.now c.args.tables.now.combinations) _ _ c.in_ok-asked.ensures.exactly
    (pairs_moved _ _ _ c.in_ok-pairs.ensures.exactly c.sort_unstable_by_key.ensures.permutation))

pub rows_of_routes-requires-clause-named : goal.rows_of_routes-requires-clause-named
rows_of_routes-requires-clause-named c =
    let are = rw c.as_slice-pairs.ensures.value at c.in_ok-found.ensures.found in
    rw c.as_slice-found.ensures.value (found_named _ (IsAsked c.as_slice-starts.result.now c.as_slice-ends.result.now c.args.tables.now.combinations) _
    (pairs_moved _ _ _ c.in_ok-pairs.ensures.exactly c.sort_unstable_by_key.ensures.permutation) _ _ _ are)

pub rows_of_routes-requires-clause-numbered : goal.rows_of_routes-requires-clause-numbered
rows_of_routes-requires-clause-numbered c = rw c.as_slice-found.ensures.value (routes_numbered _ _ _ _ c.in_ok-found.ensures.found)

pub rows_of_routes-requires-clause-links : goal.rows_of_routes-requires-clause-links
rows_of_routes-requires-clause-links c = rw c.as_slice-found.ensures.value (routes_some _ _ _ _ c.in_ok-found.ensures.found)

pub returns-clause-rows : goal.returns-clause-rows
returns-clause-rows c =
    let names = c.in_ok-network.network.names in
    let ends = (is_network c.in_ok-network.network).ends in
    let asked = rw (c.as_slice-starts.ensures, c.as_slice-ends.ensures) at (pairs_moved _ _ _ c.in_ok-pairs.ensures.exactly c.sort_unstable_by_key.ensures.permutation) in
    let are = rw c.as_slice-pairs.ensures.value at c.in_ok-found.ensures.found in
    let rows = rw c.as_slice-found.ensures.value at c.in_ok-rows.ensures in
    path_table_found names _ _ asked _ ends
    (λ m n. c.numbers_rise_with_ids.ensures.order names m n ends.rise) (λ m n. c.numbers_rise_with_ids.ensures.one names m n ends.rise)
    _ c.in_ok-network.ensures.links _ _ are c.in_ok-found.ensures.found_rise (c.from_vec.ensures ∙ rows)

pub returns-clause-notes : goal.returns-clause-notes
returns-clause-notes c =
    let starts = rw (c.as_slice-starts.ensures, c.as_slice-ends.ensures) at c.in_ok-asked.ensures.exactly in
    let notes = rw c.as_slice-asked.ensures.value at c.in_ok-found.ensures.notes in
    notes_found _ _ c.in_ok-network.ensures.links _ _ _ (is_network c.in_ok-network.network).ends _ starts _ notes
