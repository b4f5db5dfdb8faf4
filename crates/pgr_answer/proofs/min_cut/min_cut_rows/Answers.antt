-- The marked vertices are the least source side between the starts and the ends, by number.
use Rattle.std.proofs.Common.{◌∙◌, refl}
use Rattle.pgr_answer.proofs.FlowTables.{sources_below, sinks_below, cut_shared, cut_found}
use Rattle.pgr_answer.proofs.min_cut.min_cut_rows.Goals as goal

pub flow_cut_of-requires-clause-sources : goal.flow_cut_of-requires-clause-sources
flow_cut_of-requires-clause-sources c = rw c.as_slice-sources.ensures.value (sources_below _ c.in_ok-network.network.names _ _ _ _ _ c.in_ok-network.ensures.network
    (c.numbers_rise_with_ids.ensures.one c.in_ok-network.network.names))

pub flow_cut_of-requires-clause-sinks : goal.flow_cut_of-requires-clause-sinks
flow_cut_of-requires-clause-sinks c = rw c.as_slice-sinks.ensures.value (sinks_below _ c.in_ok-network.network.names _ _ _ _ _ c.in_ok-network.ensures.network
    (c.numbers_rise_with_ids.ensures.one c.in_ok-network.network.names))

pub flow_cut_of-requires-clause-rise : goal.flow_cut_of-requires-clause-rise
flow_cut_of-requires-clause-rise c = rw c.as_slice-sources.ensures.value c.in_ok-network.ensures.network.sources_rise

pub rows_of_cut-requires-clause-numbered : goal.rows_of_cut-requires-clause-numbered
rows_of_cut-requires-clause-numbered c = rw c.arcs.ensures.arcs c.in_ok-network.ensures.network.numbered.ends

pub rows_of_cut-requires-clause-marks : goal.rows_of_cut-requires-clause-marks
rows_of_cut-requires-clause-marks c =
    let is = rw (c.in-Some.is, c.as_slice-sources.ensures.value, c.as_slice-sinks.ensures.value) at c.in_ok-found.ensures.some in
    rw c.as_slice-side.ensures.value (is.marks ∙ c.in_ok-network.ensures.network.size_is)

pub returns-in_default : goal.returns-in_default
returns-in_default c =
    let network = c.in_ok-network.ensures.network in
    let one = c.numbers_rise_with_ids.ensures.one c.in_ok-network.network.names in
    let common = rw (c.in_default.is, c.as_slice-sources.ensures.value, c.as_slice-sinks.ensures.value) at c.in_ok-found.ensures.none in
    let allowed = rw (c.as_slice-starts.ensures, c.as_slice-ends.ensures) at (cut_shared _ c.in_ok-network.network.names _ _ _ _ _
    network one common c.from_vec.result (c.from_vec.ensures ∙ c.new.ensures.items)) in
    (c.in_ok-network.network.arcs.items, c.from_vec.result, c.in_ok-network.ensures.arcs, allowed, refl)

pub returns : goal.returns
returns c =
    let network = c.in_ok-network.ensures.network in
    let one = c.numbers_rise_with_ids.ensures.one c.in_ok-network.network.names in
    let is = rw (c.in-Some.is, c.as_slice-sources.ensures.value, c.as_slice-sinks.ensures.value) at c.in_ok-found.ensures.some in
    let rows = rw (c.arcs.ensures.arcs, c.as_slice-side.ensures.value) at c.in_ok-rows.ensures in
    let allowed = rw (c.as_slice-starts.ensures, c.as_slice-ends.ensures) at (cut_found _ c.in_ok-network.network.names _ _ _ _ _
    network one c.in-Some.found is c.from_vec-2.result (c.from_vec-2.ensures ∙ rows)) in
    (c.in_ok-network.network.arcs.items, c.from_vec-2.result, c.in_ok-network.ensures.arcs, allowed, refl)
