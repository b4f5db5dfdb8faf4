-- The value of a greatest flow over the network is that between the starts and the ends.
use Rattle.std.proofs.Common.{refl}
use Rattle.pgr_answer.proofs.FlowTables.{sources_below, sinks_below, value_shared, value_found}
use Rattle.pgr_answer.proofs.max_flow.max_flow_rows.Goals as goal

pub flow_cut_of-requires-clause-sources : goal.flow_cut_of-requires-clause-sources
flow_cut_of-requires-clause-sources c = rw c.as_slice-sources.ensures.value (sources_below _ c.in_ok-network.network.names _ _ _ _ _ c.in_ok-network.ensures.network
    (c.numbers_rise_with_ids.ensures.one c.in_ok-network.network.names))

pub flow_cut_of-requires-clause-sinks : goal.flow_cut_of-requires-clause-sinks
flow_cut_of-requires-clause-sinks c = rw c.as_slice-sinks.ensures.value (sinks_below _ c.in_ok-network.network.names _ _ _ _ _ c.in_ok-network.ensures.network
    (c.numbers_rise_with_ids.ensures.one c.in_ok-network.network.names))

pub flow_cut_of-requires-clause-rise : goal.flow_cut_of-requires-clause-rise
flow_cut_of-requires-clause-rise c = rw c.as_slice-sources.ensures.value c.in_ok-network.ensures.network.sources_rise

pub returns-in_default : goal.returns-in_default
returns-in_default c =
    let network = c.in_ok-network.ensures.network in
    let one = c.numbers_rise_with_ids.ensures.one c.in_ok-network.network.names in
    let common = rw (c.in_default.is, c.as_slice-sources.ensures.value, c.as_slice-sinks.ensures.value) at c.in_ok-found.ensures.none in
    let allowed = rw (c.as_slice-starts.ensures, c.as_slice-ends.ensures) at (value_shared _ c.in_ok-network.network.names _ _ _ _ _ network one common) in
    (c.in_ok-network.network.arcs.items, 0, c.in_ok-network.ensures.arcs, allowed, refl)

pub returns : goal.returns
returns c =
    let network = c.in_ok-network.ensures.network in
    let one = c.numbers_rise_with_ids.ensures.one c.in_ok-network.network.names in
    let is = rw (c.in-Some.is, c.as_slice-sources.ensures.value, c.as_slice-sinks.ensures.value) at c.in_ok-found.ensures.some in
    let allowed = rw (c.as_slice-starts.ensures, c.as_slice-ends.ensures) at (value_found _ c.in_ok-network.network.names _ _ _ _ _ network one c.in-Some.found is) in
    (c.in_ok-network.network.arcs.items, c.in-Some.found.value, c.in_ok-network.ensures.arcs, allowed, refl)
