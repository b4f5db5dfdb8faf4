-- The arcs of a table make a network, between ids and so between their numbers.
use Rattle.std.proofs.Common.{length}
use Rattle.pgr_numbers.specs.Names.{AreNumbered, id_at}
use Rattle.pgr_answer.proofs.flow_network.flow_network_of.Goals as goal

pub numbered-requires : goal.numbered-requires
numbered-requires c = rw c.as_slice-3.ensures.value (rw c.as_slice-2.ensures.value at c.in_ok-names.ensures.named)

pub make-net-requires : goal.make-net-requires
make-net-requires c =
    let names = c.in_ok-names.names in
    let arcs = c.in_ok-arcs.arcs.items in
    let numbers = c.in_ok-numbered.numbered.items in
    let are : AreNumbered names arcs numbers = rw c.as_slice-3.ensures.value at c.in_ok-numbered.ensures in
    let made = c.numbered_arcs_make_a_network.ensures (length names) (id_at names) arcs numbers
    (λ m n m_in n_in. c.numbers_rise_with_ids.ensures.order names m n are.rise m_in n_in) are.ends are.same
    (c.arcs_make_a_network.ensures arcs c.in_ok-arcs.ensures.rising c.in_ok-arcs.ensures.arcs) in
    record { below = rw c.len.ensures.len are.ends; apart = made.apart; positive = made.positive; fits = made.fits; rising = made.rising }

pub returns-clause-arcs : goal.returns-clause-arcs
returns-clause-arcs c = record { each = c.in_ok-arcs.ensures.arcs; rise = c.in_ok-arcs.ensures.rising }

pub returns-clause-network : goal.returns-clause-network
returns-clause-network c = record {
  named = rw c.as_slice-2.ensures.value at c.in_ok-names.ensures.ends;
  numbered = rw c.make-net.ensures (rw c.as_slice-3.ensures.value at c.in_ok-numbered.ensures);
  size_is = rw c.make-net.ensures c.len.ensures.len;
  sources_are = c.in_ok-sources.ensures.exactly;
  sources_rise = c.in_ok-sources.ensures.rise;
  sinks_are = c.in_ok-sinks.ensures.exactly;
}
