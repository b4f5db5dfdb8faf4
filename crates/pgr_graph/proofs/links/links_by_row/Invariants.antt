use Rattle.std.proofs.Common.{◌≡◌, take, ◌≤◌, vec_len}
use Rattle.pgr_numbers.specs.Slots.{links_in}
use Rattle.pgr_graph.specs.RowSlots.{slots_of_table}
use Rattle.pgr_graph.proofs.links.links_by_row.Given as goal

-- the links so far are those of the slots so far
abbrev pub invariant-loop-slot : goal.invariant-loop-slot
invariant-loop-slot l = record {
  links : l.links.items ≡ links_in (take l.slot (slots_of_table l.source.directed l.source.edges.now));
  few : vec_len l.links ≤ l.slot;
}
