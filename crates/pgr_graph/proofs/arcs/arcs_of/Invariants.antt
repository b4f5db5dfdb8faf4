use Rattle.std.proofs.Common.{◌≡◌, take, ◌≤◌, ◌*◌, vec_len}
use Rattle.pgr_graph.proofs.ArcLists.{arcs_of_rows}
use Rattle.pgr_graph.proofs.arcs.arcs_of.Given as goal

-- the arcs so far are those of the rows so far, at most two for each
abbrev pub invariant-loop-i : goal.invariant-loop-i
invariant-loop-i l = record {
  arcs : l.arcs.items ≡ arcs_of_rows (take l.i l.table);
  few : vec_len l.arcs ≤ 2 * l.i;
}
