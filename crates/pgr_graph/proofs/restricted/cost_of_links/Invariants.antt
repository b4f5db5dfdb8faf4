use Rattle.std.proofs.Common.{◌≡◌, ◌*◌, ◌≤◌, ◌^◌, take}
use Rattle.pgr_graph.specs.Restricted.{table_cost}
use Rattle.pgr_graph.proofs.restricted.cost_of_links.Given as goal

-- the total is that of the rows so far, each of them within its bound
abbrev pub invariant-loop-i : goal.invariant-loop-i
invariant-loop-i l = record {
  total : l.total ≡ table_cost l.directed (take l.i l.edges);
  small : l.total ≤ l.i * 2 ^ 65;
}
