use Rattle.std.proofs.Common.{◌≡◌, ◌+◌, ◌≤◌, drop}
use Rattle.pgr_table.specs.Rows.{most_elements}
use Rattle.pgr_table.specs.Restrictions.{elements_of_lists}
use Rattle.pgr_graph.specs.Restricted.{restricted_fault, first_over}
use Rattle.pgr_graph.proofs.restricted.restricted_sum.Given as goal

-- what is left of the lists decides the fault; all elements are few enough
abbrev pub invariant-loop-i : goal.invariant-loop-i
invariant-loop-i l = record {
  fault : restricted_fault l.edges l.directed l.restrictions ≡ first_over l.total (l.i + 2) l.elements (drop l.i l.restrictions);
  few : l.elements + elements_of_lists (drop l.i l.restrictions) ≤ most_elements;
}
