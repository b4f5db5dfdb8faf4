use Rattle.std.proofs.Common.{◌≡◌, take}
use Rattle.pgr_table.specs.KeptEdges.{ids_of}
use Rattle.pgr_table.proofs.edge_list.fill.Given as goal

-- the index has the ids of the edges so far
abbrev pub invariant-loop-edge : goal.invariant-loop-edge
invariant-loop-edge l = l.index.keys ≡ take l.edge-index (ids_of l.edges)
