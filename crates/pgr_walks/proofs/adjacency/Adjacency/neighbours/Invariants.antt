use Rattle.std.proofs.Common.{◌++◌}
use Rattle.pgr_walks.specs.Ends.{heads_of, tails_of}
use Rattle.pgr_walks.proofs.Packing.{AreUpTo}
use Rattle.pgr_walks.proofs.adjacency.Adjacency.neighbours.Given as goal

abbrev pub invariant-loop-v : goal.invariant-loop-v
invariant-loop-v g l = AreUpTo (λ v. heads_of (g.G.Graph.outs l.g v) ++ tails_of (g.G.Graph.ins l.g v)) l.v l.starts.items l.vertices.items
