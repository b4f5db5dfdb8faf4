use Rattle.pgr_walks.specs.Ends.{heads_of}
use Rattle.pgr_walks.proofs.Packing.{AreUpTo}
use Rattle.pgr_walks.proofs.adjacency.Adjacency.heads.Given as goal

abbrev pub invariant-loop-v : goal.invariant-loop-v
invariant-loop-v g l = AreUpTo (λ v. heads_of (g.G.Graph.outs l.g v)) l.v l.starts.items l.vertices.items
