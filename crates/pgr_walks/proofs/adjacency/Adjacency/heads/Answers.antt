use Rattle.std.proofs.Common.{rules, arith, refl}
use Rattle.pgr_walks.specs.Ends.{heads_of}
use Rattle.pgr_walks.proofs.Packing.{AreUpTo-more, AreListsOf-from_all}
use Rattle.pgr_walks.proofs.adjacency.Adjacency.heads.Goals as goal

pub loop-v-preserved : goal.loop-v-preserved
loop-v-preserved g c =
    AreUpTo-more _ _ _ _ _ _ (heads_of (g.G.Graph.outs c.args.g.now c.loop-v.v)) c.len.result c.loop-v.invariant refl (search rules) (search rules) (search rules)

pub returns : goal.returns
returns g c = AreListsOf-from_all _ _ _ _ _ c.loop-v.invariant (omega (arith, c.size-v-end.ensures))
