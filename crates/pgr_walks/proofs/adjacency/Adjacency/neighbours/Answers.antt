use Rattle.std.proofs.Common.{◌++◌, rules, arith, refl}
use Rattle.pgr_walks.specs.Ends.{heads_of, tails_of}
use Rattle.pgr_walks.proofs.Packing.{appended_twice, AreUpTo-more, AreListsOf-from_all}
use Rattle.pgr_walks.proofs.adjacency.Adjacency.neighbours.Goals as goal

pub loop-v-preserved : goal.loop-v-preserved
loop-v-preserved g c =
    AreUpTo-more _ _ _ _ _ _ (heads_of (g.G.Graph.outs c.args.g.now c.loop-v.v) ++ tails_of (g.G.Graph.ins c.args.g.now c.loop-v.v)) c.len.result c.loop-v.invariant refl
    (appended_twice c.loop-v.vertices.items c.append_heads.new.vertices.items c.append_tails.new.vertices.items (heads_of (g.G.Graph.outs c.args.g.now c.loop-v.v))
    (tails_of (g.G.Graph.ins c.args.g.now c.loop-v.v)) (search rules) (search rules)) (search rules) (search rules)

pub returns : goal.returns
returns g c = AreListsOf-from_all _ _ _ _ _ c.loop-v.invariant (omega (arith, c.size-v-end.ensures))
