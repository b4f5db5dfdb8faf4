use Rattle.std.proofs.Common.{◌<◌, subst, sym, arith}
use Rattle.pgr_astar.proofs.Checks.{first_of_all, all_consistent, one_more_unbroken}
use Rattle.pgr_astar.proofs.consistency.first_inconsistent.Goals as goal

pub returns-in-Some-clause-first : goal.returns-in-Some-clause-first
returns-in-Some-clause-first g c =
    let below : c.loop-v.v < g.G.Graph.count c.args.g.now = omega (arith, c.size-v-end.ensures, c.loop-v-test.true) in
    first_of_all c.args.p.now (g.G.Graph.count c.args.g.now) (g.G.Graph.outs c.args.g.now) (g.G.Graph.ins c.args.g.now)
    (g.met.G.Graph.lawful c.args.g.now) c.loop-v.v below c.loop-v.invariant c.in-Some.link c.in-Some.ensures.first

pub loop-v-preserved : goal.loop-v-preserved
loop-v-preserved g c = one_more_unbroken c.args.p.now (g.G.Graph.outs c.args.g.now) c.loop-v.v c.loop-v.invariant c.in_default.ensures.none

pub returns-clause-none : goal.returns-clause-none
returns-clause-none g c = all_consistent c.args.p.now (g.G.Graph.count c.args.g.now) (g.G.Graph.outs c.args.g.now) (g.G.Graph.ins c.args.g.now)
    (g.met.G.Graph.lawful c.args.g.now) (λ u below. c.loop-v.invariant u (omega arith))
