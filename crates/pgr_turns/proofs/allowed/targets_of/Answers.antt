use Rattle.std.proofs.Common.{◌≡◌, subst, arith}
use Rattle.pgr_turns.specs.Allowed.{AreTargets}
use Rattle.pgr_turns.specs.Seen.{vertex_at}
use Rattle.pgr_turns.proofs.allowed.targets_of.Goals as goal

pub loop-x-preserved : goal.loop-x-preserved
loop-x-preserved g c = c.in_ok-append_target.ensures

pub returns : goal.returns
returns g c =
    let size = g.M.Graph.count c.args.turned.now.moved in
    let all : c.loop-x.x ≡ size = omega (arith, c.size-x-end.ensures, c.loop-x-test.false, c.loop-x.auto.x-end) in
    subst (λ n. AreTargets n (vertex_at g.G.Graph c.args.turned.now) c.args.to c.loop-x.targets.items) all c.loop-x.invariant
