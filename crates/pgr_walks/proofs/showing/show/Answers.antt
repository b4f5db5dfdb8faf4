use Rattle.std.proofs.Common.{refl, arith}
use Rattle.pgr_walks.proofs.Shows.{ready_at, stop_at, go_at, none_left}
use Rattle.pgr_walks.proofs.showing.show.Goals as goal

pub loop-link-init : goal.loop-link-init
loop-link-init g c = record { rest = refl; admits = c.requires }

pub see-requires : goal.see-requires
see-requires g c = ready_at _ _ _ _ _ c.args.links.now c.loop-link.link-index _ c.loop-link-test.true c.loop-link.invariant

pub returns-in-Stop : goal.returns-in-Stop
returns-in-Stop g c = stop_at _ _ _ _ _ _ c.args.links.now c.loop-link.link-index _ c.loop-link-test.true c.loop-link.invariant (cc) c.see.ensures.meaning

pub loop-link-preserved : goal.loop-link-preserved
loop-link-preserved g c = go_at _ _ _ _ _ _ c.args.links.now c.loop-link.link-index _ c.loop-link-test.true c.loop-link.invariant (cc) c.see.ensures.meaning

pub returns : goal.returns
returns g c = none_left _ _ _ _ _ c.args.links.now c.loop-link.link-index (omega arith) c.loop-link.invariant
