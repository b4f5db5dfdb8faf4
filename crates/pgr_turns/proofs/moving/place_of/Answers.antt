use Rattle.pgr_turns.proofs.MovingSteps.{absent_from_search}
use Rattle.pgr_turns.proofs.moving.place_of.Goals as goal

pub unreachable-requires : goal.unreachable-requires
unreachable-requires c = absent_from_search c.args.states.now c.args.state c.in-Err.field-0 c.requires.rise c.in-Err.ensures.position c.requires.there
