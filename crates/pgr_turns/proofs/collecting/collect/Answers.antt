use Rattle.std.proofs.Common.{rules}
use Rattle.pgr_turns.proofs.CollectingSteps.{admits_all, collected_at_last}
use Rattle.pgr_turns.proofs.collecting.collect.Goals as goal

pub each_out-requires-clause-ready : goal.each_out-requires-clause-ready
each_out-requires-clause-ready g c = admits_all _ _

pub returns : goal.returns
returns g c = search (rules, collected_at_last)
