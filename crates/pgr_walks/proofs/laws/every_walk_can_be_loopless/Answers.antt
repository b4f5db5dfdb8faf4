use Rattle.std.proofs.lemmas.Bool.{cases_eq}
use Rattle.pgr_walks.proofs.CycleRemoval.{CanBeLoopless-from_walk}
use Rattle.pgr_walks.proofs.laws.every_walk_can_be_loopless.Goals as goal

pub returns : goal.returns
returns g c = λ s t walk w. CanBeLoopless-from_walk cases_eq _ s t walk w
