use Rattle.pgr_walks.proofs.CycleRemoval.{loopless_is_short}
use Rattle.pgr_walks.proofs.laws.loopless_walks_are_short.Goals as goal

pub returns : goal.returns
returns g c = λ s t walk below w apart. loopless_is_short _ _ (λ link has. has.0) s t walk below w apart
