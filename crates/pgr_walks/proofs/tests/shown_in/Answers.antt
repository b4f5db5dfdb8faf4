-- The collector may be shown any link.
use Rattle.pgr_walks.proofs.Shows.{admits_while}
use Rattle.pgr_walks.proofs.tests.shown_in.Goals as goal

pub each_in-requires-clause-ready : goal.each_in-requires-clause-ready
each_in-requires-clause-ready g c = admits_while _ _ _ (λ _. Unit {0}) (λ _ _ _. (tt, tt)) _ _ tt
