use Rattle.pgr_walks.proofs.CycleRemoval.{least_is_small}
use Rattle.pgr_walks.proofs.laws.least_labels_are_small.Goals as goal

pub returns : goal.returns
returns g c = λ targets v label below least. least_is_small _ _ (λ link has. has.0) c.requires.fits targets v label below least
