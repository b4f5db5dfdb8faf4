use Rattle.pgr_search.proofs.ThreeVerticesFit.{fits}
use Rattle.pgr_search.proofs.three_vertices.the_least_tight_link_goes_on_to_the_target.Goals as goal

pub labels_to-requires-clause-fits : goal.labels_to-requires-clause-fits
labels_to-requires-clause-fits g c = fits
