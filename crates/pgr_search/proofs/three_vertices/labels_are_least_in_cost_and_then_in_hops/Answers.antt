use Rattle.pgr_search.proofs.ThreeVerticesFit.{fits}
use Rattle.pgr_search.proofs.three_vertices.labels_are_least_in_cost_and_then_in_hops.Goals as goal

pub labels_to-requires-clause-fits : goal.labels_to-requires-clause-fits
labels_to-requires-clause-fits g c = fits

pub labels_to-requires-2-clause-fits : goal.labels_to-requires-2-clause-fits
labels_to-requires-2-clause-fits g c = fits
