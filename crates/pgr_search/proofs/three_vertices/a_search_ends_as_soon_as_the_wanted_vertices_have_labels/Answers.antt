use Rattle.pgr_search.proofs.ThreeVerticesFit.{fits}
use Rattle.pgr_search.proofs.three_vertices.a_search_ends_as_soon_as_the_wanted_vertices_have_labels.Goals as goal

pub labels_until-requires-clause-fits : goal.labels_until-requires-clause-fits
labels_until-requires-clause-fits g c = fits

pub labels_until-requires-2-clause-fits : goal.labels_until-requires-2-clause-fits
labels_until-requires-2-clause-fits g c = fits

pub labels_until-requires-3-clause-fits : goal.labels_until-requires-3-clause-fits
labels_until-requires-3-clause-fits g c = fits

pub labels_until-requires-4-clause-fits : goal.labels_until-requires-4-clause-fits
labels_until-requires-4-clause-fits g c = fits
