use Rattle.pgr_search.proofs.ThreeVerticesFit.{fits, consistent, small}
use Rattle.pgr_search.proofs.three_vertices.a_guided_search_finds_the_label_of_its_start.Goals as goal

pub labels_guided-requires-clause-fits : goal.labels_guided-requires-clause-fits
labels_guided-requires-clause-fits g c = fits

pub labels_guided-requires-clause-consistent : goal.labels_guided-requires-clause-consistent
labels_guided-requires-clause-consistent g c = consistent

pub labels_guided-requires-clause-small : goal.labels_guided-requires-clause-small
labels_guided-requires-clause-small g c = small

pub labels_guided-requires-2-clause-fits : goal.labels_guided-requires-2-clause-fits
labels_guided-requires-2-clause-fits g c = fits

pub labels_guided-requires-2-clause-consistent : goal.labels_guided-requires-2-clause-consistent
labels_guided-requires-2-clause-consistent g c = consistent

pub labels_guided-requires-2-clause-small : goal.labels_guided-requires-2-clause-small
labels_guided-requires-2-clause-small g c = small
