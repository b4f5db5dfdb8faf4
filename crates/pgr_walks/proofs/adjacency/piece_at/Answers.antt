use Rattle.std.proofs.Common.{arith}
use Rattle.pgr_walks.proofs.adjacency.piece_at.Goals as goal

pub slice_bounds-result-start : goal.slice_bounds-result-start
slice_bounds-result-start c = let rise = c.requires.places.rise c.args.v c.requires.vertex in omega arith

pub slice_bounds-result-end : goal.slice_bounds-result-end
slice_bounds-result-end c = let inside = c.requires.places.inside c.args.v c.requires.vertex in omega arith
