use Rattle.pgr_walks.proofs.PartPlaces.{part_is, in_order}
use Rattle.pgr_walks.proofs.parts.part.Goals as goal

pub slice_bounds-result-start : goal.slice_bounds-result-start
slice_bounds-result-start g c = in_order g.S.Side.vertex c.args.links.now c.args.v _ _ c.requires.start c.requires.end

pub returns : goal.returns
returns g c = part_is g.S.Side.vertex c.args.links.now c.args.v _ _ c.requires.start c.requires.end

pub slice_bounds-result-count : goal.slice_bounds-result-count
slice_bounds-result-count g c = in_order g.S.Side.vertex c.args.links.now c.args.v _ _ c.requires.start c.requires.end
