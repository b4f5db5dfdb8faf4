use Rattle.pgr_points.proofs.FitLemmas.{pointed_fit}
use Rattle.pgr_points.proofs.laws.pointed_links_fit.Goals as goal

pub returns : goal.returns
returns c = λ driving directed. pointed_fit c.args.points.now c.len-points.ensures.accepted driving directed c.args.edges.now c.len-rows.ensures.accepted
