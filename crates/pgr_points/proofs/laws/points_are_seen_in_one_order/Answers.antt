use Rattle.pgr_points.proofs.SeenLemmas.{seen_once}
use Rattle.pgr_points.proofs.FitLemmas.{seen_by, are_seen_by}
use Rattle.pgr_points.proofs.laws.points_are_seen_in_one_order.Goals as goal

pub returns-clause-order : goal.returns-clause-order
returns-clause-order c = λ driving directed row direction. (
  seen_by c.args.points.now c.len-points.ensures.accepted driving directed row direction,
  are_seen_by c.args.points.now c.len-points.ensures.accepted driving directed row direction,
)

pub returns-clause-one : goal.returns-clause-one
returns-clause-one c = λ driving directed row direction seen other. seen_once c.args.points.now driving directed row direction seen other
