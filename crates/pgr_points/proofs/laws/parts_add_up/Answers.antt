use Rattle.pgr_points.proofs.FitLemmas.{parts_cost}
use Rattle.pgr_points.proofs.laws.parts_add_up.Goals as goal

pub returns : goal.returns
returns c = λ driving directed row direction cost seen h.
    parts_cost c.args.points.now c.len-points.ensures.accepted driving directed row direction cost seen h direction
