use Rattle.pgr_points.proofs.EndLemmas.{ends_few}
use Rattle.pgr_points.proofs.laws.pointed_ends_are_few.Goals as goal

pub returns : goal.returns
returns c = λ driving directed links names pointed ends.
    ends_few c.args.edges.now c.args.points.now driving directed c.len-rows.ensures.accepted c.len-points.ensures.accepted links names pointed ends
