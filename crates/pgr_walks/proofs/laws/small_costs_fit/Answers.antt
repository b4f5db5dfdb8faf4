use Rattle.pgr_walks.proofs.SmallCosts.{small_costs_fit}
use Rattle.pgr_walks.proofs.laws.small_costs_fit.Goals as goal

pub returns : goal.returns
returns g c = λ most small bound.
    let law = g.met.G.Graph.lawful c.args.g.now in
    small_costs_fit _ most _ (λ link has. (((law.at link.to has.0).in_ends link has.1).1, has.0)) small bound
