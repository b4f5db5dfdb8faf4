use Rattle.std.proofs.Common.{arith}
use Rattle.pgr_answer.proofs.NetworkLemmas.{fits_listed, exactly_along}
use Rattle.pgr_answer.proofs.edge_network.network_of.Goals as goal

pub network_of_source-requires-clause-few : goal.network_of_source-requires-clause-few
network_of_source-requires-clause-few c =
    c.names_of_source_are_few.ensures.few (omega (arith, c.of-source.ensures.few, c.len-rows.ensures.accepted.few))

pub network_of_source-requires-clause-fits : goal.network_of_source-requires-clause-fits
network_of_source-requires-clause-fits c = fits_listed _ _ c.of-source.ensures.links (c.links_fit.ensures c.args.directed)

pub returns-clause-links : goal.returns-clause-links
returns-clause-links c = exactly_along c.in_ok-network.ensures.links c.of-source.ensures.links

pub returns-clause-few : goal.returns-clause-few
returns-clause-few c =
    let twice = c.names_of_source_are_few.ensures.twice c.in_ok-network.network.names c.in_ok-network.ensures.ends in
    omega (arith, twice, c.of-source.ensures.few, c.len-rows.ensures.accepted.few)
