use Rattle.pgr_answer.proofs.NetworkLemmas.{fits_listed, links_once, exactly_along}
use Rattle.pgr_answer.proofs.pointed_network.pointed_network_of.Goals as goal

pub network_of_links-requires-clause-few : goal.network_of_links-requires-clause-few
network_of_links-requires-clause-few c = λ names ends. c.pointed_ends_are_few.ensures c.args.driving c.args.directed c.in_ok-links.links.items names
    (λ link has. (c.in_ok-links.ensures.links link).0 has) ends

pub network_of_links-requires-clause-once : goal.network_of_links-requires-clause-once
network_of_links-requires-clause-once c = links_once _ c.in_ok-links.ensures.rising

pub network_of_links-requires-clause-fits : goal.network_of_links-requires-clause-fits
network_of_links-requires-clause-fits c = fits_listed _ _ c.in_ok-links.ensures.links (c.pointed_links_fit.ensures c.args.driving c.args.directed)

pub returns : goal.returns
returns c = record { links = exactly_along c.in_ok-network.ensures.links c.in_ok-links.ensures.links }
