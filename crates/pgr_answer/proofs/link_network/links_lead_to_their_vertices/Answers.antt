-- The laws of each vertex say so: the links into it rise, so none stands twice.
use Rattle.std.specs.Ordering.{nat_cmp}
use Rattle.std.proofs.lemmas.Cmp.{nat_cmp_total}
use Rattle.pgr_walks.specs.LinkOrders.{entry_total}
use Rattle.pgr_answer.proofs.AllLinks.{all_once}
use Rattle.pgr_answer.proofs.NetworkLemmas.{once_rising}
use Rattle.pgr_answer.proofs.link_network.links_lead_to_their_vertices.Goals as goal

pub returns-clause-lead : goal.returns-clause-lead
returns-clause-lead g c = λ v link below has. ((g.met.G.Graph.lawful c.args.g.now).at v below).in_ends link has

pub returns-clause-once : goal.returns-clause-once
returns-clause-once g c =
    let law = g.met.G.Graph.lawful c.args.g.now in
    all_once _ _ (λ v link below has. ((law.at v below).in_ends link has).0) (λ v below. once_rising (entry_total nat_cmp nat_cmp_total) _ (law.at v below).ins_rise)
