use Rattle.pgr_walks.specs.Graph.{IsLinkOf}
use Rattle.pgr_parts.proofs.SameName.{connected_reaches}
use Rattle.pgr_parts.proofs.laws.links_that_lead_back_connect_by_walks.Goals as goal

pub returns : goal.returns
returns g c = λ opposite u v. connected_reaches (IsLinkOf (g.G.Graph.count c.args.g.now) (g.G.Graph.ins c.args.g.now)) opposite u v
