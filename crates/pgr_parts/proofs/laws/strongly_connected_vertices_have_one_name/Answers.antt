use Rattle.pgr_walks.specs.Graph.{IsLinkOf}
use Rattle.pgr_parts.specs.Classes.{StronglyConnected}
use Rattle.pgr_parts.proofs.SameName.{same_name, strong_back, strong_on}
use Rattle.pgr_parts.proofs.laws.strongly_connected_vertices_have_one_name.Goals as goal

pub returns : goal.returns
returns g c = λ names u v h below below'.
    let Has = IsLinkOf (g.G.Graph.count c.args.g.now) (g.G.Graph.ins c.args.g.now) in
    same_name (StronglyConnected Has) (strong_back Has) (strong_on Has) _ names h u v below below'
