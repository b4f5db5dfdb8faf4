use Rattle.pgr_walks.specs.Graph.{IsLinkOf}
use Rattle.pgr_walks.specs.Reaches.{BothWays}
use Rattle.pgr_parts.specs.Classes.{Connected}
use Rattle.pgr_parts.proofs.SameName.{same_name, connected_back, reaches_on}
use Rattle.pgr_parts.proofs.laws.connected_vertices_have_one_name.Goals as goal

pub returns : goal.returns
returns g c = λ names u v h below below'.
    let Has = IsLinkOf (g.G.Graph.count c.args.g.now) (g.G.Graph.ins c.args.g.now) in
    same_name (Connected Has) (connected_back Has) (reaches_on (BothWays Has)) _ names h u v below below'
