use Rattle.std.proofs.Common.{◌≡◌, length, ap, arith}
use Rattle.pgr_walks.specs.Ends.{pieces}
use Rattle.pgr_walks.proofs.Packing.{length-pieces}
use Rattle.pgr_walks.proofs.adjacency.Adjacency.size.Goals as goal

pub returns : goal.returns
returns c =
    let view : pieces c.self.inside.starts.items c.self.inside.vertices.items ≡ c.args.self.now = c.self.view_is in
    let size = length-pieces c.self.inside.starts.items c.self.inside.vertices.items in
    let same = ap length view in
    let places = c.self.inside.starts.ok in
    omega (arith, c.len.ensures)
