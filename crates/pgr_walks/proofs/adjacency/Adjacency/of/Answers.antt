use Rattle.std.proofs.Common.{◌≡◌, [], length, get_or, ap, ◌∙◌, arith}
use Rattle.pgr_walks.specs.Ends.{piece, pieces}
use Rattle.pgr_walks.proofs.Packing.{piece_at, length-pieces}
use Rattle.pgr_walks.proofs.adjacency.Adjacency.of.Goals as goal

pub piece_at-requires : goal.piece_at-requires
piece_at-requires c =
    let view : pieces c.self.inside.starts.items c.self.inside.vertices.items ≡ c.args.self.now = c.self.view_is in
    let size = length-pieces c.self.inside.starts.items c.self.inside.vertices.items in
    let same = ap length view in
    let starts = ap length c.as_slice.ensures.value in
    record {
      places = rw (c.as_slice.ensures.value, c.as_slice-2.ensures.value) c.self.invariant;
      vertex = omega (arith, c.requires);
    }

pub returns : goal.returns
returns c =
    let view : pieces c.self.inside.starts.items c.self.inside.vertices.items ≡ c.args.self.now = c.self.view_is in
    let same = ap length view in
    c.piece_at.ensures
    ∙ (ap (λ xs. piece xs c.as_slice-2.result.now c.args.v) c.as_slice.ensures.value
    ∙ (ap (λ ys. piece c.self.inside.starts.items ys c.args.v) c.as_slice-2.ensures.value
    ∙ (piece_at c.self.inside.starts.items c.self.inside.vertices.items c.args.v (omega (arith, c.requires)) ∙ ap (λ x. get_or x c.args.v []) view)))
