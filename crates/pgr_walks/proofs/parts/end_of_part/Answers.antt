use Rattle.std.proofs.Common.{◌≡◌, ℕ, ◌+◌, ◌≤◌, get_or, pos, sym, arith}
use Rattle.std.proofs.lemmas.List.{get_or_default}
use Rattle.pgr_walks.specs.declared.link.LinkOf.{LinkOf}
use Rattle.pgr_walks.proofs.PartPlaces.{passed_part}
use Rattle.pgr_walks.proofs.parts.end_of_part.Goals as goal

nothing : LinkOf ℕ
nothing = record { from = 0; to = 0; edge = pos 0; cost = 0 }

pub returns-else-vertex-v : goal.returns-else-vertex-v
unfolding nothing
returns-else-vertex-v g c =
    let vertex = g.S.Side.vertex in
    let links = c.args.links.now in
    let place = c.loop-place.place in
    let link : LinkOf ℕ = get_or links place nothing in
    let is : c.vertex.result ≡ vertex link = c.vertex.ensures in
    let beyond : c.args.v + 1 ≤ vertex link = omega arith in
    passed_part vertex links (c.args.v + 1) place link c.requires.sorted c.loop-place.invariant c.loop-place-test.true
    (sym (get_or_default links place link nothing c.loop-place-test.true)) beyond
