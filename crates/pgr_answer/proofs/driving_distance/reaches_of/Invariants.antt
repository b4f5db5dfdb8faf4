use Rattle.std.proofs.Common.{◌≡◌, take, map}
use Rattle.std.specs.Prelude.{All}
use Rattle.std.specs.Ordering.{nat_cmp}
use Rattle.pgr_walks.specs.LinksOf.{LinksOf}
use Rattle.pgr_reach.specs.Within.{AreWithin}
use Rattle.pgr_answer.proofs.driving_distance.reaches_of.Given as goal

-- each root so far has the vertices within the distance
abbrev pub invariant-loop-root : goal.invariant-loop-root
invariant-loop-root g l = record {
  roots : map (λ reach. reach.root) l.reaches.items ≡ take l.root-index l.roots;
  within : All (λ reach. AreWithin nat_cmp (LinksOf g.G.Graph l.network.graph) reach.root l.distance reach.rows.items) l.reaches.items;
}
