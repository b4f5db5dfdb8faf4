use Rattle.std.proofs.Common.{◌≡◌, take, map}
use Rattle.std.specs.Prelude.{All}
use Rattle.std.specs.Ordering.{nat_cmp}
use Rattle.pgr_walks.specs.LinksOf.{LinksOf}
use Rattle.pgr_ksp.specs.Routes.{AreFirstK}
use Rattle.pgr_answer.specs.Finding.{pair_of}
use Rattle.pgr_answer.proofs.ksp.lists_for.Given as goal

abbrev pub invariant-loop-pair : goal.invariant-loop-pair
invariant-loop-pair g l = record {
  -- a list is found for each pair so far
  pairs : map pair_of l.found.items ≡ take l.pair-index l.pairs;
  first : All (λ f. AreFirstK nat_cmp (LinksOf g.G.Graph l.network.graph) f.start f.end l.k f.kept) l.found.items;
}
