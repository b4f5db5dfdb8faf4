use Rattle.std.proofs.Common.{◌≡◌, List, ◌++◌, length}
use Rattle.std.specs.Prelude.{All, Contains}
use Rattle.pgr_answer.specs.declared.pair.Pair.{Pair}
use Rattle.pgr_answer.specs.Finding.{IsPairAmong, AreFound, RisesByPair}
use Rattle.pgr_answer.specs.Networks.{id_links}
use Rattle.pgr_answer.proofs.found.found_for.Given as goal

abbrev pub invariant-loop-rest : goal.invariant-loop-rest
invariant-loop-rest g l = record {
  -- the pairs that are done, and those that are left
  done : List Pair;
  order : l.pairs ≡ done ++ l.rest;
  among : All (IsPairAmong (length l.network.names)) l.rest;
  -- what is found is for those that are done
  found : AreFound (Contains (id_links l.network)) (g.K.Kept.shows (id_links l.network) l.network.names) l.network.names done l.found.items × RisesByPair l.found.items;
  size : length l.room ≡ g.G.Graph.count l.network.graph;
}

abbrev pub decreases-loop-rest : goal.decreases-loop-rest
decreases-loop-rest g l = length l.rest
