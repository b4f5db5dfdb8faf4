use Rattle.std.proofs.Common.{◌≡◌, List, ◌++◌, length}
use Rattle.std.specs.Prelude.{All}
use Rattle.pgr_turns.specs.Seen.{restrictions_of}
use Rattle.pgr_answer.specs.declared.pair.Pair.{Pair}
use Rattle.pgr_answer.specs.AllowedRoutes.{IsAllowedRoute, allowed_over}
use Rattle.pgr_answer.specs.Finding.{IsPairAmong, AreFoundBy, RisesByPair}
use Rattle.pgr_answer.specs.Networks.{id_links}
use Rattle.pgr_answer.proofs.trsp.allowed_for.Given as goal

abbrev pub invariant-loop-rest : goal.invariant-loop-rest
invariant-loop-rest g l = record {
  -- the pairs that are done, and those that are left
  done : List Pair;
  order : l.pairs ≡ done ++ l.rest;
  among : All (IsPairAmong (length l.network.names)) l.rest;
  -- what is found is for those that are done
  found : AreFoundBy (allowed_over (id_links l.network) (restrictions_of l.turned)) (IsAllowedRoute (id_links l.network) (restrictions_of l.turned) l.network.names)
      l.network.names done l.found.items × RisesByPair l.found.items;
  size : length l.room ≡ l.size;
}

abbrev pub decreases-loop-rest : goal.decreases-loop-rest
decreases-loop-rest g l = length l.rest
