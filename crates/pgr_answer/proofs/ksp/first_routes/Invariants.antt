use Rattle.std.proofs.Common.{◌≡◌, length}
use Rattle.pgr_answer.proofs.ksp.first_routes.Given as goal

-- the routes so far are those that were given
abbrev pub invariant-loop-turn : goal.invariant-loop-turn
invariant-loop-turn g l = record {
  graph : l.paths.graph ≡ l.graph;
  start : l.paths.s ≡ l.start;
  end : l.paths.t ≡ l.end;
  given : l.paths.given ≡ l.routes.items;
  count : length l.routes.items ≡ l.turn;
}
