use Rattle.std.proofs.Common.{◌≡◌, []}
use Rattle.pgr_parts.specs.Spreading.{AreSpread}
use Rattle.pgr_parts.proofs.spreading.spread_all.Given as goal

abbrev pub invariant-loop-root : goal.invariant-loop-root
invariant-loop-root l = record {
  spread : AreSpread l.lists l.root l.names.items;
  idle : l.waiting.items ≡ [];
}
