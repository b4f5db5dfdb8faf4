use Rattle.std.proofs.Common.{ℕ, ◌<◌, Contains}
use Rattle.pgr_walks.specs.declared.link.LinkOf.{LinkOf}
use Rattle.pgr_astar.specs.Breaking.{value_at, Breaks}
use Rattle.pgr_astar.proofs.consistency.first_inconsistent.Given as goal

-- no link out of an earlier vertex breaks the estimate
abbrev pub invariant-loop-v : goal.invariant-loop-v
invariant-loop-v g l = (u : ℕ) → u < l.v → (link : LinkOf ℕ) → Contains (g.G.Graph.outs l.g u) link → Breaks (value_at l.p) link → ⊥
