use Rattle.std.proofs.Common.{ℕ, ◌<◌, get_or}
use Rattle.std.specs.Prelude.{Contains}
use Rattle.pgr_answer.proofs.flow_network.is_any_common.Given as goal

-- none of the sinks so far is a source
abbrev pub invariant-loop-sink : goal.invariant-loop-sink
invariant-loop-sink l = (k : ℕ) → k < l.sink-index → Contains l.sources (get_or l.sinks k 0) → ⊥
