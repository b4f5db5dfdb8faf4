use Rattle.std.proofs.Common.{◌≡◌, ◌<◌, ℕ, false, slice_index}
use Rattle.pgr_flow.specs.Levels.{labelled}
use Rattle.pgr_flow.proofs.levels.is_any_labelled.Given as goal

-- none so far has a level
abbrev pub invariant-loop-v : goal.invariant-loop-v
invariant-loop-v l = (k : ℕ) → k < l.v-index → labelled l.levels (slice_index l.list k) ≡ false
