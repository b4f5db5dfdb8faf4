use Rattle.std.proofs.Common.{◌-◌, ◌≤◌, length}
use Rattle.pgr_flow.specs.Levels.{AreLabelledUpTo}
use Rattle.pgr_flow.proofs.levels.skip_labelled.Given as goal

-- the sinks so far have levels
abbrev pub invariant-loop-reached : goal.invariant-loop-reached
invariant-loop-reached l = record {
  inside : l.reached ≤ length l.sinks;
  all : AreLabelledUpTo l.sinks l.levels l.reached;
}

-- the sinks that are left
abbrev pub decreases-loop-reached : goal.decreases-loop-reached
decreases-loop-reached l = length l.sinks - l.reached
