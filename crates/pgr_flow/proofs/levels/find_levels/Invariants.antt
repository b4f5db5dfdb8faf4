use Rattle.std.proofs.Common.{◌-◌, ◌≤◌, length, nat_eq}
use Rattle.pgr_flow.specs.Flow.{among}
use Rattle.pgr_flow.specs.Levels.{IsSearched, AreLabelledUpTo}
use Rattle.pgr_flow.proofs.levels.find_levels.Given as goal

-- a search in its course: what stands before the head of the queue was passed, and the sinks in front that were met have levels
abbrev pub invariant-loop-head : goal.invariant-loop-head
invariant-loop-head l = record {
  searched : IsSearched l.arcs l.flows (among nat_eq l.sources) (length l.initial.levels) l.levels l.queue.items l.head l.head;
  inside : l.head ≤ length l.queue.items;
  sources : AreLabelledUpTo l.sources l.levels (length l.sources);
  reached : l.reached ≤ length l.sinks;
  met : AreLabelledUpTo l.sinks l.levels l.reached;
}

-- the vertices that were not passed
abbrev pub decreases-loop-head : goal.decreases-loop-head
decreases-loop-head l = length l.initial.levels - l.head
