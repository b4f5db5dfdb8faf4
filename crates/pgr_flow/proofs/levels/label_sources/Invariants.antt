use Rattle.std.proofs.Common.{length, nat_eq}
use Rattle.pgr_flow.specs.Flow.{among}
use Rattle.pgr_flow.specs.Levels.{IsSearched, AreLabelledUpTo}
use Rattle.pgr_flow.proofs.levels.label_sources.Given as goal

-- the search has not begun, and the sources so far have levels
abbrev pub invariant-loop-source : goal.invariant-loop-source
invariant-loop-source l = record {
  searched : IsSearched l.arcs l.flows (among nat_eq l.sources) (length l.initial.levels) l.levels l.queue.items 0 0;
  sources : AreLabelledUpTo l.sources l.levels l.source-index;
}
