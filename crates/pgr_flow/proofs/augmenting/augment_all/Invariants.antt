use Rattle.std.proofs.Common.{length}
use Rattle.pgr_flow.proofs.Rounds.{AreAugmenting}
use Rattle.pgr_flow.proofs.augmenting.augment_all.Given as goal

-- flow was added for the sinks so far
abbrev pub invariant-loop-sink : goal.invariant-loop-sink
invariant-loop-sink l = AreAugmenting l.arcs (length l.initial.levels) l.sinks l.incidence.starts.items l.incidence.list.items l.sink-index l.initial.flows l.initial.levels
    l.initial.next l.flows l.levels l.next
