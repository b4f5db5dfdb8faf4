use Rattle.std.proofs.Common.{◌+◌, ◌*◌, ◌<◌, length}
use Rattle.std.specs.List.{sum_by}
use Rattle.pgr_flow.specs.Levels.{one_if_some}
use Rattle.pgr_flow.specs.Descent.{ArePointers, IsIntact, IsDescent, Fades}
use Rattle.pgr_flow.proofs.descent.find_walk.Given as goal

-- the steps so far lead down from the sink to where the search is, and what a search may still find is found
abbrev pub invariant-loop-level : goal.invariant-loop-level
invariant-loop-level l = record {
  fades : Fades l.initial.levels l.levels;
  pointers : ArePointers (length l.initial.levels) l.incidence.starts.items l.next;
  descent : IsDescent l.arcs l.flows l.levels l.steps l.sink l.top l.level l.at;
  below : l.at < length l.initial.levels;
  intact : IsIntact l.arcs l.flows l.incidence.starts.items l.incidence.list.items l.initial.levels l.initial.next
      → IsIntact l.arcs l.flows l.incidence.starts.items l.incidence.list.items l.levels l.next;
}

-- a step down takes a level, and a step back takes a vertex its level
abbrev pub decreases-loop-level : goal.decreases-loop-level
decreases-loop-level l = 2 * sum_by one_if_some l.levels + l.level
