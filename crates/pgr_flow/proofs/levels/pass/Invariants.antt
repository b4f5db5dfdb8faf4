use Rattle.std.proofs.Common.{length, nat_eq}
use Rattle.pgr_flow.specs.Flow.{among}
use Rattle.pgr_flow.proofs.Passing.{IsPassing}
use Rattle.pgr_flow.proofs.levels.pass.Given as goal

-- the residual links over the ends so far lead to vertices with a level
abbrev pub invariant-loop-place : goal.invariant-loop-place
invariant-loop-place l =
    IsPassing l.arcs l.flows (among nat_eq l.sources) (length l.initial.levels) l.incidence.starts.items l.incidence.list.items l.initial.levels l.levels l.queue.items l.head
    l.v l.level l.place
