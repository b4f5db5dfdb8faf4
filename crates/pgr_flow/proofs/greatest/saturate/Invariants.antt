use Rattle.std.proofs.Common.{◌≡◌, ◌+◌, ◌-◌, length, nat_eq}
use Rattle.std.specs.List.{sum_by}
use Rattle.pgr_walks.specs.declared.link.LinkOf.{LinkOf}
use Rattle.std.proofs.Common.{ℕ}
use Rattle.pgr_flow.specs.Flow.{IsFlow, among, leaving, entering}
use Rattle.pgr_flow.specs.Levels.{AreLevels, NoneIsLabelled, AreClosed}
use Rattle.pgr_flow.proofs.greatest.saturate.Given as goal

-- a flow with the levels of a search over it
abbrev pub invariant-loop-next : goal.invariant-loop-next
invariant-loop-next l = record {
  flow : IsFlow nat_eq l.arcs (among nat_eq l.sources) (among nat_eq l.sinks) l.flows;
  levels : AreLevels l.arcs l.flows (among nat_eq l.sources) (length l.initial.levels) l.levels;
  closed : NoneIsLabelled l.sinks l.levels → AreClosed l.arcs l.flows l.levels;
  pointers : length l.next.items ≡ length l.incidence.starts.items;
  steps : length l.steps.items ≡ length l.initial.levels;
}

-- what the value may still gain: the sum of all capacities bounds it
abbrev pub decreases-loop-next : goal.decreases-loop-next
decreases-loop-next l =
    sum_by (λ (a : LinkOf ℕ). a.cost) l.arcs + entering (among nat_eq l.sources) l.arcs l.flows - leaving (among nat_eq l.sources) l.arcs l.flows
