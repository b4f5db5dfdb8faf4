use Rattle.std.proofs.Common.{◌+◌, ◌-◌, ℕ, length, nat_eq}
use Rattle.std.specs.List.{sum_by}
use Rattle.pgr_walks.specs.declared.link.LinkOf.{LinkOf}
use Rattle.pgr_flow.specs.Flow.{leaving, entering}
use Rattle.pgr_flow.proofs.Rounds.{IsAugmenting}
use Rattle.pgr_flow.proofs.augmenting.augment.Given as goal

-- flow was added over walks to the sink, and only over them
abbrev pub invariant-loop-top : goal.invariant-loop-top
invariant-loop-top l = IsAugmenting l.arcs (length l.initial.levels) l.sink l.incidence.starts.items l.initial.flows l.initial.levels l.initial.next l.flows l.levels l.next

-- what the sink may still take: the sum of all capacities bounds it
abbrev pub decreases-loop-top : goal.decreases-loop-top
decreases-loop-top l = sum_by (λ (a : LinkOf ℕ). a.cost) l.arcs + leaving (nat_eq l.sink) l.arcs l.flows - entering (nat_eq l.sink) l.arcs l.flows
