use Rattle.pgr_spans.specs.Exploring.{IsExploring, left_to_do}
use Rattle.pgr_spans.proofs.search.depth_first.Given as goal

-- what holds of the search between two leads
abbrev pub invariant-loop-lead : goal.invariant-loop-lead
invariant-loop-lead l = IsExploring l.size l.arrows l.search.numbers.items l.search.parents.items l.search.leads.items

abbrev pub decreases-loop-lead : goal.decreases-loop-lead
decreases-loop-lead l = left_to_do l.arrows l.search.numbers.items l.search.leads.items
