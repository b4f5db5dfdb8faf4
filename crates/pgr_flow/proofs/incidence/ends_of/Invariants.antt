use Rattle.pgr_flow.specs.Incidence.{HoldsEnds}
use Rattle.pgr_flow.proofs.incidence.ends_of.Given as goal

-- the ends of the arcs so far
abbrev pub invariant-loop-place : goal.invariant-loop-place
invariant-loop-place l = HoldsEnds l.arcs l.place l.list.items
