use Rattle.pgr_flow.specs.Incidence.{IsBeginning}
use Rattle.pgr_flow.proofs.Beginnings.{ArePlacesBelow}
use Rattle.pgr_flow.proofs.incidence.beginnings.Given as goal

-- where the parts of the vertices so far begin
abbrev pub invariant-loop-v : goal.invariant-loop-v
invariant-loop-v l = record {
  placed : ArePlacesBelow l.list l.v l.starts.items;
  here : IsBeginning l.list l.v l.place;
}
