use Rattle.pgr_walks.specs.Parts.{IsBeginning}
use Rattle.pgr_walks.proofs.PartPlaces.{ArePlacesBelow}
use Rattle.pgr_walks.proofs.parts.beginnings.Given as goal

abbrev pub invariant-loop-v : goal.invariant-loop-v
invariant-loop-v g l = record {
  placed : ArePlacesBelow g.S.Side.vertex l.links l.v l.places.items;
  here : IsBeginning g.S.Side.vertex l.links l.v l.place;
}
