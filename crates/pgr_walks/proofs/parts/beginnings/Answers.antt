use Rattle.std.proofs.Common.{◌≡◌, ◌+◌, [], ◌∷◌, ◌++◌, arith, sym, subst}
use Rattle.pgr_walks.proofs.PartPlaces.{ArePlacesBelow, no_places, more_places, all_places, first_beginning}
use Rattle.pgr_walks.proofs.parts.beginnings.Goals as goal

pub loop-v-init : goal.loop-v-init
loop-v-init g c = record {
  placed = subst (ArePlacesBelow g.S.Side.vertex c.args.links.now 0) (sym c.in_ok-places.ensures.items) (no_places g.S.Side.vertex c.args.links.now);
  here = first_beginning g.S.Side.vertex c.args.links.now;
}

pub loop-v-preserved : goal.loop-v-preserved
loop-v-preserved g c =
    let vertex = g.S.Side.vertex in
    let known = c.loop-v.invariant in
    record {
      placed = subst (ArePlacesBelow vertex c.args.links.now (c.loop-v.v + 1)) (sym c.in_ok-push.ensures.items)
          (more_places vertex c.args.links.now c.loop-v.v c.loop-v.place c.loop-v.places.items known.placed known.here);
      here = c.end_of_part-place.ensures;
    }

pub returns : goal.returns
returns g c =
    let vertex = g.S.Side.vertex in
    let known = c.loop-v.invariant in
    let end : c.loop-v.v ≡ c.args.size = omega arith in
    let placed = more_places vertex c.args.links.now c.loop-v.v c.loop-v.place c.loop-v.places.items known.placed known.here in
    all_places vertex c.args.links.now c.args.size _
    (subst (ArePlacesBelow vertex c.args.links.now (c.args.size + 1)) (sym c.in_ok-push-2.ensures.items)
    (subst (λ n. ArePlacesBelow vertex c.args.links.now (n + 1) (c.loop-v.places.items ++ c.loop-v.place ∷ [])) end placed))
