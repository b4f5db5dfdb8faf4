use Rattle.std.proofs.Common.{◌≡◌, ◌+◌, ◌<◌, ◌≤◌, ℕ, List, [], ◌∷◌, ◌++◌, length, take, get_or, refl, sym, ap, subst, ◌∙◌, arith, rules, heap_items}
use Rattle.std.specs.Prelude.{All}
use Rattle.std.proofs.lemmas.List.{length-set}
use Rattle.std.proofs.lemmas.List.Elements.{All-take, All-weaker, All-get_or}
use Rattle.pgr_walks.specs.declared.link.LinkOf.{LinkOf}
use Rattle.pgr_walks.specs.LinksOf.{LinksOf}
use Rattle.pgr_walks.specs.Walk.{IsWithoutRepeats, vertices_of, cost_of}
use Rattle.pgr_ksp.specs.Classes.{taboo_at}
use Rattle.pgr_ksp.proofs.Places.{below_at, froms_below, cost-take, place_at, taboo_leaves, mark_at, cost_at, split_at, split_all, split_none}
use Rattle.pgr_ksp.proofs.split.split.Goals as goal

pub mark-cost-requires-clause-below : goal.mark-cost-requires-clause-below
mark-cost-requires-clause-below g c =
    let graph = c.args.ends.now.graph.now in
    let links = c.args.class.now.links.items in
    let all = froms_below (LinksOf g.G.Graph graph) (g.G.Graph.count graph) (λ link is_link. is_link.0) c.args.ends.now.s c.args.ends.now.t links c.requires.can.s_below
    c.requires.class.least.least.belongs.is_route.is_walk in
    let P : List (LinkOf ℕ) → Type 0 = λ ls. All (λ link. link.from < length c.args.gone.now) (take c.args.class.now.kept ls) in
    subst P (sym c.deref.ensures.value) (All-take (λ (link : LinkOf ℕ). link.from < length c.args.gone.now) c.args.class.now.kept links
    (All-weaker (λ (link : LinkOf ℕ). link.from < g.G.Graph.count graph) (λ (link : LinkOf ℕ). link.from < length c.args.gone.now)
    (λ link h. omega (arith, h, c.requires.can.marks)) links all))

pub mark-cost-requires-clause-small : goal.mark-cost-requires-clause-small
mark-cost-requires-clause-small g c =
    let links = c.args.class.now.links.items in
    let whole = c.requires.can.fits.routes c.args.ends.now.s c.args.ends.now.t links c.requires.class.least.least.belongs.is_route in
    omega (arith, ap (λ (ls : List (LinkOf ℕ)). cost_of (take c.args.class.now.kept ls)) c.deref.ensures.value, cost-take links c.args.class.now.kept, whole)

pub add_class-requires-clause-walk : goal.add_class-requires-clause-walk
add_class-requires-clause-walk g c =
    let links = c.args.class.now.links.items in
    let at = place_at (LinksOf g.G.Graph c.args.ends.now.graph.now) c.args.ends.now.s c.args.ends.now.t links c.loop-place.place c.index-link.result.now
    c.index-link.ensures (omega (arith, c.loop-place-test.true, c.len-place-end.ensures)) c.requires.class.least.least.belongs.is_route in
    rw c.deref-in-loop-place.ensures.value at.walk

pub add_class-requires-clause-apart : goal.add_class-requires-clause-apart
add_class-requires-clause-apart g c =
    let links = c.args.class.now.links.items in
    let at = place_at (LinksOf g.G.Graph c.args.ends.now.graph.now) c.args.ends.now.s c.args.ends.now.t links c.loop-place.place c.index-link.result.now
    c.index-link.ensures (omega (arith, c.loop-place-test.true, c.len-place-end.ensures)) c.requires.class.least.least.belongs.is_route in
    let P : List (LinkOf ℕ) → Type 0 = λ ls. IsWithoutRepeats (vertices_of c.args.ends.now.s (take c.loop-place.place ls)) in
    subst P (sym c.deref-in-loop-place.ensures.value) at.apart

pub add_class-requires-clause-inner : goal.add_class-requires-clause-inner
add_class-requires-clause-inner g c =
    let links = c.args.class.now.links.items in
    let at = place_at (LinksOf g.G.Graph c.args.ends.now.graph.now) c.args.ends.now.s c.args.ends.now.t links c.loop-place.place c.index-link.result.now
    c.index-link.ensures (omega (arith, c.loop-place-test.true, c.len-place-end.ensures)) c.requires.class.least.least.belongs.is_route in
    at.inner

pub add_class-requires-clause-small : goal.add_class-requires-clause-small
add_class-requires-clause-small g c =
    let links = c.args.class.now.links.items in
    let whole = c.requires.can.fits.routes c.args.ends.now.s c.args.ends.now.t links c.requires.class.least.least.belongs.is_route in
    omega (arith, c.loop-place.invariant.cost, cost-take links c.loop-place.place, whole)

pub add_class-requires-clause-taboo : goal.add_class-requires-clause-taboo
add_class-requires-clause-taboo g c =
    taboo_leaves c.args.class.now.links.items c.args.class.now.kept c.args.class.now.taboo.items c.loop-place.place c.index-link.result.now c.in_ok-taboo.taboo.items
    c.index-link.ensures c.requires.class.least.leave c.in_ok-taboo.ensures

pub bounds-gone-link : goal.bounds-gone-link
bounds-gone-link g c =
    let graph = c.args.ends.now.graph.now in
    let links = c.args.class.now.links.items in
    let all = froms_below (LinksOf g.G.Graph graph) (g.G.Graph.count graph) (λ link is_link. is_link.0) c.args.ends.now.s c.args.ends.now.t links c.requires.can.s_below
    c.requires.class.least.least.belongs.is_route.is_walk in
    let below = below_at links c.loop-place.place c.index-link.result.now (g.G.Graph.count graph) c.index-link.ensures
    (omega (arith, c.loop-place-test.true, c.len-place-end.ensures)) all in
    omega (arith, below, c.loop-place.invariant.size, c.requires.can.marks)

pub overflow_add-cost : goal.overflow_add-cost
overflow_add-cost g c =
    let links = c.args.class.now.links.items in
    let whole = c.requires.can.fits.routes c.args.ends.now.s c.args.ends.now.t links c.requires.class.least.least.belongs.is_route in
    omega (
      arith,
      c.loop-place.invariant.cost,
      cost_at links c.loop-place.place c.index-link.result.now c.index-link.ensures
          (omega (arith, c.loop-place-test.true, c.len-place-end.ensures)),
      cost-take links (c.loop-place.place + 1),
      whole,
    )

pub loop-place-preserved : goal.loop-place-preserved
loop-place-preserved g c =
    let graph = c.args.ends.now.graph.now in
    let class = c.requires.class.least in
    let links = c.args.class.now.links.items in
    let i = c.loop-place.place in
    let link = c.index-link.result.now in
    let inside : i < length links = omega (arith, c.loop-place-test.true, c.len-place-end.ensures) in
    let all = froms_below (LinksOf g.G.Graph graph) (g.G.Graph.count graph) (λ x is_link. is_link.0) c.args.ends.now.s c.args.ends.now.t links c.requires.can.s_below
    class.least.belongs.is_route.is_walk in
    let below = below_at links i link (g.G.Graph.count graph) c.index-link.ensures inside all in
    record {
      marks = mark_at c.loop-place.gone links i link c.index-link.ensures inside (omega (arith, below, c.loop-place.invariant.size, c.requires.can.marks))
          c.loop-place.invariant.marks;
      size = length-set _ _ _ ∙ c.loop-place.invariant.size;
      room = c.add_class.ensures.room ∙ c.loop-place.invariant.room;
      cost = omega (arith, c.loop-place.invariant.cost, cost_at links i link c.index-link.ensures inside);
      heap = c.in_ok-add_class.ensures.heap;
      classes = c.in_ok-add_class.ensures.classes;
      parts = λ route is_route.
          let step = split_at links c.args.class.now.kept c.args.class.now.taboo.items i link c.in_ok-taboo.taboo.items route class.within
          (omega (arith, c.loop-place.auto.place)) inside class.least.belongs.goes c.in_ok-taboo.ensures in
          let more = rw c.deref-in-loop-place.ensures.value at (c.in_ok-add_class.ensures.more route is_route) in
          omega (arith, step, more, c.loop-place.invariant.parts route is_route);
    }

pub returns-clause-parts : goal.returns-clause-parts
returns-clause-parts g c = λ route is_route.
    let class = c.requires.class.least in
    let links = c.args.class.now.links.items in
    let end = split_all (LinksOf g.G.Graph c.args.ends.now.graph.now) c.args.ends.now.s c.args.ends.now.t links c.args.class.now.kept c.args.class.now.taboo.items
    c.loop-place.place route class.within
    (omega (arith, c.loop-place-test.false, c.len-place-end.ensures)) class.least.belongs.is_route is_route in
    omega (arith, end, c.loop-place.invariant.parts route is_route)
