use Rattle.std.proofs.Common.{◌≡◌, ◌<◌, ℕ, List, [], ◌∷◌, ◌++◌, Option, refl, sym, ap, subst, ◌∙◌, arith, rules}
use Rattle.pgr_walks.specs.declared.link.LinkOf.{LinkOf}
use Rattle.pgr_walks.specs.declared.label.Label.{Label}
use Rattle.pgr_walks.specs.LinksOf.{LinksOf}
use Rattle.pgr_walks.specs.Walk.{cost_of}
use Rattle.pgr_search.specs.Estimates.{IsConsistent}
use Rattle.pgr_ksp.specs.FromStart.{cost_beyond}
use Rattle.pgr_ksp.proofs.Alike.{cost-append}
use Rattle.pgr_ksp.proofs.Places.{end_below, consistent_beyond}
use Rattle.pgr_ksp.proofs.Tails.{IsFront, class_found, none_found}
use Rattle.pgr_ksp.proofs.class.class_of.Goals as goal

pub beyond-estimate-requires : goal.beyond-estimate-requires
beyond-estimate-requires g c =
    let graph = c.args.ends.now.graph.now in
    let below = end_below (LinksOf g.G.Graph graph) (g.G.Graph.count graph) (λ link is_link. is_link.0) c.args.ends.now.s c.args.front.now.end c.args.front.now.links.now
    c.requires.can.s_below c.requires.walk in
    omega (arith, below, c.requires.can.costs_size)

pub labels_guided-requires-clause-start : goal.labels_guided-requires-clause-start
labels_guided-requires-clause-start g c =
    let graph = c.args.ends.now.graph.now in
    let below = end_below (LinksOf g.G.Graph graph) (g.G.Graph.count graph) (λ link is_link. is_link.0) c.args.ends.now.s c.args.front.now.end c.args.front.now.links.now
    c.requires.can.s_below c.requires.walk in
    omega (arith, below, c.view-view.ensures.size)

pub labels_guided-requires-clause-consistent : goal.labels_guided-requires-clause-consistent
labels_guided-requires-clause-consistent g c =
    let graph = c.args.ends.now.graph.now in
    let P : List (Option Label) → Type 0 = λ labels. IsConsistent (LinksOf g.G.Graph graph) (cost_beyond labels 0) in
    consistent_beyond (LinksOf g.G.Graph graph) _ c.beyond-estimate.result.costs.now c.beyond-estimate.result.base (λ link left. ((c.view-view.ensures.links link).0 left).0)
    (subst P (sym c.beyond-estimate.ensures) c.requires.can.consistent)

pub least_route-requires-clause-from : goal.least_route-requires-clause-from
least_route-requires-clause-from g c =
    let graph = c.args.ends.now.graph.now in
    let below = end_below (LinksOf g.G.Graph graph) (g.G.Graph.count graph) (λ link is_link. is_link.0) c.args.ends.now.s c.args.front.now.end c.args.front.now.links.now
    c.requires.can.s_below c.requires.walk in
    omega (arith, below, c.view-view.ensures.size)

pub returns-in_default-clause-none : goal.returns-in_default-clause-none
returns-in_default-clause-none g c =
    let graph = c.args.ends.now.graph.now in
    let front : IsFront (LinksOf g.G.Graph graph) c.args.ends.now.s c.args.ends.now.t c.args.front.now.end c.args.gone.now c.args.front.now.links.now c.args.taboo.items =
    record { differ = c.requires.can.differ; walk = c.requires.walk; apart = c.requires.apart; inner = c.requires.inner; marks = c.requires.marks; leave = c.requires.taboo } in
    let walks = rw c.as_slice.ensures.value at c.view-view.ensures.walks in
    let nowhere = rw (c.in_default.is, c.labels.ensures) at c.in_ok-tail.ensures.none in
    none_found (LinksOf g.G.Graph graph) c.args.ends.now.s c.args.ends.now.t c.args.front.now.end c.args.gone.now c.args.front.now.links.now c.args.taboo.items front _
    (λ tail. walks c.args.front.now.end c.args.ends.now.t tail) (nowhere (c.args.ends.now.t ∷ []) c.labels_guided.ensures.labels)

pub returns-clause-class : goal.returns-clause-class
returns-clause-class g c =
    let graph = c.args.ends.now.graph.now in
    let v = c.args.front.now.end in
    let front : IsFront (LinksOf g.G.Graph graph) c.args.ends.now.s c.args.ends.now.t v c.args.gone.now c.args.front.now.links.now c.args.taboo.items =
    record { differ = c.requires.can.differ; walk = c.requires.walk; apart = c.requires.apart; inner = c.requires.inner; marks = c.requires.marks; leave = c.requires.taboo } in
    let walks = rw c.as_slice.ensures.value at c.view-view.ensures.walks in
    let least_from = rw (c.in-Some.is, c.labels.ensures) at c.in_ok-tail.ensures.least in
    let least = least_from (c.args.ends.now.t ∷ []) c.labels_guided.ensures.labels in
    let once = c.one_walk_to_targets_is_least.ensures.loopless (c.args.ends.now.t ∷ []) v c.in-Some.tail least in
    let links : c.in_ok-links.links.items ≡ c.args.front.now.links.now ++ c.in-Some.tail = c.in_ok-links.ensures ∙ ap
    (λ (ls : List (LinkOf ℕ)). c.args.front.now.links.now ++ ls) c.links.ensures.links in
    record {
      cost = omega (arith, c.requires.cost, c.cost.ensures.sum, cost-append c.args.front.now.links.now c.in-Some.tail, ap (λ (ls : List (LinkOf ℕ)). cost_of ls) links);
      hops = search rules;
      least = class_found (LinksOf g.G.Graph graph) c.args.ends.now.s c.args.ends.now.t v c.args.gone.now c.args.front.now.links.now c.args.taboo.items front _
          (λ tail. walks v c.args.ends.now.t tail) c.in-Some.tail c.in_ok-links.links.items least once links;
    }
