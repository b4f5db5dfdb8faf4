use Rattle.std.proofs.Common.{◌≡◌, ◌<◌, ◌≤◌, ℕ, List, [], ◌∷◌, length, Option, Some, None, refl, sym, ap, subst, ◌∙◌, arith, rules, heap_items}
use Rattle.std.specs.Prelude.{slice_index_or}
use Rattle.std.specs.Ordering.{nat_cmp}
use Rattle.pgr_walks.specs.declared.link.LinkOf.{LinkOf}
use Rattle.pgr_walks.specs.declared.label.Label.{Label}
use Rattle.pgr_walks.specs.LinksOf.{LinksOf}
use Rattle.pgr_walks.specs.Graph.{greatest}
use Rattle.pgr_walks.specs.Label.{IsLabelFrom}
use Rattle.pgr_ksp.specs.Sound.{IsSound}
use Rattle.pgr_ksp.proofs.Costs.{can_start, can_again}
use Rattle.pgr_ksp.proofs.Giving.{none_first}
use Rattle.pgr_ksp.proofs.paths.Paths.start.Goals as goal

pub whole-requires-clause-can : goal.whole-requires-clause-can
whole-requires-clause-can g c =
    let graph = c.args.g.now in
    let size = g.G.Graph.count graph in
    let costs : List (Option Label) = c.labels_to.new.room in
    let is_label : (v : ℕ) → v < size → IsLabelFrom (LinksOf g.G.Graph graph) c.args.s v (slice_index_or costs v None) =
    λ v h. (c.view-turned.ensures.labels c.args.s v (slice_index_or costs v None)).0 (c.labels_to.ensures.labels.label v (omega (arith, h, c.view-turned.ensures.size))) in
    let small : (v : ℕ) (label : Label) → v < size → slice_index_or costs v None ≡ Some label → label.cost ≤ greatest =
    λ v label h e. (c.least_labels_are_small.ensures (c.args.s ∷ []) v label (omega (arith, h, c.view-turned.ensures.size))
    (rw e at (c.labels_to.ensures.labels.label v (omega (arith, h, c.view-turned.ensures.size))))).0 in
    can_start size (LinksOf g.G.Graph graph) c.args.s c.args.t c.as_slice.result.now costs c.in_ok-room.room c.requires.fits c.requires.differ c.requires.s c.requires.t
    (search rules) (search rules) (search rules)
    (λ link is_link. ((((g.met.G.Graph.lawful graph).at link.to is_link.0).in_ends link is_link.1).1, is_link.0)) is_label small

pub invariant_of-result : goal.invariant_of-result
invariant_of-result g c =
    let graph = c.args.g.now in
    let size = g.G.Graph.count graph in
    let costs : List (Option Label) = c.labels_to.new.room in
    let is_label : (v : ℕ) → v < size → IsLabelFrom (LinksOf g.G.Graph graph) c.args.s v (slice_index_or costs v None) =
    λ v h. (c.view-turned.ensures.labels c.args.s v (slice_index_or costs v None)).0 (c.labels_to.ensures.labels.label v (omega (arith, h, c.view-turned.ensures.size))) in
    let small : (v : ℕ) (label : Label) → v < size → slice_index_or costs v None ≡ Some label → label.cost ≤ greatest =
    λ v label h e. (c.least_labels_are_small.ensures (c.args.s ∷ []) v label (omega (arith, h, c.view-turned.ensures.size))
    (rw e at (c.labels_to.ensures.labels.label v (omega (arith, h, c.view-turned.ensures.size))))).0 in
    let can = can_start size (LinksOf g.G.Graph graph) c.args.s c.args.t c.in_ok-gone.gone.items costs c.in_ok-room.room c.requires.fits c.requires.differ c.requires.s c.requires.t
    (search rules) (search rules) (search rules)
    (λ link is_link. ((((g.met.G.Graph.lawful graph).at link.to is_link.0).in_ends link is_link.1).1, is_link.0)) is_label small in
    let given : c.new.result.items ≡ [] = c.new.ensures.items in
    let Has : LinkOf ℕ → Type 0 = LinksOf g.G.Graph graph in
    let P : List (List (LinkOf ℕ)) → Type 0 = λ xs. IsSound Has c.args.s c.args.t xs (heap_items c.in_ok-classes.classes) in (
      can_again size Has c.args.s c.args.t c.in_ok-gone.gone.items c.in_ok-gone.gone.items costs c.in_ok-room.room c.whole.new.room can refl c.whole.ensures.room,
      subst P (sym given) (record {
        first = none_first nat_cmp Has c.args.s c.args.t;
        heap = c.in_ok-classes.ensures.heap;
        classes = c.in_ok-classes.ensures.classes;
        partition = c.in_ok-classes.ensures.partition;
      }),
    )
