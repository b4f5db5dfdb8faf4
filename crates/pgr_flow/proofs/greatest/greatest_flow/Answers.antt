use Rattle.std.proofs.Common.{◌≡◌, ◌∙◌, sym, subst, ap, arith, length, nat_eq, map, replicate, List, ℕ, Option, is_some, Bool, All}
use Rattle.std.proofs.lemmas.List.{with_items_is}
use Rattle.std.specs.Vec.{with_items}
use Rattle.pgr_walks.specs.ListGraph.{HasEndsBelow}
use Rattle.pgr_flow.specs.Flow.{IsFlow, among, HasValue, IsGreatestValue}
use Rattle.pgr_flow.specs.Cut.{IsLeastSide, marked, capacity_of}
use Rattle.pgr_flow.proofs.Finale.{zeros_flow, all_found_of}
use Rattle.pgr_flow.proofs.greatest.greatest_flow.Goals as goal

pub saturate-requires-clause-flow : goal.saturate-requires-clause-flow
saturate-requires-clause-flow c =
    let zeros : c.deref_mut.result.now ≡ replicate (length c.arcs-arcs.result.now) 0 =
    c.deref_mut.ensures.value ∙ c.in_ok-flows.ensures.items_if_clones_equal (λ y e. cc) in
    subst (IsFlow nat_eq c.arcs-arcs.result.now (among nat_eq c.args.sources.now) (among nat_eq c.args.sinks.now)) (sym zeros)
    (zeros_flow c.arcs-arcs.result.now (among nat_eq c.args.sources.now) (among nat_eq c.args.sinks.now))

-- all that is said of the answer
everything : (c : goal.After-drop-incidence-3) → HasValue c.args.net.now.arcs (among nat_eq c.args.sources.now)
    (with_items c.in_ok-flows.flows c.saturate.new.flows).items c.capacity-value.result
    × IsGreatestValue nat_eq c.args.net.now.arcs (among nat_eq c.args.sources.now) (among nat_eq c.args.sinks.now) c.capacity-value.result
    × IsLeastSide c.args.net.now.arcs (among nat_eq c.args.sources.now) (among nat_eq c.args.sinks.now) (marked c.in_ok-side.side.items)
everything c =
    let e = c.in_ok-saturate.ensures in
    let size : length c.deref_mut-2.result.now ≡ c.args.net.now.size = c.deref_mut-2.ensures.len ∙ (c.in_ok-levels.ensures.len ∙ c.size-2.ensures) in
    let below : All (HasEndsBelow (length c.deref_mut-2.result.now)) c.arcs-arcs.result.now = subst (All (HasEndsBelow (length c.deref_mut-2.result.now)))
    (sym c.arcs-arcs.ensures.arcs)
    (subst (λ n. All (HasEndsBelow n) c.args.net.now.arcs) (sym size) c.arcs-arcs.ensures.network.below) in
    let levels_kept : length c.saturate.new.levels ≡ length c.deref_mut-2.result.now = omega (arith, c.saturate.auto.levels) in
    let flows_kept : length c.saturate.new.flows ≡ length c.deref_mut.result.now = omega (arith, c.saturate.auto.flows) in
    let levels_are = with_items_is c.in_ok-levels.levels c.saturate.new.levels (levels_kept ∙ c.deref_mut-2.ensures.len) in
    let flows_are = with_items_is c.in_ok-flows.flows c.saturate.new.flows (flows_kept ∙ c.deref_mut.ensures.len) in
    let seen : c.deref.result.now ≡ c.saturate.new.levels = c.deref.ensures.value ∙ levels_are in
    let marks : c.in_ok-side.side.items ≡ map is_some c.saturate.new.levels = c.in_ok-side.ensures ∙ ap (λ (x : List (Option ℕ)). map is_some x) seen in
    let value : capacity_of (marked c.in_ok-side.side.items) c.arcs-arcs.result.now ≡ c.capacity-value.result =
    sym (c.capacity-value.ensures ∙ ap (λ (s : List Bool). capacity_of (marked s) c.arcs-arcs.result.now) c.deref-2.ensures.value) in
    all_found_of (length c.deref_mut-2.result.now) c.arcs-arcs.result.now c.args.net.now.arcs c.saturate.new.flows (with_items c.in_ok-flows.flows c.saturate.new.flows).items
    c.args.sources.now c.args.sinks.now c.saturate.new.levels c.in_ok-side.side.items c.capacity-value.result
    below e.flow e.levels e.none e.closed marks c.arcs-arcs.ensures.arcs (sym flows_are) value

pub returns-clause-value : goal.returns-clause-value
returns-clause-value c = (everything c).0

pub returns-clause-greatest : goal.returns-clause-greatest
returns-clause-greatest c = (everything c).1

pub returns-clause-side : goal.returns-clause-side
returns-clause-side c = (everything c).2
