use Rattle.std.proofs.Common.{◌≡◌, ◌∙◌, sym, subst, ap, arith, rules, length, nat_eq, get_or, true, false}
use Rattle.std.proofs.lemmas.List.{with_items_is, places}
use Rattle.pgr_flow.specs.Flow.{among}
use Rattle.pgr_flow.specs.Incidence.{HoldsIncidence}
use Rattle.pgr_flow.specs.Levels.{AreLevels}
use Rattle.pgr_flow.specs.Descent.{IsIntact}
use Rattle.pgr_flow.proofs.Passing.{among_at}
use Rattle.pgr_flow.proofs.Finale.{levels_rooted, levels_intact, lists_apart, less_to_come}
use Rattle.pgr_flow.proofs.greatest.saturate.Goals as goal

pub augment_all-requires-clause-apart : goal.augment_all-requires-clause-apart
augment_all-requires-clause-apart c k lt e =
    let yes = levels_rooted (length c.find_levels.new.levels) c.args.arcs.now c.loop-next.flows c.args.sources.now c.loop-next.levels c.loop-next.invariant.levels
    (get_or c.args.sinks.now k 0) e in
    let off = lists_apart c.args.sources.now c.args.sinks.now c.requires.apart k lt in
    let clash : true ≡ false = sym yes ∙ off in
    cc

pub loop-next-smaller : goal.loop-next-smaller
loop-next-smaller c =
    let size : length c.args.levels.now ≡ length c.find_levels.new.levels = omega arith in
    let levels = c.loop-next.invariant.levels in
    let rooted = levels_rooted (length c.find_levels.new.levels) c.args.arcs.now c.loop-next.flows c.args.sources.now c.loop-next.levels levels in
    let holds = subst (λ n. HoldsIncidence n c.args.arcs.now c.args.incidence.now.starts.items c.args.incidence.now.list.items) size c.requires.incidence in
    let next : c.deref_mut.result.now ≡ c.args.incidence.now.starts.items = c.deref_mut.ensures.value ∙ (c.copy_from_slice.ensures.items ∙ c.deref-in-loop-next.ensures.value) in
    let intact = subst (IsIntact c.args.arcs.now c.loop-next.flows c.args.incidence.now.starts.items c.args.incidence.now.list.items c.loop-next.levels) (sym next)
    (levels_intact (length c.find_levels.new.levels) c.args.arcs.now c.loop-next.flows c.args.sources.now c.loop-next.levels levels c.args.incidence.now.starts.items
    c.args.incidence.now.list.items holds) in
    let some = c.loop-next-test.ensures.some in
    less_to_come c.args.arcs.now (among nat_eq c.args.sources.now) c.loop-next.flows c.augment_all.new.flows c.loop-next.invariant.flow.within c.augment_all.ensures.within
    (c.augment_all.ensures.above (among nat_eq c.args.sources.now) rooted (lists_apart c.args.sources.now c.args.sinks.now c.requires.apart) intact some.0 some.1 some.2)

pub loop-next-preserved : goal.loop-next-preserved
loop-next-preserved c =
    let size : length c.loop-next.levels ≡ length c.find_levels.new.levels = omega arith in
    let size_after : length c.augment_all.new.levels ≡ length c.find_levels.new.levels = omega arith in
    let rooted = levels_rooted (length c.find_levels.new.levels) c.args.arcs.now c.loop-next.flows c.args.sources.now c.loop-next.levels c.loop-next.invariant.levels in
    let next_length : length c.augment_all.new.next ≡ c.copy_from_slice.new.self.len = first_of (omega arith, search (rules, places)) in
    let next_kept : length c.augment_all.new.next ≡ length c.args.incidence.now.starts.items = first_of (omega arith, search (rules, places)) in
    let steps_length : length c.augment_all.new.steps ≡ c.loop-next.steps.len = first_of (omega arith, search (rules, places)) in
    let steps_kept : length c.augment_all.new.steps ≡ length c.find_levels.new.levels = first_of (omega arith, search (rules, places)) in
    record {
      flow = c.augment_all.ensures.flow (among nat_eq c.args.sources.now) (among nat_eq c.args.sinks.now) rooted
          (λ k lt. among_at c.args.sinks.now k lt) c.loop-next.invariant.flow;
      levels = subst (λ n. AreLevels c.args.arcs.now c.augment_all.new.flows
          (among nat_eq c.args.sources.now) n c.find_levels-in-loop-next.new.levels) size_after c.in_ok-find_levels-2.ensures.levels;
      closed = c.in_ok-find_levels-2.ensures.closed;
      pointers = ap length (with_items_is c.copy_from_slice.new.self c.augment_all.new.next next_length) ∙ next_kept;
      steps = ap length (with_items_is c.loop-next.steps c.augment_all.new.steps steps_length) ∙ steps_kept;
    }
