use Rattle.std.proofs.Common.{◌≡◌, ◌+◌, subst, arith, length, nat_eq}
use Rattle.pgr_flow.specs.Flow.{among}
use Rattle.pgr_flow.specs.Levels.{IsSearched, AreLevels}
use Rattle.pgr_flow.proofs.Passing.{labelled_grows, levels_found}
use Rattle.pgr_flow.proofs.levels.find_levels.Goals as goal

pub loop-head-preserved : goal.loop-head-preserved
loop-head-preserved c =
    let size : length c.loop-head.levels ≡ length c.label_sources.new.levels = omega arith in
    record {
      searched = subst (λ n. IsSearched c.args.arcs.now c.args.flows.now (among nat_eq c.args.sources.now) n c.pass.new.levels c.pass.new.queue.items (c.loop-head.head + 1)
          (c.loop-head.head + 1)) size c.in_ok-pass.ensures.searched;
      inside = omega (arith, c.in_ok-pass.ensures.head);
      sources = labelled_grows c.args.sources.now c.loop-head.levels c.pass.new.levels (length c.args.sources.now) c.loop-head.invariant.sources c.in_ok-pass.ensures.grows;
      reached = c.skip_labelled-reached-in-loop-head.ensures.more;
      met = c.skip_labelled-reached-in-loop-head.ensures.all;
    }

pub returns-else-reached-sinks-clause-levels : goal.returns-else-reached-sinks-clause-levels
returns-else-reached-sinks-clause-levels c =
    let size : length c.label_sources.new.levels ≡ length c.args.levels.now = omega arith in
    subst (λ n. AreLevels c.args.arcs.now c.args.flows.now (among nat_eq c.args.sources.now) n c.loop-head.levels) size
    (levels_found c.args.arcs.now c.args.flows.now c.args.sources.now
    (length c.label_sources.new.levels) c.loop-head.levels c.loop-head.queue.items c.loop-head.head c.loop-head.invariant.searched
    c.loop-head.invariant.inside c.loop-head.invariant.sources)

pub returns-after-loop-head-clause-levels : goal.returns-after-loop-head-clause-levels
returns-after-loop-head-clause-levels c =
    let size : length c.label_sources.new.levels ≡ length c.args.levels.now = omega arith in
    subst (λ n. AreLevels c.args.arcs.now c.args.flows.now (among nat_eq c.args.sources.now) n c.loop-head.levels) size
    (levels_found c.args.arcs.now c.args.flows.now c.args.sources.now
    (length c.label_sources.new.levels) c.loop-head.levels c.loop-head.queue.items c.loop-head.head c.loop-head.invariant.searched
    c.loop-head.invariant.inside c.loop-head.invariant.sources)
