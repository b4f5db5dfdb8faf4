use Rattle.std.proofs.Common.{sym, ◌∙◌}
use Rattle.pgr_search.proofs.GuidedSearch.{None-from_test, starts_guiding, known_labelled, known_all, nearest_below, nearest_waits, is_estimated, label_fits, round_fits, round_guiding, round_within, starts_within, fewer_left}
use Rattle.pgr_search.proofs.guided.guide.Goals as goal

pub loop-keys-init : goal.loop-keys-init
loop-keys-init g c = record {
  guiding = starts_guiding (g.G.Graph.count c.args.g.now) (g.G.Graph.ins c.args.g.now) c.args.targets.now
      (g.E.Estimate.values c.args.estimate.now) c.clear.new.self c.mark_with_estimates.new.keys (c.clear.ensures.size ∙ c.requires.settled)
      (c.mark_with_estimates.ensures.size ∙ c.requires.keys) c.clear.ensures.none c.mark_with_estimates.ensures.marks;
  within = starts_within (g.E.Estimate.values c.args.estimate.now) c.clear.new.self c.args.start c.clear.ensures.none;
}

pub loop-keys-preserved : goal.loop-keys-preserved
loop-keys-preserved g c = record {
  guiding = round_guiding _ _ _
      (g.met.G.Graph.lawful c.args.g.now) _ _ c.requires.consistent _ _ c.loop-keys.invariant.guiding c.in-Some.nearest c.in-Some.ensures.least c.settle_guided.new.settled
      c.settle_guided.new.keys c.settle_guided.ensures.settled c.settle_guided.ensures.keys;
  within = round_within _ _ _
      (g.met.G.Graph.lawful c.args.g.now) _ _ c.requires.consistent _ _ c.loop-keys.invariant.guiding c.in-Some.nearest c.in-Some.ensures.least c.settle_guided.new.settled
      c.settle_guided.new.keys c.settle_guided.ensures.settled c.settle_guided.ensures.keys c.args.start
      (sym c.label.ensures ∙ None-from_test c.label.result c.loop-keys-test.ensures);
}

pub loop-keys-smaller : goal.loop-keys-smaller
loop-keys-smaller g c = fewer_left _ _ _
    (g.met.G.Graph.lawful c.args.g.now) _ _ c.requires.consistent _ _ c.loop-keys.invariant.guiding c.in-Some.nearest c.in-Some.ensures.least c.settle_guided.new.settled
    c.settle_guided.new.keys c.settle_guided.ensures.settled c.settle_guided.ensures.keys

pub settle_guided-requires : goal.settle_guided-requires
settle_guided-requires g c =
    let run = c.loop-keys.invariant.guiding in
    let lawful = g.met.G.Graph.lawful c.args.g.now in
    let n = c.in-Some.ensures.least in
    record {
      vertex = nearest_below _ _ _ lawful _ _ c.requires.consistent _ _ run c.in-Some.nearest n;
      size = c.requires.size;
      settled = run.settled_len;
      keys = run.keys_len;
      waits = nearest_waits _ _ _ lawful _ _ c.requires.consistent _ _ run c.in-Some.nearest n;
      estimated = is_estimated _ _ _ lawful _ _ c.requires.consistent _ _ run c.in-Some.nearest n;
      fits = label_fits _ _ _ lawful _ _ c.requires.consistent _ _ run c.in-Some.nearest n c.requires.few c.requires.fits c.requires.small c.least_labels_are_small.ensures;
      links = round_fits _ _ _ lawful _ _ c.requires.consistent _ _ run c.in-Some.nearest n c.requires.few c.requires.fits c.requires.small c.least_labels_are_small.ensures;
    }

pub returns-in-None-clause-labels : goal.returns-in-None-clause-labels
returns-in-None-clause-labels g c =
    known_all _ _ _ (g.met.G.Graph.lawful c.args.g.now) _ _ c.requires.consistent _ _ c.loop-keys.invariant.guiding c.in-None.ensures.none c.args.start

pub returns-clause-labels : goal.returns-clause-labels
returns-clause-labels g c = known_labelled _ _ _
    (g.met.G.Graph.lawful c.args.g.now) _ _ c.requires.consistent _ _ c.loop-keys.invariant.guiding c.args.start c.label.result c.label.ensures c.loop-keys-test.ensures
