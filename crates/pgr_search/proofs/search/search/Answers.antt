use Rattle.std.proofs.Common.{◌∙◌, sym, arith}
use Rattle.pgr_search.proofs.Running.{starts_running, starts_reached, nearest_below, nearest_waits, round_fits, round_running, fewer_left, still_reached, labels_up_to, meets_bound}
use Rattle.pgr_search.proofs.search.search.Goals as goal

pub loop-nearest-init : goal.loop-nearest-init
loop-nearest-init g c = record {
  running = starts_running (g.G.Graph.count c.args.g.now) (g.G.Graph.ins c.args.g.now) c.args.targets.now c.args.bound c.clear.new.self c.mark_targets.new.waiting
      (c.clear.ensures.size ∙ c.requires.settled) (c.mark_targets.ensures.size ∙ c.requires.waiting) c.clear.ensures.none c.mark_targets.ensures.marks;
  reached = starts_reached c.args.bound c.clear.new.self;
}

pub loop-nearest-preserved : goal.loop-nearest-preserved
loop-nearest-preserved g c =
    let run = c.loop-nearest.invariant.running in
    let below = nearest_below _ _ _ (g.met.G.Graph.lawful c.args.g.now) _ _ _ _ run c.in-Some.nearest c.in-Some.ensures.least in
    record {
      running = round_running _ _ _
          (g.met.G.Graph.lawful c.args.g.now) _ _ _ _ run c.in-Some.nearest c.in-Some.ensures.least c.settle.new.settled c.settle.new.waiting c.settle.ensures.settled
          c.settle.ensures.waiting c.in-Some.ensures.before;
      reached = still_reached c.args.bound c.loop-nearest.settled c.settle.new.settled c.next.new.reached c.in-Some.nearest.vertex c.in-Some.nearest.key
          (omega (arith, below, run.settled_len)) c.settle.ensures.settled c.in-Some.ensures.reached;
    }

pub loop-nearest-smaller : goal.loop-nearest-smaller
loop-nearest-smaller g c =
    fewer_left _ _ _ (g.met.G.Graph.lawful c.args.g.now) _ _ _ _ c.loop-nearest.invariant.running c.in-Some.nearest c.in-Some.ensures.least c.settle.new.settled
    c.settle.new.waiting c.settle.ensures.settled c.settle.ensures.waiting

pub settle-requires : goal.settle-requires
settle-requires g c =
    let run = c.loop-nearest.invariant.running in
    record {
      vertex = nearest_below _ _ _ (g.met.G.Graph.lawful c.args.g.now) _ _ _ _ run c.in-Some.nearest c.in-Some.ensures.least;
      settled = run.settled_len;
      waiting = run.waiting_len;
      waits = nearest_waits _ _ _ (g.met.G.Graph.lawful c.args.g.now) _ _ _ _ run c.in-Some.nearest c.in-Some.ensures.least;
      links = round_fits _ _ _
          (g.met.G.Graph.lawful c.args.g.now) _ _ _ _ run c.in-Some.nearest c.in-Some.ensures.least c.requires.small c.requires.fits c.least_labels_are_small.ensures;
    }

pub returns : goal.returns
returns g c =
    let run = c.loop-nearest.invariant.running in
    record {
      labels = labels_up_to _ _ _ _ _ _ run;
      bound = meets_bound _ _ _ _ _ _ run c.in_default.ensures.over;
      waiting = run.waiting_len ∙ sym c.requires.waiting;
    }
