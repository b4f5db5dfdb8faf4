use Rattle.std.proofs.Common.{sym, subst₂, arith}
use Rattle.pgr_search.specs.Heap.{IsSinking, IsHeap, keys_with}
use Rattle.pgr_search.proofs.HeapSifting.{other_below, sinks_on, sinks_no_more}
use Rattle.pgr_search.proofs.heap.sift_down.Goals as goal

pub put-requires-clause-vertex : goal.put-requires-clause-vertex
put-requires-clause-vertex g c =
    let h = c.loop-child.invariant in
    let child = c.in-Some.ensures.child in
    other_below _ c.loop-child.places c.loop-child.entries c.args.entry c.index-entries-child.result c.loop-child.at c.in-Some.child h.below child.inside
    (λ e. omega (arith, e, child.above_it, child.under)) h.vertex c.index-entries-child.is h.placed

pub loop-child-preserved : goal.loop-child-preserved
loop-child-preserved g c =
    subst₂ (λ places' entries'. IsSinking g.K.Ord.cmp (keys_with c.args.places.now c.args.entries.now c.args.place c.args.entry) places' entries' c.in-Some.child c.args.entry)
    (sym c.put.ensures.places) (sym c.put.ensures.entries)
    (sinks_on g.K.Ord.cmp g.met.K.Ord.total _ c.loop-child.places c.loop-child.entries c.loop-child.at c.args.entry c.loop-child.invariant c.in-Some.child c.in-Some.ensures.child
    c.index-entries-child.result c.index-entries-child.is)

pub returns : goal.returns
returns g c = record {
  heap = subst₂ (λ places' entries'. IsHeap g.K.Ord.cmp (keys_with c.args.places.now c.args.entries.now c.args.place c.args.entry) places' entries')
      (sym c.put-2.ensures.places) (sym c.put-2.ensures.entries)
      (sinks_no_more g.K.Ord.cmp g.met.K.Ord.total _ c.loop-child.places c.loop-child.entries c.loop-child.at c.args.entry c.loop-child.invariant c.in_default.ensures.none);
}
