use Rattle.std.proofs.Common.{◌≡◌, ◌<◌, ◌+◌, Some, true, false, length, sym, ap, ◌∙◌, subst₂, arith}
use Rattle.pgr_search.specs.Heap.{is_before, key_in, above, IsRising, IsHeap, keys_with}
use Rattle.pgr_search.proofs.Entries.{key_in-get}
use Rattle.pgr_search.proofs.HeapSifting.{other_below, rises_on, rises_no_more}
use Rattle.pgr_search.proofs.heap.sift_up.Goals as goal
use Rattle.pgr_search.proofs.heap.sift_up.Goals.{then-loop-at-test+else-comes_before, else-loop-at-test}

pub put-requires-clause-vertex : goal.put-requires-clause-vertex
put-requires-clause-vertex g c =
    let h = c.loop-at.invariant in
    let at = c.loop-at.at in
    let to_below : above at < length c.loop-at.entries = omega (arith, h.below) in
    other_below _ c.loop-at.places c.loop-at.entries c.args.entry c.index-entries-at-in-loop-at.result at (above at) h.below to_below (λ e. omega (arith, e, c.loop-at-test.true))
    h.vertex c.index-entries-at-in-loop-at.is h.placed

pub loop-at-preserved : goal.loop-at-preserved
loop-at-preserved g c =
    let h = c.loop-at.invariant in
    let at = c.loop-at.at in
    let entries = c.loop-at.entries in
    let entry = c.args.entry in
    let to_below : above at < length entries = omega (arith, h.below) in
    let rise : is_before g.K.Ord.cmp (Some entry.key) (key_in entries (above at)) ≡ true =
    ap (is_before g.K.Ord.cmp (Some entry.key)) (key_in-get entries (above at) c.index-entries-at.result to_below) ∙ sym c.comes_before.ensures ∙ c.if-comes_before.true in
    subst₂ (λ places' entries'. IsRising g.K.Ord.cmp (keys_with c.args.places.now c.args.entries.now c.args.place entry) places' entries' (above at) entry)
    (sym c.put.ensures.places) (sym c.put.ensures.entries)
    (rises_on g.K.Ord.cmp g.met.K.Ord.total _ c.loop-at.places entries at entry h c.loop-at-test.true c.index-entries-at-in-loop-at.result c.index-entries-at-in-loop-at.is rise)

pub returns : goal.returns
returns g c =
    let h = c.loop-at.invariant in
    let at = c.loop-at.at in
    let entries = c.loop-at.entries in
    let entry = c.args.entry in
    let to_below : above at < length entries = omega (arith, h.below) in
    let stays = elim c.loop-at-test.branch as (λ _. 0 < at → is_before g.K.Ord.cmp (Some entry.key) (key_in entries (above at)) ≡ false) [
      | then-loop-at-test+else-comes_before w ↦ λ some.
          ap (is_before g.K.Ord.cmp (Some entry.key)) (key_in-get entries (above at) w.index-entries-at.result to_below) ∙ sym w.comes_before.ensures ∙ w.if-comes_before.false
      | else-loop-at-test w ↦ λ some. absurd (omega (arith, some, w.loop-at-test.false))
    ] in
    record {
      heap = subst₂ (λ places' entries'. IsHeap g.K.Ord.cmp (keys_with c.args.places.now c.args.entries.now c.args.place entry) places' entries')
          (sym c.put-2.ensures.places) (sym c.put-2.ensures.entries)
          (rises_no_more g.K.Ord.cmp g.met.K.Ord.total _ c.loop-at.places entries at entry h stays);
    }
