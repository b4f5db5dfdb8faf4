use Rattle.std.proofs.Common.{◌≡◌, ◌<◌, true, false, length, sym, ◌∙◌, arith}
use Rattle.pgr_search.specs.Heap.{is_before, key_in}
use Rattle.pgr_search.proofs.Entries.{key_in-read}
use Rattle.pgr_search.proofs.HeapUse.{least_of_more, least_stays}
use Rattle.pgr_search.proofs.heap.least_from.Goals as goal
use Rattle.pgr_search.proofs.heap.least_from.Goals.{then-comes_before, else-comes_before}

pub loop-place-preserved : goal.loop-place-preserved
loop-place-preserved g c =
    let before = c.loop-place.invariant in
    let entries = c.args.entries.now in
    let below : c.loop-place.place < length entries = omega (arith, c.loop-place-test.true, c.min-end.ensures) in
    let here = key_in-read entries c.loop-place.place c.index-entries-place.result below c.index-entries-place.is in
    let least = key_in-read entries c.loop-place.least c.index-entries-least.result before.inside c.index-entries-least.is in
    elim c.if-comes_before.branch [
      | then-comes_before w ↦
          let less : is_before g.K.Ord.cmp (key_in entries c.loop-place.place) (key_in entries c.loop-place.least) ≡ true =
          (λ i. is_before g.K.Ord.cmp (here i) (least i)) ∙ sym c.comes_before.ensures ∙ w.if-comes_before.true in
          rw w.least-is (record {
            from_first = omega (arith, c.loop-place.auto.place);
            before_place = omega arith;
            inside = below;
            not_after = least_of_more g.K.Ord.cmp g.met.K.Ord.total entries c.args.first c.loop-place.place c.loop-place.least less before.not_after;
          })
      | else-comes_before w ↦
          let not_less : is_before g.K.Ord.cmp (key_in entries c.loop-place.place) (key_in entries c.loop-place.least) ≡ false =
          (λ i. is_before g.K.Ord.cmp (here i) (least i)) ∙ sym c.comes_before.ensures ∙ w.if-comes_before.false in
          rw w.least-is (record {
            from_first = before.from_first;
            before_place = omega (arith, before.before_place);
            inside = before.inside;
            not_after = least_stays g.K.Ord.cmp entries c.args.first c.loop-place.place c.loop-place.least not_less before.not_after;
          })
    ]
