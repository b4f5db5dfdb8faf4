use Rattle.std.proofs.Common.{arith}
use Rattle.pgr_search.proofs.Entries.{vertex_in-read}
use Rattle.pgr_search.proofs.HeapChanges.{none_forgotten, one_forgotten, all_forgotten}
use Rattle.pgr_search.proofs.heap.forget.Goals as goal

pub loop-waiting-init : goal.loop-waiting-init
loop-waiting-init g c = none_forgotten _ c.args.places.now c.args.entries.now c.requires.heap.placed

pub bounds-places-waiting : goal.bounds-places-waiting
bounds-places-waiting g c =
    let h = c.loop-waiting.invariant in
    let is = vertex_in-read c.args.entries.now c.loop-waiting.waiting-index c.waiting-item.result c.loop-waiting-test.true c.waiting-item.is in
    omega (arith, is, h.inside c.loop-waiting.waiting-index c.loop-waiting-test.true, h.size)

pub loop-waiting-preserved : goal.loop-waiting-preserved
loop-waiting-preserved g c =
    one_forgotten c.args.places.now c.loop-waiting.places c.args.entries.now c.loop-waiting.waiting-index c.waiting-item.result c.loop-waiting-test.true
    (vertex_in-read c.args.entries.now c.loop-waiting.waiting-index c.waiting-item.result c.loop-waiting-test.true c.waiting-item.is) c.loop-waiting.invariant

pub returns : goal.returns
returns g c = all_forgotten c.args.places.now c.loop-waiting.places c.args.entries.now c.loop-waiting.waiting-index c.loop-waiting-test.false c.loop-waiting.invariant
