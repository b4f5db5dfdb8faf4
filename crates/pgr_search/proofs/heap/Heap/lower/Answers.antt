use Rattle.std.proofs.Common.{◌≡◌, length, ap, ◌∙◌, arith}
use Rattle.pgr_search.specs.Heap.{keys_of, lowered}
use Rattle.pgr_search.proofs.HeapUse.{written_heap, written_keys, written_size}
use Rattle.pgr_search.proofs.heap.Heap.lower.Goals as goal

pub invariant_of-self : goal.invariant_of-self
invariant_of-self g c =
    let places = c.self.inside.places in
    let after = c.lower_entry.new.places in
    let entries = c.lower_entry.new.entries.items in
    let len : length after ≡ places.len = omega (arith, c.lower_entry.auto.places, ap length c.as_mut_slice.ensures.value, places.ok.0) in
    let heap = c.lower_entry.ensures.heap in (
      written_heap g.K.Ord.cmp _ places.items after places.len entries len heap,
      omega (arith, written_size g.K.Ord.cmp _ places.items after places.len entries len heap, c.lower_entry.ensures.room),
    )

pub returns : goal.returns
returns g c =
    let places = c.self.inside.places in
    let after = c.lower_entry.new.places in
    let entries = c.lower_entry.new.entries.items in
    let len : length after ≡ places.len = omega (arith, c.lower_entry.auto.places, ap length c.as_mut_slice.ensures.value, places.ok.0) in
    written_keys g.K.Ord.cmp _ places.items after places.len entries len c.lower_entry.ensures.heap
    ∙ ap (λ ps. lowered g.K.Ord.cmp (keys_of ps c.self.inside.entries.items) c.args.v c.args.key) c.as_mut_slice.ensures.value
    ∙ ap (λ keys. lowered g.K.Ord.cmp keys c.args.v c.args.key) c.self.view_is
