use Rattle.std.proofs.Common.{◌≡◌, None, length, slice_set, ap, ◌∙◌, arith}
use Rattle.pgr_search.specs.Heap.{keys_of}
use Rattle.pgr_search.proofs.HeapUse.{written_heap, written_keys, written_size}
use Rattle.pgr_search.proofs.heap.Heap.remove.Goals as goal

pub invariant_of-self : goal.invariant_of-self
invariant_of-self g c =
    let places = c.self.inside.places in
    let after = c.remove_entry.new.places in
    let entries = c.remove_entry.new.entries.items in
    let len : length after ≡ places.len = omega (arith, c.remove_entry.auto.places, ap length c.as_mut_slice.ensures.value, places.ok.0) in
    let heap = c.remove_entry.ensures.heap in (
      written_heap g.K.Ord.cmp _ places.items after places.len entries len heap,
      omega (arith, written_size g.K.Ord.cmp _ places.items after places.len entries len heap, c.remove_entry.ensures.room),
    )

pub returns : goal.returns
returns g c =
    let places = c.self.inside.places in
    let after = c.remove_entry.new.places in
    let entries = c.remove_entry.new.entries.items in
    let len : length after ≡ places.len = omega (arith, c.remove_entry.auto.places, ap length c.as_mut_slice.ensures.value, places.ok.0) in
    written_keys g.K.Ord.cmp _ places.items after places.len entries len c.remove_entry.ensures.heap
    ∙ ap (λ ps. slice_set (keys_of ps c.self.inside.entries.items) c.args.v None) c.as_mut_slice.ensures.value
    ∙ ap (λ keys. slice_set keys c.args.v None) c.self.view_is
