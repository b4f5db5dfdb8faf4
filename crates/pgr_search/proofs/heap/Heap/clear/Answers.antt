use Rattle.std.proofs.Common.{◌≡◌, ◌<◌, ◌^◌, None, IsNone, All, [], length, replicate, sym, ap, ◌∙◌, subst, subst₂, arith}
use Rattle.pgr_search.specs.Heap.{keys_of, IsHeap}
use Rattle.pgr_search.proofs.HeapUse.{empty_heap, keys_of-none, all_none, written_heap, written_keys, written_size}
use Rattle.pgr_search.proofs.heap.Heap.clear.Goals as goal

pub forget-requires : goal.forget-requires
forget-requires g c = record {
  heap = subst₂ (λ ps es. IsHeap g.K.Ord.cmp (keys_of ps es) ps es) (sym c.as_mut_slice.ensures.value) (sym c.as_slice.ensures.value) c.self.invariant.0;
}

pub invariant_of-self : goal.invariant_of-self
invariant_of-self g c =
    let places = c.self.inside.places in
    let after = c.forget.new.places in
    let n = length c.as_mut_slice.result.now in
    let small : n < 2 ^ 32 = omega (arith, ap length c.as_mut_slice.ensures.value, c.self.invariant.0.placed.small, c.self.invariant.0.placed.size) in
    let len : length after ≡ places.len = omega (arith, c.forget.auto.places, ap length c.as_mut_slice.ensures.value, places.ok.0) in
    let heap = subst₂ (λ ps es. IsHeap g.K.Ord.cmp (keys_of ps es) ps es) (sym c.forget.ensures) (sym c.clear.ensures.items) (empty_heap g.K.Ord.cmp n small) in (
      written_heap g.K.Ord.cmp _ places.items after places.len c.clear.new.self.items len heap,
      omega (arith, written_size g.K.Ord.cmp _ places.items after places.len c.clear.new.self.items len heap, c.clear.ensures.capacity, c.self.invariant.1, len, places.ok.0),
    )

pub returns-clause-none : goal.returns-clause-none
returns-clause-none g c =
    let places = c.self.inside.places in
    let after = c.forget.new.places in
    let n = length c.as_mut_slice.result.now in
    let small : n < 2 ^ 32 = omega (arith, ap length c.as_mut_slice.ensures.value, c.self.invariant.0.placed.small, c.self.invariant.0.placed.size) in
    let len : length after ≡ places.len = omega (arith, c.forget.auto.places, ap length c.as_mut_slice.ensures.value, places.ok.0) in
    let heap = subst₂ (λ ps es. IsHeap g.K.Ord.cmp (keys_of ps es) ps es) (sym c.forget.ensures) (sym c.clear.ensures.items) (empty_heap g.K.Ord.cmp n small) in
    let none : keys_of after c.clear.new.self.items ≡ replicate n None =
    subst₂ (λ ps es. keys_of ps es ≡ replicate n None) (sym c.forget.ensures) (sym c.clear.ensures.items) (keys_of-none n []) in
    subst (All IsNone) (sym (written_keys g.K.Ord.cmp _ places.items after places.len c.clear.new.self.items len heap ∙ none)) (all_none n)
