use Rattle.std.proofs.Common.{◌≡◌, ℕ, [], None, length, replicate, sym, ap, subst₂, arith}
use Rattle.std.proofs.lemmas.List.{length-replicate}
use Rattle.pgr_search.specs.Heap.{keys_of, IsHeap}
use Rattle.pgr_search.proofs.HeapUse.{empty_heap, keys_of-none}
use Rattle.pgr_search.proofs.heap.Heap.for_size.Goals as goal

pub invariant_of-result : goal.invariant_of-result
invariant_of-result g c =
    let places : c.in_ok-places.places.items ≡ replicate c.args.n 0 = c.in_ok-places.ensures.items_if_clones_equal (λ y e. e) in
    let entries = c.in_ok-entries.ensures.items in (
      subst₂ (λ ps es. IsHeap g.K.Ord.cmp (keys_of ps es) ps es) (sym places) (sym entries) (empty_heap g.K.Ord.cmp c.args.n (omega (arith, c.ranges.n))),
      omega (arith, ap length places, length-replicate {A = ℕ} c.args.n 0, c.in_ok-entries.ensures.capacity),
    )

pub returns : goal.returns
returns g c =
    let places : c.in_ok-places.places.items ≡ replicate c.args.n 0 = c.in_ok-places.ensures.items_if_clones_equal (λ y e. e) in
    subst₂ (λ ps es. keys_of ps es ≡ replicate c.args.n None) (sym places) (sym c.in_ok-entries.ensures.items) (keys_of-none c.args.n [])
