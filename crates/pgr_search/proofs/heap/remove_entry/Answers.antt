use Rattle.std.proofs.Common.{◌≡◌, ◌<◌, ◌+◌, ◌-◌, [], ◌∷◌, None, length, slice_set, slice_index_or, sym, ap, subst, arith}
use Rattle.std.proofs.lemmas.List.{length-append}
use Rattle.pgr_search.specs.Heap.{keys_of, keys_with, IsHeap, IsSifting}
use Rattle.pgr_search.proofs.HeapUse.{keys_out, sifts_out, last_gone, written_entries}
use Rattle.pgr_search.proofs.heap.remove_entry.Goals as goal

pub sift-requires : goal.sift-requires
sift-requires g c =
    let places = c.args.places.now in
    let rest = c.pop.new.self.items in
    let last = c.in-Some.last in
    let at = slice_index_or places c.args.v 0 - 1 in
    let is_at : slice_index_or places c.args.v 0 ≡ at + 1 = omega (arith, c.if-place-eq0.false) in
    let h = subst (λ es. IsHeap g.K.Ord.cmp (keys_of places c.args.entries.now.items) places es) c.in-Some.ensures.items c.requires.heap in
    let inner : at < length rest = omega (arith, c.if-place-len.true, c.len.ensures, c.pop.new.self.ok.0) in
    record {
      sifting = subst (λ es. IsSifting g.K.Ord.cmp (keys_with (slice_set places c.args.v 0) es at last) (slice_set places c.args.v 0) es at last) (sym c.as_mut_slice.ensures.value)
          (sifts_out g.K.Ord.cmp g.met.K.Ord.total _ places rest last h c.args.v at is_at inner);
    }

pub returns-then-place-len-clause-heap : goal.returns-then-place-len-clause-heap
returns-then-place-len-clause-heap g c =
    let places = c.args.places.now in
    let rest = c.pop.new.self.items in
    let last = c.in-Some.last in
    let at = slice_index_or places c.args.v 0 - 1 in
    let is_at : slice_index_or places c.args.v 0 ≡ at + 1 = omega (arith, c.if-place-eq0.false) in
    let keys = keys_of places c.args.entries.now.items in
    let h = subst (λ es. IsHeap g.K.Ord.cmp keys places es) c.in-Some.ensures.items c.requires.heap in
    let inner : at < length rest = omega (arith, c.if-place-len.true, c.len.ensures, c.pop.new.self.ok.0) in
    let same = subst (λ es. keys_with (slice_set places c.args.v 0) es at last ≡ slice_set keys c.args.v None) (sym c.as_mut_slice.ensures.value)
    (keys_out g.K.Ord.cmp g.met.K.Ord.total _ places rest last h c.args.v at is_at inner) in
    let len : length c.sift.new.entries ≡ c.pop.new.self.len = omega (arith, c.sift.auto.entries, ap length c.as_mut_slice.ensures.value, c.pop.new.self.ok.0) in
    written_entries g.K.Ord.cmp _ _ rest c.sift.new.entries c.pop.new.self.len len
    (subst (λ ks. IsHeap g.K.Ord.cmp ks c.sift.new.places c.sift.new.entries) same c.sift.ensures.heap)

pub returns-else-place-len-clause-heap : goal.returns-else-place-len-clause-heap
returns-else-place-len-clause-heap g c =
    let places = c.args.places.now in
    let rest = c.pop.new.self.items in
    let last = c.in-Some.last in
    let at = slice_index_or places c.args.v 0 - 1 in
    let is_at : slice_index_or places c.args.v 0 ≡ at + 1 = omega (arith, c.if-place-eq0.false) in
    let h = subst (λ es. IsHeap g.K.Ord.cmp (keys_of places c.args.entries.now.items) places es) c.in-Some.ensures.items c.requires.heap in
    let end : at ≡ length rest =
    omega (arith, c.if-place-len.false, c.len.ensures, c.pop.new.self.ok.0, h.placed.back c.args.v at is_at, length-append rest (last ∷ [])) in
    last_gone g.K.Ord.cmp g.met.K.Ord.total _ places rest last h c.args.v at is_at end

pub returns-in_default-clause-heap : goal.returns-in_default-clause-heap
returns-in_default-clause-heap g c =
    let places = c.args.places.now in
    let at = slice_index_or places c.args.v 0 - 1 in
    let is_at : slice_index_or places c.args.v 0 ≡ at + 1 = omega (arith, c.if-place-eq0.false) in
    absurd (omega (arith, c.requires.heap.placed.back c.args.v at is_at, c.in_default.ensures.cases.0, c.args.entries.now.ok.0))
