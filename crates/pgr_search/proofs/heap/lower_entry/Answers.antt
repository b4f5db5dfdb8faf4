use Rattle.std.proofs.Common.{◌≡◌, ◌+◌, ◌-◌, [], ◌∷◌, ◌++◌, None, Some, true, false, length, slice_index_or, sym, ap, ◌∙◌, subst, subst₂, arith}
use Rattle.std.proofs.lemmas.Bool.{false≢true}
use Rattle.pgr_search.specs.Heap.{is_before, key_in, keys_of, keys_with, lowered, IsHeap, IsRising}
use Rattle.pgr_search.proofs.Entries.{key_in-read}
use Rattle.pgr_search.proofs.HeapChanges.{fewer}
use Rattle.pgr_search.proofs.HeapUse.{keys_in, rises_in, key_there, keys_lower, rises_lower, lowered_not, written_entries}
use Rattle.pgr_search.proofs.heap.lower_entry.Goals as goal

pub sift_up-requires : goal.sift_up-requires
sift_up-requires g c =
    let places = c.args.places.now in
    let entries = c.args.entries.now.items in
    let entry = c.args.entry in
    let grown : c.as_mut_slice.result.now ≡ entries ++ entry ∷ [] = c.as_mut_slice.ensures.value ∙ c.in-Ok.ensures.items in
    let last : c.len-last.result ≡ length entries = omega (arith, c.len-last.ensures, c.args.entries.now.ok.0) in
    record {
      rising = subst₂ (λ es n. IsRising g.K.Ord.cmp (keys_with places es n entry) places es n entry) (sym grown) (sym last)
          (rises_in g.K.Ord.cmp g.met.K.Ord.total _ places entries c.requires.heap entry c.requires.vertex c.if-place-eq0.true);
    }

pub unreachable-requires : goal.unreachable-requires
unreachable-requires g c =
    let h = c.requires.heap.placed in
    let below = c.requires.vertex in
    let less = fewer _ c.args.places.now c.args.entries.now.items h c.args.entry.vertex c.args.entry.key (omega (arith, below, h.size)) c.if-place-eq0.true in
    false≢true (c.in-Err.ensures.succeeds (omega (arith, less, h.size, c.requires.room, c.args.entries.now.ok.0)))

pub index-requires : goal.index-requires
index-requires g c =
    let places = c.args.places.now in
    let at = slice_index_or places c.args.entry.vertex 0 - 1 in
    let is_at : slice_index_or places c.args.entry.vertex 0 ≡ at + 1 = omega (arith, c.if-place-eq0.false) in
    omega (arith, c.requires.heap.placed.back c.args.entry.vertex at is_at, c.args.entries.now.ok.0)

pub sift_up-requires-then-comes_before : goal.sift_up-requires-then-comes_before
sift_up-requires-then-comes_before g c =
    let places = c.args.places.now in
    let entries = c.args.entries.now.items in
    let entry = c.args.entry in
    let h = c.requires.heap in
    let at = slice_index_or places entry.vertex 0 - 1 in
    let is_at : slice_index_or places entry.vertex 0 ≡ at + 1 = omega (arith, c.if-place-eq0.false) in
    let here = key_in-read entries at c.index.result.now (h.placed.back entry.vertex at is_at) c.index.ensures in
    let less : is_before g.K.Ord.cmp (Some entry.key) (key_in entries at) ≡ true =
    ap (is_before g.K.Ord.cmp (Some entry.key)) here ∙ sym c.comes_before.ensures ∙ c.if-comes_before.true in
    record {
      rising = subst (λ es. IsRising g.K.Ord.cmp (keys_with places es at entry) places es at entry) (sym c.as_mut_slice-then-comes_before.ensures.value)
          (rises_lower g.K.Ord.cmp g.met.K.Ord.total _ places entries h entry at is_at less);
    }

pub returns-in-Ok-clause-heap : goal.returns-in-Ok-clause-heap
returns-in-Ok-clause-heap g c =
    let places = c.args.places.now in
    let entries = c.args.entries.now.items in
    let entry = c.args.entry in
    let grown : c.as_mut_slice.result.now ≡ entries ++ entry ∷ [] = c.as_mut_slice.ensures.value ∙ c.in-Ok.ensures.items in
    let last : c.len-last.result ≡ length entries = omega (arith, c.len-last.ensures, c.args.entries.now.ok.0) in
    let same = subst₂ (λ es n. keys_with places es n entry ≡ lowered g.K.Ord.cmp (keys_of places entries) entry.vertex entry.key) (sym grown) (sym last)
    (keys_in g.K.Ord.cmp g.met.K.Ord.total _ places entries c.requires.heap entry c.requires.vertex c.if-place-eq0.true) in
    let len : length c.sift_up.new.entries ≡ c.push.new.self.len = omega (arith, c.sift_up.auto.entries, ap length c.as_mut_slice.ensures.value, c.push.new.self.ok.0) in
    written_entries g.K.Ord.cmp _ _ c.push.new.self.items c.sift_up.new.entries c.push.new.self.len len
    (subst (λ ks. IsHeap g.K.Ord.cmp ks c.sift_up.new.places c.sift_up.new.entries) same c.sift_up.ensures.heap)

pub returns-then-comes_before-clause-heap : goal.returns-then-comes_before-clause-heap
returns-then-comes_before-clause-heap g c =
    let places = c.args.places.now in
    let entries = c.args.entries.now.items in
    let entry = c.args.entry in
    let h = c.requires.heap in
    let at = slice_index_or places entry.vertex 0 - 1 in
    let is_at : slice_index_or places entry.vertex 0 ≡ at + 1 = omega (arith, c.if-place-eq0.false) in
    let here = key_in-read entries at c.index.result.now (h.placed.back entry.vertex at is_at) c.index.ensures in
    let less : is_before g.K.Ord.cmp (Some entry.key) (key_in entries at) ≡ true =
    ap (is_before g.K.Ord.cmp (Some entry.key)) here ∙ sym c.comes_before.ensures ∙ c.if-comes_before.true in
    let same = subst (λ es. keys_with places es at entry ≡ lowered g.K.Ord.cmp (keys_of places entries) entry.vertex entry.key) (sym c.as_mut_slice-then-comes_before.ensures.value)
    (keys_lower g.K.Ord.cmp g.met.K.Ord.total _ places entries h entry at is_at less) in
    let after = c.sift_up-then-comes_before.new.entries in
    let len : length after ≡ c.args.entries.now.len =
    omega (arith, c.sift_up-then-comes_before.auto.entries, ap length c.as_mut_slice-then-comes_before.ensures.value, c.args.entries.now.ok.0) in
    written_entries g.K.Ord.cmp _ _ entries after c.args.entries.now.len len
    (subst (λ ks. IsHeap g.K.Ord.cmp ks c.sift_up-then-comes_before.new.places after) same c.sift_up-then-comes_before.ensures.heap)

pub returns-else-comes_before-clause-heap : goal.returns-else-comes_before-clause-heap
returns-else-comes_before-clause-heap g c =
    let places = c.args.places.now in
    let entries = c.args.entries.now.items in
    let entry = c.args.entry in
    let h = c.requires.heap in
    let at = slice_index_or places entry.vertex 0 - 1 in
    let is_at : slice_index_or places entry.vertex 0 ≡ at + 1 = omega (arith, c.if-place-eq0.false) in
    let here = key_in-read entries at c.index.result.now (h.placed.back entry.vertex at is_at) c.index.ensures in
    let there = key_there g.K.Ord.cmp g.met.K.Ord.total (keys_of places entries) places entries h entry at is_at in
    let not_less : is_before g.K.Ord.cmp (Some entry.key) (slice_index_or (keys_of places entries) entry.vertex None) ≡ false =
    ap (is_before g.K.Ord.cmp (Some entry.key)) (there ∙ here) ∙ sym c.comes_before.ensures ∙ c.if-comes_before.false in
    subst (λ keys. IsHeap g.K.Ord.cmp keys places entries)
    (sym (lowered_not g.K.Ord.cmp g.met.K.Ord.total (keys_of places entries) places entry.vertex entry.key not_less)) h
