-- What the operations of a heap begin with and leave.
use Rattle.std.proofs.Common.{◌≡◌, ℕ, zero, suc, ◌+◌, ◌-◌, ◌<◌, ◌≤◌, ◌^◌, ◌⊎◌, inl, inr, cond, true, false, List, [], ◌∷◌, ◌++◌, Option, Some, None, IsNone, All, length, get_or, set, take, drop, replicate, refl, sym, ap, ◌∙◌, subst, arith, Ordering}
use Rattle.std.specs.Option.{is_some}
use Rattle.std.specs.List.{count_by, slice_get}
use Rattle.std.specs.Ordering.{is_lt}
use Rattle.std.proofs.lemmas.Bool.{cases_eq}
use Rattle.std.proofs.lemmas.Option.{none-some}
use Rattle.std.proofs.lemmas.List.{get_or-replicate, length-replicate, length-append, length-set, set-get_or, set_at, take_at}
use Rattle.std.specs.Cmp.{IsTotalOrder}
use Rattle.pgr_search.specs.declared.heap.Waiting.{Waiting}
use Rattle.pgr_search.specs.Heap.{is_before, key_at, key_in, vertex_in, place_at, keys_of, keys_with, above, lowered, IsLeast, ArePlaced, IsHeap, IsOrdered, IsRising, IsSifting}
use Rattle.pgr_search.proofs.Entries.{key_in-read, vertex_in-read, key_in-set_same, key_in-set_other, key_in-push_other, vertex_in-push_last}
use Rattle.pgr_search.proofs.KeyOrder.{before_itself, one_before, not_before-trans, not_before_at}
use Rattle.pgr_search.proofs.HeapOrder.{first_is_least}
use Rattle.pgr_search.proofs.HeapPlaces.{keys_are}
use Rattle.pgr_search.proofs.HeapChanges.{entered, lowered_there, last_out, replaced}

-- what is read of a first entry
pub first_read : {K : Type 0} (entries : List (Waiting K)) (first : Waiting K) → Some first ≡ slice_get entries 0 → (0 < length entries) × (first ≡ get_or entries 0 first)
first_read [] first e = absurd (none-some first (sym e))
first_read (entry ∷ entries) first e = (omega arith, cc)

-- where nothing is kept
kept_none : (n v : ℕ) → place_at (replicate n 0) v ≡ 0
kept_none zero v = refl
kept_none (suc n) zero = refl
kept_none (suc n) (suc v) = kept_none n v

none_counted : (K : Type 0) (n : ℕ) → count_by is_some (replicate {A = Option K} n None) ≡ 0
none_counted K zero = refl
none_counted K (suc n) = none_counted K n

module _ {K : Type 0} where
  -- where nothing is kept, no vertex has a key
  pub keys_of-none : (n : ℕ) (entries : List (Waiting K)) → keys_of (replicate n 0) entries ≡ replicate n None
  keys_of-none zero entries = refl
  keys_of-none (suc n) entries = ap (λ (xs : List (Option K)). None ∷ xs) (keys_of-none n entries)

  pub all_none : (n : ℕ) → All IsNone (replicate {A = Option K} n None)
  all_none n v d lt = subst IsNone (sym (get_or-replicate n v None d (omega (arith, lt, length-replicate {A = Option K} n None)))) refl

  key_none : (n v : ℕ) → key_at (replicate {A = Option K} n None) v ≡ None
  key_none zero v = refl
  key_none (suc n) zero = refl
  key_none (suc n) (suc v) = key_none n v

  placed_none : (n : ℕ) → n < 2 ^ 32 → ArePlaced (replicate {A = Option K} n None) (replicate n 0) []
  placed_none n small = record {
    small = omega (arith, length-replicate {A = Option K} n None);
    size = length-replicate n 0 ∙ sym (length-replicate {A = Option K} n None);
    counted = sym (none_counted K n);
    inside = λ p lt. absurd (omega arith);
    there = λ p lt. absurd (omega arith);
    stands = λ p lt. absurd (omega arith);
    back = λ v p is. absurd (omega (arith, is, kept_none n v));
    same = λ v p is. absurd (omega (arith, is, kept_none n v));
    gone = λ v is. key_none n v;
  }

  -- a heap in which no vertex waits
  pub empty_heap : (cmp : K → K → Ordering) (n : ℕ) → n < 2 ^ 32 → IsHeap cmp (keys_of (replicate n 0) []) (replicate n 0) []
  empty_heap cmp n small = record {
    placed = subst (λ keys. ArePlaced keys (replicate n 0) []) (sym (keys_of-none n [])) (placed_none n small);
    ordered = λ p one lt. absurd (omega arith);
  }

  -- the keys of what is placed, as they are read
  self : (keys : List (Option K)) (places : List ℕ) (entries : List (Waiting K)) → ArePlaced keys places entries → ArePlaced (keys_of places entries) places entries
  self keys places entries h = subst (λ xs. ArePlaced xs places entries) (sym (keys_are keys places entries h)) h

  -- a heap whose places were written back
  module _ (cmp : K → K → Ordering) (keys : List (Option K)) (old after : List ℕ) (n : ℕ) (entries : List (Waiting K)) (len : length after ≡ n)
      (h : IsHeap cmp keys after entries) where
    whole : take n (after ++ drop (length after) old) ≡ after
    whole = take_at after (drop (length after) old) n len

    pub written_heap : IsHeap cmp (keys_of (take n (after ++ drop (length after) old)) entries) (take n (after ++ drop (length after) old)) entries
    written_heap =
        subst (λ xs. IsHeap cmp (keys_of xs entries) xs entries) (sym whole) (record { placed = self keys after entries h.placed; ordered = h.ordered })

    pub written_keys : keys_of (take n (after ++ drop (length after) old)) entries ≡ keys
    written_keys = ap (λ xs. keys_of xs entries) whole ∙ keys_are keys after entries h.placed

    pub written_size : length (take n (after ++ drop (length after) old)) ≡ length after
    written_size = ap length whole

  -- entries that were written back
  pub written_entries : (cmp : K → K → Ordering) (keys : List (Option K)) (places : List ℕ) (old after : List (Waiting K)) (n : ℕ) → length after ≡ n
      → IsHeap cmp keys places after → IsHeap cmp keys places (take n (after ++ drop (length after) old))
  written_entries cmp keys places old after n len h = subst (λ xs. IsHeap cmp keys places xs) (sym (take_at after (drop (length after) old) n len)) h

module _ {K : Type 0} (cmp : K → K → Ordering) (total : IsTotalOrder cmp) (keys : List (Option K)) (places : List ℕ) where
  -- the first entry is least
  pub least_first : (entries : List (Waiting K)) → IsHeap cmp keys places entries → (first : Waiting K) → 0 < length entries → first ≡ get_or entries 0 first
      → IsLeast cmp keys first
  least_first entries h first some read = record {
    waits = ap (key_at keys) (sym (vertex_in-read entries 0 first some read)) ∙ h.placed.stands 0 some ∙ key_in-read entries 0 first some read;
    least = λ v key e. at v key e (place_at places v) refl;
  }
    where
      at : (v : ℕ) (key : K) → key_at keys v ≡ Some key → (place : ℕ) → place_at places v ≡ place → is_lt (cmp key first.key) ≡ false
      at v key e zero is = absurd (none-some key (sym (h.placed.gone v is) ∙ e))
      at v key e (suc p) is =
          let there : place_at places v ≡ p + 1 = omega (arith, is) in
          let lt = h.placed.back v p there in
          let here : key_in entries p ≡ Some key = sym (h.placed.stands p lt) ∙ ap (key_at keys) (h.placed.same v p there) ∙ e in
          (λ i. is_before cmp (sym here i) (sym (key_in-read entries 0 first some read) i)) ∙ first_is_least cmp total entries h.ordered p p (omega arith) lt

  -- the keys after one was lowered, or was not
  pub lowered_new : (v : ℕ) (key : K) → key_at keys v ≡ None → lowered cmp keys v key ≡ set keys v (Some key)
  lowered_new v key free = λ i. cond (is_before cmp (Some key) (free i)) (set keys v (Some key)) keys

  pub lowered_less : (v : ℕ) (key : K) → is_before cmp (Some key) (key_at keys v) ≡ true → lowered cmp keys v key ≡ set keys v (Some key)
  lowered_less v key less = λ i. cond (less i) (set keys v (Some key)) keys

  pub lowered_not : (v : ℕ) (key : K) → is_before cmp (Some key) (key_at keys v) ≡ false → lowered cmp keys v key ≡ keys
  lowered_not v key not_less = λ i. cond (not_less i) (set keys v (Some key)) keys

  module _ (entries : List (Waiting K)) (h : IsHeap cmp keys places entries) (entry : Waiting K) where
    -- the key of a vertex that waits is that of its entry
    pub key_there : (at : ℕ) → place_at places entry.vertex ≡ at + 1 → key_at keys entry.vertex ≡ key_in entries at
    key_there at is = ap (key_at keys) (sym (h.placed.same entry.vertex at is)) ∙ h.placed.stands at (h.placed.back entry.vertex at is)

    -- an entry comes in at the end
    module _ (below : entry.vertex < length places) (free : place_at places entry.vertex ≡ 0) where
      written : set (entries ++ entry ∷ []) (length entries) entry ≡ entries ++ entry ∷ []
      written = set_at entries entry [] entry (length entries) refl

      placed_in : ArePlaced (set keys entry.vertex (Some entry.key)) (set places entry.vertex (length entries + 1)) (set (entries ++ entry ∷ []) (length entries) entry)
      placed_in =
          subst (λ xs. ArePlaced (set keys entry.vertex (Some entry.key)) (set places entry.vertex (length entries + 1)) xs) (sym written)
          (entered keys places entries h.placed entry (omega (arith, below, h.placed.size)) free)

      pub keys_in : keys_with places (entries ++ entry ∷ []) (length entries) entry ≡ lowered cmp keys entry.vertex entry.key
      keys_in = keys_are _ _ _ placed_in ∙ sym (lowered_new entry.vertex entry.key (h.placed.gone entry.vertex free))

      in_end : length (entries ++ entry ∷ []) ≡ length entries + 1
      in_end = length-append entries (entry ∷ [])

      ordered_in : (p : ℕ) → 0 < p → p < length entries
          → is_before cmp (key_in (set (entries ++ entry ∷ []) (length entries) entry) p) (key_in (set (entries ++ entry ∷ []) (length entries) entry) (above p)) ≡ false
      ordered_in p one lt =
          not_before_at cmp total _ _ (key_in entries p) (key_in entries (above p)) (ap (λ xs. key_in xs p) written ∙ key_in-push_other entries entry p lt)
          (ap (λ xs. key_in xs (above p)) written ∙ key_in-push_other entries entry (above p) (omega arith)) (h.ordered p one lt)

      pub rises_in : IsRising cmp (keys_with places (entries ++ entry ∷ []) (length entries) entry) places (entries ++ entry ∷ []) (length entries) entry
      rises_in = record {
        below = omega (arith, in_end);
        vertex = below;
        placed = self _ _ _ placed_in;
        ordered = record {
          others = λ p one lt differs. ordered_in p one (inner p differs (omega (arith, lt, in_end, length-set (entries ++ entry ∷ []) (length entries) entry)));
          spanned = λ p one lt some under. absurd (omega (arith, lt, under, in_end, length-set (entries ++ entry ∷ []) (length entries) entry));
        };
      }
        where
          inner : (p : ℕ) → (p ≡ length entries → ⊥) → p < length entries + 1 → p < length entries
          inner p differs lt = omega arith

    -- a key that is before that of its vertex
    module _ (at : ℕ) (is_at : place_at places entry.vertex ≡ at + 1) (less : is_before cmp (Some entry.key) (key_in entries at) ≡ true) where
      below_at : at < length entries
      below_at = h.placed.back entry.vertex at is_at

      pub keys_lower : keys_with places entries at entry ≡ lowered cmp keys entry.vertex entry.key
      keys_lower =
          keys_are _ _ _ (lowered_there keys places entries h.placed entry at is_at)
          ∙ sym (lowered_less entry.vertex entry.key ((λ i. is_before cmp (Some entry.key) (key_there at is_at i)) ∙ less))

      same_low : (p : ℕ) → (p ≡ at → ⊥) → key_in (set entries at entry) p ≡ key_in entries p
      same_low p differs = key_in-set_other entries at p entry differs

      others_low : (p : ℕ) → 0 < p → p < length entries → (p ≡ at → ⊥) → (above p ≡ at) ⊎ (above p ≡ at → ⊥)
          → is_before cmp (key_in (set entries at entry) p) (key_in (set entries at entry) (above p)) ≡ false
      others_low p one lt differs (inl e) =
          not_before_at cmp total _ _ (key_in entries p) (Some entry.key) (same_low p differs) (ap (key_in (set entries at entry)) e ∙ key_in-set_same entries at entry below_at)
          (not_before-trans cmp total (key_in entries p) (key_in entries at) (Some entry.key)
          (not_before_at cmp total _ _ (key_in entries p) (key_in entries (above p)) refl (ap (key_in entries) (sym e)) (h.ordered p one lt))
          (one_before cmp total (Some entry.key) (key_in entries at) less))
      others_low p one lt differs (inr f) =
          not_before_at cmp total _ _ (key_in entries p) (key_in entries (above p)) (same_low p differs) (same_low (above p) f) (h.ordered p one lt)

      spanned_low : (p : ℕ) → 0 < p → p < length entries → 0 < at → above p ≡ at
          → is_before cmp (key_in (set entries at entry) p) (key_in (set entries at entry) (above at)) ≡ false
      spanned_low p one lt some under =
          not_before_at cmp total _ _ (key_in entries p) (key_in entries (above at)) (same_low p (λ e. omega arith)) (same_low (above at) (λ e. omega arith))
          (not_before-trans cmp total (key_in entries p) (key_in entries at) (key_in entries (above at))
          (not_before_at cmp total _ _ (key_in entries p) (key_in entries (above p)) refl (ap (key_in entries) (sym under)) (h.ordered p one lt))
          (h.ordered at some below_at))

      pub rises_lower : IsRising cmp (keys_with places entries at entry) places entries at entry
      rises_lower = record {
        below = below_at;
        vertex = omega (arith, h.placed.inside at below_at, h.placed.same entry.vertex at is_at, h.placed.size);
        placed = self _ _ _ (lowered_there keys places entries h.placed entry at is_at);
        ordered = record {
          others = λ p one lt differs. others_low p one (omega (arith, lt, length-set entries at entry)) differs (cases_eq (above p) at);
          spanned = λ p one lt some under. spanned_low p one (omega (arith, lt, length-set entries at entry)) some under;
        };
      }

  -- a vertex that doesn't wait goes out
  pub not_there : (entries : List (Waiting K)) → IsHeap cmp keys places entries → (v : ℕ) → place_at places v ≡ 0 → set keys v None ≡ keys
  not_there entries h v free = ap (set keys v) (sym (h.placed.gone v free)) ∙ set-get_or keys v None

  -- a vertex goes out
  module _ (rest : List (Waiting K)) (last : Waiting K) (h : IsHeap cmp keys places (rest ++ last ∷ [])) (v at : ℕ) (is_at : place_at places v ≡ at + 1) where
    in_rest : length (rest ++ last ∷ []) ≡ length rest + 1
    in_rest = length-append rest (last ∷ [])

    ordered_rest : IsOrdered cmp rest
    ordered_rest p one lt =
        not_before_at cmp total (key_in rest p) (key_in rest (above p)) (key_in (rest ++ last ∷ []) p) (key_in (rest ++ last ∷ []) (above p))
        (sym (key_in-push_other rest last p lt)) (sym (key_in-push_other rest last (above p) (omega arith))) (h.ordered p one (omega (arith, in_rest, lt)))

    -- its entry was the last
    pub last_gone : at ≡ length rest → IsHeap cmp (set keys v None) (set places v 0) rest
    last_gone e = record { placed = last_out keys places rest last h.placed v at is_at e; ordered = ordered_rest }

    -- the last entry is to take its place
    module _ (inner : at < length rest) where
      pub keys_out : keys_with (set places v 0) rest at last ≡ set keys v None
      keys_out = keys_are _ _ _ (replaced keys places rest last h.placed v at is_at inner)

      pub sifts_out : IsSifting cmp (keys_with (set places v 0) rest at last) (set places v 0) rest at last
      sifts_out =
          let placed = replaced keys places rest last h.placed v at is_at inner in
          record {
            below = inner;
            vertex = omega (arith, vertex_in-push_end, h.placed.inside (length rest) (omega (arith, in_rest)), h.placed.size, length-set places v 0);
            placed = self _ _ _ placed;
            others = λ p one lt f g. ordered_rest p one lt;
            spanned = λ p one lt some under. not_before-trans cmp total (key_in rest p) (key_in rest at) (key_in rest (above at))
                (not_before_at cmp total _ _ (key_in rest p) (key_in rest (above p)) refl (ap (key_in rest) (sym under)) (ordered_rest p one lt)) (ordered_rest at some inner);
          }
        where
          vertex_in-push_end : vertex_in (rest ++ last ∷ []) (length rest) ≡ last.vertex
          vertex_in-push_end = vertex_in-push_last rest last

module _ {K : Type 0} (cmp : K → K → Ordering) where
  -- the least of some entries, with one more that isn't before it
  pub least_stays : (entries : List (Waiting K)) (first place least : ℕ) → is_before cmp (key_in entries place) (key_in entries least) ≡ false
      → ((p : ℕ) → first ≤ p → p < place → is_before cmp (key_in entries p) (key_in entries least) ≡ false)
      → (p : ℕ) → first ≤ p → p < place + 1 → is_before cmp (key_in entries p) (key_in entries least) ≡ false
  least_stays entries first place least not_less before p from lt = by (cases_eq p place)
    where
      by : (p ≡ place) ⊎ (p ≡ place → ⊥) → is_before cmp (key_in entries p) (key_in entries least) ≡ false
      by (inl e) = ap (λ q. is_before cmp (key_in entries q) (key_in entries least)) e ∙ not_less
      by (inr differs) = before p from (omega arith)

  -- and with one more that is
  pub least_of_more : IsTotalOrder cmp → (entries : List (Waiting K)) (first place least : ℕ) → is_before cmp (key_in entries place) (key_in entries least) ≡ true
      → ((p : ℕ) → first ≤ p → p < place → is_before cmp (key_in entries p) (key_in entries least) ≡ false)
      → (p : ℕ) → first ≤ p → p < place + 1 → is_before cmp (key_in entries p) (key_in entries place) ≡ false
  least_of_more total entries first place least less before p from lt = by (cases_eq p place)
    where
      by : (p ≡ place) ⊎ (p ≡ place → ⊥) → is_before cmp (key_in entries p) (key_in entries place) ≡ false
      by (inl e) = ap (λ q. is_before cmp (key_in entries q) (key_in entries place)) e ∙ before_itself cmp total (key_in entries place)
      by (inr differs) = not_before-trans cmp total (key_in entries p) (key_in entries least) (key_in entries place) (before p from (omega arith))
          (one_before cmp total (key_in entries place) (key_in entries least) less)
