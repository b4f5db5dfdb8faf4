-- Keys of waiting vertices, and the heap that finds the least: the four places under place p are those from 4 * p + 1 on, and a vertex has the number of its place, plus one.
use Rattle.std.specs.Prelude.{◌≡◌, ℕ, zero, suc, ◌+◌, ◌-◌, ◌*◌, ◌/◌, ◌<◌, ◌≤◌, ◌^◌, Bool, true, false, List, Option, Some, None, length, map, slice_index_or, slice_set, if◌then◌else◌}
use Rattle.std.specs.Option.{is_some}
use Rattle.std.specs.List.{count_by}
use Rattle.std.specs.declared.cmp.Ordering.{Ordering}
use Rattle.std.specs.Ordering.{is_lt}
use Rattle.pgr_search.specs.declared.heap.Waiting.{Waiting}

-- whether a key is before another; no key comes after every key
abbrev pub is_before : {K : Type 0} → (K → K → Ordering) → Option K → Option K → Bool
is_before cmp None b = false
is_before cmp (Some a) None = true
is_before cmp (Some a) (Some b) = is_lt (cmp a b)

-- the key of a vertex, if it waits with one
abbrev pub key_at : {K : Type 0} → List (Option K) → ℕ → Option K
key_at keys v = slice_index_or keys v None

-- the keys after that of a vertex was lowered to one that is before it
abbrev pub lowered : {K : Type 0} → (K → K → Ordering) → List (Option K) → ℕ → K → List (Option K)
lowered cmp keys v key = if is_before cmp (Some key) (key_at keys v) then slice_set keys v (Some key) else keys

-- a vertex that waits with this key, which no other key is before
pub record IsLeast {K : Type 0} (cmp : K → K → Ordering) (keys : List (Option K)) (waiting : Waiting K) : Type 0 where
  pub waits : key_at keys waiting.vertex ≡ Some waiting.key
  pub least : (v : ℕ) (key : K) → key_at keys v ≡ Some key → is_lt (cmp key waiting.key) ≡ false

-- what is kept for a vertex: the number of its place, plus one, or 0 where it doesn't wait
abbrev pub place_at : List ℕ → ℕ → ℕ
place_at places v = slice_index_or places v 0

-- the vertex of the entry at a place
abbrev pub vertex_in : {K : Type 0} → List (Waiting K) → ℕ → ℕ
vertex_in entries p = slice_index_or (map (λ entry. entry.vertex) entries) p 0

-- the key of the entry at a place
abbrev pub key_in : {K : Type 0} → List (Waiting K) → ℕ → Option K
key_in entries p = slice_index_or (map (λ entry. Some entry.key) entries) p None

-- the key of a vertex for which this is kept
abbrev pub key_behind : {K : Type 0} → List (Waiting K) → ℕ → Option K
key_behind entries zero = None
key_behind entries (suc p) = key_in entries p

-- for each vertex its key, if it waits
abbrev pub keys_of : {K : Type 0} → List ℕ → List (Waiting K) → List (Option K)
keys_of places entries = map (key_behind entries) places

-- each entry is that of its vertex, which has its place, and no other vertex waits
pub record ArePlaced {K : Type 0} (keys : List (Option K)) (places : List ℕ) (entries : List (Waiting K)) : Type 0 where
  pub small : length keys < 2 ^ 32
  pub size : length places ≡ length keys
  pub counted : length entries ≡ count_by is_some keys
  pub inside : (p : ℕ) → p < length entries → vertex_in entries p < length keys
  pub there : (p : ℕ) → p < length entries → place_at places (vertex_in entries p) ≡ p + 1
  pub stands : (p : ℕ) → p < length entries → key_at keys (vertex_in entries p) ≡ key_in entries p
  pub back : (v p : ℕ) → place_at places v ≡ p + 1 → p < length entries
  pub same : (v p : ℕ) → place_at places v ≡ p + 1 → vertex_in entries p ≡ v
  pub gone : (v : ℕ) → place_at places v ≡ 0 → key_at keys v ≡ None

-- the place above another
abbrev pub above : ℕ → ℕ
above p = (p - 1) / 4

-- no entry is before the one above it
abbrev pub IsOrdered : {K : Type 0} → (K → K → Ordering) → List (Waiting K) → Type 0
IsOrdered cmp entries = (p : ℕ) → 0 < p → p < length entries → is_before cmp (key_in entries p) (key_in entries (above p)) ≡ false

-- the entries of the waiting vertices, placed and ordered
pub record IsHeap {K : Type 0} (cmp : K → K → Ordering) (keys : List (Option K)) (places : List ℕ) (entries : List (Waiting K)) : Type 0 where
  pub placed : ArePlaced keys places entries
  pub ordered : IsOrdered cmp entries

-- no entry under a place is before the one above the place
abbrev pub IsSpanned : {K : Type 0} → (K → K → Ordering) → List (Waiting K) → ℕ → Type 0
IsSpanned cmp entries at = (p : ℕ) → 0 < p → p < length entries → 0 < at → above p ≡ at → is_before cmp (key_in entries p) (key_in entries (above at)) ≡ false

-- the entries are ordered but, maybe, that at a place and the one above it
pub record IsOrderedUnder {K : Type 0} (cmp : K → K → Ordering) (entries : List (Waiting K)) (at : ℕ) : Type 0 where
  pub others : (p : ℕ) → 0 < p → p < length entries → (p ≡ at → ⊥) → is_before cmp (key_in entries p) (key_in entries (above p)) ≡ false
  pub spanned : IsSpanned cmp entries at

-- the entries are ordered but, maybe, that at a place and those under it
pub record IsOrderedOver {K : Type 0} (cmp : K → K → Ordering) (entries : List (Waiting K)) (at : ℕ) : Type 0 where
  pub others : (p : ℕ) → 0 < p → p < length entries → (above p ≡ at → ⊥) → is_before cmp (key_in entries p) (key_in entries (above p)) ≡ false
  pub spanned : IsSpanned cmp entries at

-- the keys with an entry at a place
abbrev pub keys_with : {K : Type 0} → List ℕ → List (Waiting K) → ℕ → Waiting K → List (Option K)
keys_with places entries at entry = keys_of (slice_set places entry.vertex (at + 1)) (slice_set entries at entry)

-- with the entry at the place all are placed, and none but it may be before the one above
pub record IsRising {K : Type 0} (cmp : K → K → Ordering) (keys : List (Option K)) (places : List ℕ) (entries : List (Waiting K)) (at : ℕ) (entry : Waiting K) : Type 0 where
  pub below : at < length entries
  pub vertex : entry.vertex < length places
  pub placed : ArePlaced keys (slice_set places entry.vertex (at + 1)) (slice_set entries at entry)
  pub ordered : IsOrderedUnder cmp (slice_set entries at entry) at

-- with the entry at the place all are placed, and only those under it may be before it
pub record IsSinking {K : Type 0} (cmp : K → K → Ordering) (keys : List (Option K)) (places : List ℕ) (entries : List (Waiting K)) (at : ℕ) (entry : Waiting K) : Type 0 where
  pub below : at < length entries
  pub vertex : entry.vertex < length places
  pub placed : ArePlaced keys (slice_set places entry.vertex (at + 1)) (slice_set entries at entry)
  pub ordered : IsOrderedOver cmp (slice_set entries at entry) at

-- with the entry at the place all are placed, and the others would be ordered without it
pub record IsSifting {K : Type 0} (cmp : K → K → Ordering) (keys : List (Option K)) (places : List ℕ) (entries : List (Waiting K)) (at : ℕ) (entry : Waiting K) : Type 0 where
  pub below : at < length entries
  pub vertex : entry.vertex < length places
  pub placed : ArePlaced keys (slice_set places entry.vertex (at + 1)) (slice_set entries at entry)
  pub others : (p : ℕ) → 0 < p → p < length entries → (p ≡ at → ⊥) → (above p ≡ at → ⊥) → is_before cmp (key_in entries p) (key_in entries (above p)) ≡ false
  pub spanned : IsSpanned cmp entries at

-- the place of a least entry of four
pub record IsLeastFrom {K : Type 0} (cmp : K → K → Ordering) (entries : List (Waiting K)) (first least : ℕ) : Type 0 where
  pub from_first : first ≤ least
  pub of_four : least < first + 4
  pub inside : least < length entries
  pub not_after : (p : ℕ) → first ≤ p → p < first + 4 → p < length entries → is_before cmp (key_in entries p) (key_in entries least) ≡ false

-- no entry under a place is before this one
abbrev pub NoneRises : {K : Type 0} → (K → K → Ordering) → List (Waiting K) → ℕ → Waiting K → Type 0
NoneRises cmp entries at entry = (p : ℕ) → 0 < p → p < length entries → above p ≡ at → is_before cmp (key_in entries p) (Some entry.key) ≡ false

-- the place of a least entry under another place, which is before this one
pub record IsChildToRise {K : Type 0} (cmp : K → K → Ordering) (entries : List (Waiting K)) (at : ℕ) (entry : Waiting K) (child : ℕ) : Type 0 where
  pub under : 0 < child
  pub inside : child < length entries
  pub above_it : above child ≡ at
  pub rises : is_before cmp (key_in entries child) (Some entry.key) ≡ true
  pub not_after : (p : ℕ) → 0 < p → p < length entries → above p ≡ at → is_before cmp (key_in entries p) (key_in entries child) ≡ false
