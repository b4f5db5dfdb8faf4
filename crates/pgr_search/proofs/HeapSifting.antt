-- How an entry that has a place, but isn't written yet, moves up or down through a heap.
use Rattle.std.proofs.Common.{◌≡◌, ℕ, ◌+◌, ◌-◌, ◌<◌, ◌⊎◌, inl, inr, true, false, List, Option, Some, length, get_or, set, sym, ap, ◌∙◌, arith, Ordering}
use Rattle.std.proofs.lemmas.Bool.{cases_eq}
use Rattle.std.proofs.lemmas.List.{get_or-set_same, get_or-set_other, length-set}
use Rattle.std.specs.Cmp.{IsTotalOrder}
use Rattle.pgr_search.specs.declared.heap.Waiting.{Waiting}
use Rattle.pgr_search.specs.Heap.{is_before, key_in, vertex_in, place_at, above, ArePlaced, IsHeap, IsRising, IsSinking, IsSifting, IsChildToRise, NoneRises}
use Rattle.pgr_search.proofs.Entries.{key_in-read, vertex_in-read, key_in-set_same, key_in-set_other, vertex_in-set_same, vertex_in-set_other}
use Rattle.pgr_search.proofs.KeyOrder.{one_before, not_before-trans, not_before_at}
use Rattle.pgr_search.proofs.HeapOrder.{IsExchanged, rises, sinks, risen, sunk}
use Rattle.pgr_search.proofs.HeapPlaces.{placed_exchanged}

-- an entry that is written where another was to be, which has its place now, changed places with it
module _ {K : Type 0} (keys : List (Option K)) (places : List ℕ) (entries : List (Waiting K)) (entry other : Waiting K) (at to : ℕ) (below : at < length entries)
    (to_below : to < length entries) (differs : to ≡ at → ⊥) (vertex : entry.vertex < length places) (read : other ≡ get_or entries to other)
    (h : ArePlaced keys (set places entry.vertex (at + 1)) (set entries at entry)) where
  old_to : vertex_in (set entries at entry) to ≡ other.vertex
  old_to = vertex_in-set_other entries at to entry differs ∙ vertex_in-read entries to other to_below read

  old_at : vertex_in (set entries at entry) at ≡ entry.vertex
  old_at = vertex_in-set_same entries at entry below

  pub other_below : other.vertex < length places
  other_below =
      omega (arith, old_to, h.inside to (omega (arith, to_below, length-set entries at entry)), h.size, length-set places entry.vertex (at + 1))

  apart : other.vertex ≡ entry.vertex → ⊥
  apart e =
      let there = h.there to (omega (arith, to_below, length-set entries at entry)) in
      let here = h.there at (omega (arith, below, length-set entries at entry)) in
      differs (omega (arith, there, here, ap (place_at (set places entry.vertex (at + 1))) (old_to ∙ e ∙ sym old_at)))

  to_in : to < length (set entries at other)
  to_in = omega (arith, to_below, length-set entries at other)

  at_other : at ≡ to → ⊥
  at_other e = differs (sym e)

  pub exchanged : IsExchanged (set places entry.vertex (at + 1)) (set entries at entry) (set (set places other.vertex (at + 1)) entry.vertex (to + 1))
      (set (set entries at other) to entry) at to
  exchanged = record {
    len = length-set (set entries at other) to entry ∙ length-set entries at other ∙ sym (length-set entries at entry);
    size = length-set (set places other.vertex (at + 1)) entry.vertex (to + 1) ∙ length-set places other.vertex (at + 1) ∙ sym (length-set places entry.vertex (at + 1));
    key_a = key_in-set_other (set entries at other) to at entry at_other ∙ key_in-set_same entries at other below
        ∙ sym (key_in-set_other entries at to entry differs ∙ key_in-read entries to other to_below read);
    key_b = key_in-set_same (set entries at other) to entry to_in ∙ sym (key_in-set_same entries at entry below);
    key_other = λ p f g. key_in-set_other (set entries at other) to p entry g ∙ key_in-set_other entries at p other f ∙ sym (key_in-set_other entries at p entry f);
    vertex_a = vertex_in-set_other (set entries at other) to at entry at_other ∙ vertex_in-set_same entries at other below ∙ sym old_to;
    vertex_b = vertex_in-set_same (set entries at other) to entry to_in ∙ sym old_at;
    vertex_other = λ p f g. vertex_in-set_other (set entries at other) to p entry g ∙ vertex_in-set_other entries at p other f ∙ sym (vertex_in-set_other entries at p entry f);
    place_a = ap (place_at (set (set places other.vertex (at + 1)) entry.vertex (to + 1))) old_to
        ∙ get_or-set_other (set places other.vertex (at + 1)) entry.vertex other.vertex (to + 1) 0 apart ∙ get_or-set_same places other.vertex (at + 1) 0 other_below;
    place_b = ap (place_at (set (set places other.vertex (at + 1)) entry.vertex (to + 1))) old_at
        ∙ get_or-set_same (set places other.vertex (at + 1)) entry.vertex (to + 1) 0 (omega (arith, vertex, length-set places other.vertex (at + 1)));
    place_other = λ v f g. place v (λ e. f (e ∙ sym old_at)) (λ e. g (e ∙ sym old_to));
  }
    where
      place : (v : ℕ) → (v ≡ entry.vertex → ⊥) → (v ≡ other.vertex → ⊥)
          → place_at (set (set places other.vertex (at + 1)) entry.vertex (to + 1)) v ≡ place_at (set places entry.vertex (at + 1)) v
      place v f g =
          get_or-set_other (set places other.vertex (at + 1)) entry.vertex v (to + 1) 0 f ∙ get_or-set_other places other.vertex v (at + 1) 0 g
          ∙ sym (get_or-set_other places entry.vertex v (at + 1) 0 f)

module _ {K : Type 0} (cmp : K → K → Ordering) (total : IsTotalOrder cmp) (keys : List (Option K)) (places : List ℕ) (entries : List (Waiting K)) (at : ℕ) (entry : Waiting K) where
  -- the entry above comes down a place
  pub rises_on : IsRising cmp keys places entries at entry → 0 < at → (other : Waiting K) → other ≡ get_or entries (above at) other
      → is_before cmp (Some entry.key) (key_in entries (above at)) ≡ true → IsRising cmp keys (set places other.vertex (at + 1)) (set entries at other) (above at) entry
  rises_on h some other read rise =
      let to_below : above at < length entries = omega (arith, h.below) in
      let differs : above at ≡ at → ⊥ = λ e. omega arith in
      let x = exchanged keys places entries entry other at (above at) h.below to_below differs h.vertex read h.placed in
      let in_set : at < length (set entries at entry) = omega (arith, h.below, length-set entries at entry) in
      let old_at = key_in-set_same entries at entry h.below in
      let old_to = key_in-set_other entries at (above at) entry differs in
      record {
        below = omega (arith, to_below, length-set entries at other);
        vertex = omega (arith, h.vertex, length-set places other.vertex (at + 1));
        placed = placed_exchanged keys (set places entry.vertex (at + 1)) (set entries at entry) _ _ at (above at) h.placed in_set
            (omega (arith, to_below, length-set entries at entry)) x;
        ordered = rises cmp total (set places entry.vertex (at + 1)) (set entries at entry) _ _ at some in_set x h.ordered
            ((λ i. is_before cmp (old_at i) (old_to i)) ∙ rise);
      }

  -- where the one above isn't after it, it is written
  pub rises_no_more : IsRising cmp keys places entries at entry → (0 < at → is_before cmp (Some entry.key) (key_in entries (above at)) ≡ false)
      → IsHeap cmp keys (set places entry.vertex (at + 1)) (set entries at entry)
  rises_no_more h stays = record {
    placed = h.placed;
    ordered = risen cmp total (set entries at entry) at h.ordered (λ some. not_before_at cmp total (key_in (set entries at entry) at) (key_in (set entries at entry) (above at))
        (Some entry.key) (key_in entries (above at)) (key_in-set_same entries at entry h.below) (key_in-set_other entries at (above at) entry (λ e. omega arith)) (stays some));
  }

  -- the least entry under it comes up a place
  pub sinks_on : IsSinking cmp keys places entries at entry → (child : ℕ) → IsChildToRise cmp entries at entry child → (other : Waiting K) → other ≡ get_or entries child other
      → IsSinking cmp keys (set places other.vertex (at + 1)) (set entries at other) child entry
  sinks_on h child c other read =
      let differs : child ≡ at → ⊥ = λ e. omega (arith, c.above_it, c.under) in
      let x = exchanged keys places entries entry other at child h.below c.inside differs h.vertex read h.placed in
      let child_in : child < length (set entries at entry) = omega (arith, c.inside, length-set entries at entry) in
      let old_at = key_in-set_same entries at entry h.below in
      let old_to = key_in-set_other entries at child entry differs in
      record {
        below = omega (arith, c.inside, length-set entries at other);
        vertex = omega (arith, h.vertex, length-set places other.vertex (at + 1));
        placed = placed_exchanged keys (set places entry.vertex (at + 1)) (set entries at entry) _ _ at child h.placed
            (omega (arith, h.below, length-set entries at entry)) child_in x;
        ordered = sinks cmp total (set places entry.vertex (at + 1)) (set entries at entry) _ _ at child c.under child_in c.above_it x h.ordered
            ((λ i. is_before cmp (old_to i) (old_at i)) ∙ c.rises)
            (λ p one lt under. not_before_at cmp total (key_in (set entries at entry) p) (key_in (set entries at entry) child) (key_in entries p) (key_in entries child)
            (key_in-set_other entries at p entry (λ e. omega (arith, under, e, one))) old_to (c.not_after p one (omega (arith, lt, length-set entries at entry)) under));
      }

  -- where none under it is before it, it is written
  pub sinks_no_more : IsSinking cmp keys places entries at entry → NoneRises cmp entries at entry → IsHeap cmp keys (set places entry.vertex (at + 1)) (set entries at entry)
  sinks_no_more h none = record {
    placed = h.placed;
    ordered = sunk cmp total (set entries at entry) at h.ordered (λ p one lt under. not_before_at cmp total (key_in (set entries at entry) p) (key_in (set entries at entry) at)
        (key_in entries p) (Some entry.key) (key_in-set_other entries at p entry (λ e. omega (arith, under, e, one))) (key_in-set_same entries at entry h.below)
        (none p one (omega (arith, lt, length-set entries at entry)) under));
  }

  -- an entry that is to move up or down: up where it is before the one above
  module _ (h : IsSifting cmp keys places entries at entry) where
    in_place : (p : ℕ) → p < length (set entries at entry) → p < length entries
    in_place p lt = omega (arith, lt, length-set entries at entry)

    unlike : (p : ℕ) → (p ≡ at → ⊥) → key_in (set entries at entry) p ≡ key_in entries p
    unlike p differs = key_in-set_other entries at p entry differs

    here : key_in (set entries at entry) at ≡ Some entry.key
    here = key_in-set_same entries at entry h.below

    spanned : (p : ℕ) → 0 < p → p < length (set entries at entry) → 0 < at → above p ≡ at
        → is_before cmp (key_in (set entries at entry) p) (key_in (set entries at entry) (above at)) ≡ false
    spanned p one lt some under =
        not_before_at cmp total (key_in (set entries at entry) p) (key_in (set entries at entry) (above at)) (key_in entries p) (key_in entries (above at))
        (unlike p (λ e. omega arith)) (unlike (above at) (λ e. omega arith)) (h.spanned p one (in_place p lt) some under)

    others : (p : ℕ) → 0 < p → p < length (set entries at entry) → (p ≡ at → ⊥) → (above p ≡ at → ⊥)
        → is_before cmp (key_in (set entries at entry) p) (key_in (set entries at entry) (above p)) ≡ false
    others p one lt f g =
        not_before_at cmp total (key_in (set entries at entry) p) (key_in (set entries at entry) (above p)) (key_in entries p) (key_in entries (above p)) (unlike p f)
        (unlike (above p) g) (h.others p one (in_place p lt) f g)

    pub is_rising : 0 < at → is_before cmp (Some entry.key) (key_in entries (above at)) ≡ true → IsRising cmp keys places entries at entry
    is_rising some rise = record {
      below = h.below;
      vertex = h.vertex;
      placed = h.placed;
      ordered = record { others = λ p one lt differs. by p one lt differs (cases_eq (above p) at); spanned = spanned };
    }
      where
        by : (p : ℕ) → 0 < p → p < length (set entries at entry) → (p ≡ at → ⊥) → (above p ≡ at) ⊎ (above p ≡ at → ⊥)
            → is_before cmp (key_in (set entries at entry) p) (key_in (set entries at entry) (above p)) ≡ false
        by p one lt differs (inr g) = others p one lt differs g
        by p one lt differs (inl e) =
            not_before_at cmp total (key_in (set entries at entry) p) (key_in (set entries at entry) (above p)) (key_in entries p) (Some entry.key) (unlike p differs)
            (ap (key_in (set entries at entry)) e ∙ here)
            (not_before-trans cmp total (key_in entries p) (key_in entries (above at)) (Some entry.key) (h.spanned p one (in_place p lt) some e)
            (one_before cmp total (Some entry.key) (key_in entries (above at)) rise))

    pub is_sinking : (0 < at → is_before cmp (Some entry.key) (key_in entries (above at)) ≡ false) → IsSinking cmp keys places entries at entry
    is_sinking stays = record {
      below = h.below;
      vertex = h.vertex;
      placed = h.placed;
      ordered = record { others = λ p one lt differs. by p one lt differs (cases_eq p at); spanned = spanned };
    }
      where
        by : (p : ℕ) → 0 < p → p < length (set entries at entry) → (above p ≡ at → ⊥) → (p ≡ at) ⊎ (p ≡ at → ⊥)
            → is_before cmp (key_in (set entries at entry) p) (key_in (set entries at entry) (above p)) ≡ false
        by p one lt g (inr f) = others p one lt f g
        by p one lt g (inl e) =
            not_before_at cmp total (key_in (set entries at entry) p) (key_in (set entries at entry) (above p)) (Some entry.key) (key_in entries (above at))
            (ap (key_in (set entries at entry)) e ∙ here) (ap (λ q. key_in (set entries at entry) (above q)) e ∙ unlike (above at) (λ f. omega arith)) (stays (omega arith))
