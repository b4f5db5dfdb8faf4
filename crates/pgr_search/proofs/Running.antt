-- A search under way over the lists that it fills: how it begins, what one turn does, and what holds at its bound.
use Rattle.std.proofs.Common.{◌≡◌, ℕ, ◌+◌, ◌<◌, ◌≤◌, ◌^◌, ◌⊎◌, inl, inr, ⊎_elim, cond, List, Option, Some, None, IsNone, IsSome, All, Contains, length, get_or, set, refl, sym, ap, ◌∙◌, subst, arith}
use Rattle.std.specs.Option.{is_none}
use Rattle.std.specs.List.{count_by}
use Rattle.std.proofs.lemmas.Bool.{cases_eq, cases_lt, false≢true}
use Rattle.std.proofs.lemmas.Option.{same_Some, none-some}
use Rattle.std.proofs.lemmas.List.{get_or-set_same, get_or-set_other, length-set, get_or_past}
use Rattle.std.proofs.lemmas.List.Elements.{Contains-get_or}
use Rattle.std.proofs.lemmas.List.Sums.{sum_by-set}
use Rattle.pgr_walks.specs.declared.link.LinkOf.{LinkOf}
use Rattle.pgr_walks.specs.declared.label.Label.{Label}
use Rattle.pgr_walks.specs.Label.{AtMost, LeadsTo, IsLeastLabel, IsLabel, label_of, beyond}
use Rattle.pgr_walks.specs.Graph.{IsLinkOf, IsLawful, Fits, greatest}
use Rattle.pgr_search.specs.declared.bound.Bound.{Bound}
use Rattle.pgr_search.specs.declared.bound.Bound.TheVariants.{Everywhere, Wanted, Limit}
use Rattle.pgr_search.specs.declared.heap.Waiting.{Waiting}
use Rattle.pgr_search.specs.FinalLabels.{label_at, HoldsLabelsUpTo, MeetsBound}
use Rattle.pgr_search.specs.Relaxing.{label_cmp, all_relaxed, CanRelax}
use Rattle.pgr_search.specs.Start.{StartsAt}
use Rattle.pgr_search.specs.Heap.{IsLeast}
use Rattle.pgr_search.specs.Turn.{HasReached, IsBefore, IsOver}
use Rattle.pgr_search.proofs.LabelOrder.{AtMost-refl, AtMost-trans, not_less}
use Rattle.pgr_search.specs.Estimates.{keyed}
use Rattle.pgr_search.proofs.LabelSetting.{IsSearch, IsNext, IsRelaxed, SomeWaits, search_begins, one_more_settled, all_settled, walk_waits, next_is_least}
use Rattle.pgr_search.proofs.Listing.{no_label}
use Rattle.pgr_search.proofs.Relaxed.{all_relaxed_step}
use Rattle.pgr_search.proofs.Shown.{length-all_relaxed}

-- a search without an estimate
abbrev pub no_estimate : ℕ → ℕ
no_estimate v = 0

estimates_nothing : (Has : LinkOf ℕ → Type 0) (link : LinkOf ℕ) → Has link → no_estimate link.to ≤ no_estimate link.from + link.cost
estimates_nothing Has link has = omega arith

with_nothing : (v u : ℕ) (a b : Label) → AtMost a b → AtMost (keyed no_estimate v a) (keyed no_estimate u b)
with_nothing v u a b (inl less) = inl (omega (arith, less))
with_nothing v u a b (inr same) = inr (omega (arith, same.0), same.1)

without_nothing : (v u : ℕ) (a b : Label) → AtMost (keyed no_estimate v a) (keyed no_estimate u b) → AtMost a b
without_nothing v u a b (inl less) = inl (omega (arith, less))
without_nothing v u a b (inr same) = inr (omega (arith, same.0), same.1)

-- what the bound makes of the labels of settled vertices at each turn
abbrev pub IsKept : Bound → List (Option Label) → Type 0
IsKept Everywhere settled = Unit {0}
IsKept (Wanted wanted) settled = (v : ℕ) (label : Label) → label_at settled v ≡ Some label
    → (w : ℕ) × (Contains wanted.now w × ((other : Label) → label_at settled w ≡ Some other → AtMost label other))
IsKept (Limit limit) settled = (v : ℕ) (label : Label) → label_at settled v ≡ Some label → label.cost ≤ limit

-- a search under way whose lists have a place for each vertex
pub record IsRunning (size : ℕ) (ins : ℕ → List (LinkOf ℕ)) (targets : List ℕ) (bound : Bound) (settled waiting : List (Option Label)) : Type 0 where
  pub settled_len : length settled ≡ size
  pub waiting_len : length waiting ≡ size
  pub search : IsSearch (IsLinkOf size ins) targets no_estimate (label_at settled) (label_at waiting)
  pub kept : IsKept bound settled

-- at first the bound asks nothing
none_kept : (bound : Bound) (settled : List (Option Label)) → ((v : ℕ) → label_at settled v ≡ None) → IsKept bound settled
none_kept Everywhere settled none = tt
none_kept (Wanted wanted) settled none = λ v label e. absurd (none-some label (sym (none v) ∙ e))
none_kept (Limit limit) settled none = λ v label e. absurd (none-some label (sym (none v) ∙ e))

pub starts_running : (size : ℕ) (ins : ℕ → List (LinkOf ℕ)) (targets : List ℕ) (bound : Bound) (settled waiting : List (Option Label)) → length settled ≡ size
    → length waiting ≡ size → All IsNone settled → StartsAt targets waiting → IsRunning size ins targets bound settled waiting
starts_running size ins targets bound settled waiting settled_len waiting_len none s = record {
  settled_len = settled_len;
  waiting_len = waiting_len;
  search = search_begins (IsLinkOf size ins) targets no_estimate (label_at settled) (label_at waiting) (no_label settled none) s.marked s.others;
  kept = none_kept bound settled (no_label settled none);
}

-- nothing is reached yet
pub starts_reached : (bound : Bound) (settled : List (Option Label)) → HasReached bound settled 0
starts_reached Everywhere settled = tt
starts_reached (Wanted wanted) settled = record { few = omega arith; reached = λ k lt. absurd (omega arith) }
starts_reached (Limit limit) settled = tt

-- the vertex of least label among those that wait
next_of : (waiting : List (Option Label)) (nearest : Waiting Label) → IsLeast label_cmp waiting nearest → IsNext no_estimate (label_at waiting) nearest.vertex nearest.key
next_of waiting nearest n = record {
  waits = n.waits;
  least = λ u other e. with_nothing nearest.vertex u nearest.key other (not_less other nearest.key (n.least u other e));
}

-- a vertex with a label has a place
has_place : (labels : List (Option Label)) (v : ℕ) (label : Label) → label_at labels v ≡ Some label → v < length labels
has_place labels v label e = ⊎_elim (λ lt. lt) (λ past. absurd (none-some label (sym (get_or_past labels v None past) ∙ e))) (cases_lt v (length labels))

module _ (size : ℕ) (outs ins : ℕ → List (LinkOf ℕ)) (lawful : IsLawful size outs ins) (targets : List ℕ) (bound : Bound) (settled waiting : List (Option Label))
    (r : IsRunning size ins targets bound settled waiting) (nearest : Waiting Label) (n : IsLeast label_cmp waiting nearest) where
  pub nearest_below : nearest.vertex < size
  nearest_below = omega (arith, has_place waiting nearest.vertex nearest.key n.waits, r.waiting_len)

  pub nearest_waits : label_at settled nearest.vertex ≡ None
  nearest_waits = r.search.apart nearest.vertex nearest.key n.waits

  -- the links into it may be relaxed, since a least label is small
  pub round_fits : size < 2 ^ 32 → Fits (IsLinkOf size ins) → ((of : List ℕ) (v : ℕ) (label : Label) → v < size → IsLeastLabel (IsLinkOf size ins) of v label
      → (label.cost ≤ greatest) × (label.hops < size)) → All (CanRelax size nearest.key) (ins nearest.vertex)
  round_fits few fits small = λ k d lt. one (get_or (ins nearest.vertex) k d) (Contains-get_or (ins nearest.vertex) k d lt)
    where
      label_small : (nearest.key.cost ≤ greatest) × (nearest.key.hops < size)
      label_small = small targets nearest.vertex nearest.key nearest_below (next_is_least (IsLinkOf size ins) targets no_estimate (estimates_nothing (IsLinkOf size ins))
          (label_at settled) (label_at waiting) r.search nearest.vertex nearest.key (next_of waiting nearest n))

      one : (link : LinkOf ℕ) → Contains (ins nearest.vertex) link → CanRelax size nearest.key link
      one link has =
          let e = (lawful.at nearest.vertex nearest_below).in_ends link has in
          let here : Contains (ins link.to) link = subst (λ x. Contains (ins x) link) (sym e.0) has in
          let to_below : link.to < size = omega (arith, e.0, nearest_below) in
          let cost : link.cost ≤ greatest = fits.links link (to_below, here) in
          record {
            from_below = e.1;
            cost_fits = omega (arith, label_small.0, cost);
            hops_fit = omega (arith, label_small.1, few);
          }

  -- what was kept still is, since the vertex was before the bound
  still_kept : (bound : Bound) (settled_after : List (Option Label)) → ((v : ℕ) (label : Label) → label_at settled_after v ≡ Some label
      → (((v ≡ nearest.vertex) × (label ≡ nearest.key)) ⊎ (label_at settled v ≡ Some label)) × AtMost label nearest.key) → IsBefore bound settled nearest.key
      → IsKept bound settled → IsKept bound settled_after
  still_kept Everywhere settled_after was before kept = tt
  still_kept (Wanted wanted) settled_after was (w, has, free) kept = λ v label e. (w, (has, λ other f. at v label (was v label e).1 other (was w other f).0))
    where
      at : (v : ℕ) (label : Label) → AtMost label nearest.key → (other : Label) → ((w ≡ nearest.vertex) × (other ≡ nearest.key)) ⊎ (label_at settled w ≡ Some other)
          → AtMost label other
      at v label within other (inl same) = subst (AtMost label) (sym same.1) within
      at v label within other (inr had) = absurd (none-some other (sym free ∙ had))
  still_kept (Limit limit) settled_after was before kept = λ v label e. at v label (was v label e).0
    where
      at : (v : ℕ) (label : Label) → ((v ≡ nearest.vertex) × (label ≡ nearest.key)) ⊎ (label_at settled v ≡ Some label) → label.cost ≤ limit
      at v label (inl same) = subst (λ l. l.cost ≤ limit) (sym same.1) before
      at v label (inr had) = kept v label had

  module _ (settled_after waiting_after : List (Option Label)) (settled_is : settled_after ≡ set settled nearest.vertex (Some nearest.key))
      (waiting_is : waiting_after ≡ all_relaxed settled_after (set waiting nearest.vertex None) nearest.key (ins nearest.vertex)) where
    settled_here : label_at settled_after nearest.vertex ≡ Some nearest.key
    settled_here = ap (λ xs. label_at xs nearest.vertex) settled_is ∙ get_or-set_same settled nearest.vertex (Some nearest.key) None (omega (arith, nearest_below, r.settled_len))

    settled_other : (v : ℕ) → (v ≡ nearest.vertex → ⊥) → label_at settled_after v ≡ label_at settled v
    settled_other v differs = ap (λ xs. label_at xs v) settled_is ∙ get_or-set_other settled nearest.vertex v (Some nearest.key) None differs

    without_len : length (set waiting nearest.vertex None) ≡ size
    without_len = length-set waiting nearest.vertex None ∙ r.waiting_len

    -- the links into the vertex are those among the links into it
    relaxes : IsRelaxed (λ link. IsLinkOf size ins link × (link.to ≡ nearest.vertex)) nearest.key (label_at settled_after) (label_at (set waiting nearest.vertex None))
        (label_at waiting_after)
    relaxes = subst (λ xs. IsRelaxed (λ link. IsLinkOf size ins link × (link.to ≡ nearest.vertex)) nearest.key (label_at settled_after)
        (label_at (set waiting nearest.vertex None)) (label_at xs)) (sym waiting_is) (record {
          kept = λ v new e. kept v new (one.kept v new e);
          lowers = one.lowers;
          each = λ link h. one.each link (subst (λ x. Contains (ins x) link) h.1 h.0.1);
        })
      where
        ends : (link : LinkOf ℕ) → Contains (ins nearest.vertex) link → (link.to ≡ nearest.vertex) × (link.from < size)
        ends = (lawful.at nearest.vertex nearest_below).in_ends

        one : IsRelaxed (Contains (ins nearest.vertex)) nearest.key (label_at settled_after) (label_at (set waiting nearest.vertex None))
            (label_at (all_relaxed settled_after (set waiting nearest.vertex None) nearest.key (ins nearest.vertex)))
        one = all_relaxed_step settled_after (set waiting nearest.vertex None) nearest.key (ins nearest.vertex) (λ link has. omega (arith, (ends link has).1, without_len))

        kept : (v : ℕ) (new : Label) → (label_at (set waiting nearest.vertex None) v ≡ Some new)
            ⊎ ((link : LinkOf ℕ) × (Contains (ins nearest.vertex) link × (link.from ≡ v) × (new ≡ beyond nearest.key link) × (label_at settled_after v ≡ None)))
            → (label_at (set waiting nearest.vertex None) v ≡ Some new) ⊎ ((link : LinkOf ℕ)
            × ((IsLinkOf size ins link × (link.to ≡ nearest.vertex)) × (link.from ≡ v) × (new ≡ beyond nearest.key link) × (label_at settled_after v ≡ None)))
        kept v new (inl was) = inl was
        kept v new (inr (link, h)) =
            let to = (ends link h.0).0 in
            inr (link, (((omega (arith, to, nearest_below), subst (λ x. Contains (ins x) link) (sym to) h.0), to), h.1, h.2, h.3))

    -- which vertices are settled after, and that none of them is beyond the vertex
    was : (v : ℕ) (label : Label) → label_at settled_after v ≡ Some label
        → (((v ≡ nearest.vertex) × (label ≡ nearest.key)) ⊎ (label_at settled v ≡ Some label)) × AtMost label nearest.key
    was v label e = at (cases_eq v nearest.vertex)
      where
        at : (v ≡ nearest.vertex) ⊎ (v ≡ nearest.vertex → ⊥) → (((v ≡ nearest.vertex) × (label ≡ nearest.key)) ⊎ (label_at settled v ≡ Some label)) × AtMost label nearest.key
        at (inl same) =
            let is : label ≡ nearest.key = same_Some label nearest.key (sym e ∙ ap (label_at settled_after) same ∙ settled_here) in
            (inl (same, is), subst (λ l. AtMost l nearest.key) (sym is) (AtMost-refl nearest.key))
        at (inr differs) =
            let had : label_at settled v ≡ Some label = sym (settled_other v differs) ∙ e in
            (inr had, without_nothing v nearest.vertex label nearest.key (r.search.ordered v nearest.vertex label nearest.key had n.waits))

    -- the search is running after the turn
    pub round_running : IsBefore bound settled nearest.key → IsRunning size ins targets bound settled_after waiting_after
    round_running before = record {
      settled_len = ap length settled_is ∙ length-set settled nearest.vertex (Some nearest.key) ∙ r.settled_len;
      waiting_len = ap length waiting_is ∙ length-all_relaxed settled_after (set waiting nearest.vertex None) nearest.key (ins nearest.vertex) ∙ without_len;
      search = one_more_settled (IsLinkOf size ins) targets no_estimate (estimates_nothing (IsLinkOf size ins)) (label_at settled)
          (label_at waiting) r.search nearest.vertex nearest.key (next_of waiting nearest n)
          (label_at settled_after) (label_at (set waiting nearest.vertex None)) (label_at waiting_after) settled_here settled_other
          (get_or-set_same waiting nearest.vertex None None (omega (arith, nearest_below, r.waiting_len)))
          (λ v differs. get_or-set_other waiting nearest.vertex v None None differs) relaxes;
      kept = still_kept bound settled_after was before r.kept;
    }

    -- one vertex less is left
    pub fewer_left : count_by is_none settled_after < count_by is_none settled
    fewer_left =
        let less = sum_by-set (λ (o : Option Label). cond (is_none o) 1 0) settled nearest.vertex (Some nearest.key) None (omega (arith, nearest_below, r.settled_len)) in
        let one : ◌≡◌ {A = ℕ} (cond (is_none (label_at settled nearest.vertex)) 1 0) 1 = ap (λ (o : Option Label). cond (is_none o) 1 0) nearest_waits in
        omega (arith, less, one, ap (count_by is_none) settled_is)

-- where the least label is beyond a limit each is
pub beyond_limit : (limit : ℕ) (waiting : List (Option Label)) (nearest : Waiting Label) → IsLeast label_cmp waiting nearest → limit < nearest.key.cost
    → (v : ℕ) (label : Label) → label_at waiting v ≡ Some label → limit < label.cost
beyond_limit limit waiting nearest n lt v label e = at (not_less label nearest.key (n.least v label e))
  where
    at : AtMost nearest.key label → limit < label.cost
    at (inl less) = omega arith
    at (inr same) = omega (arith, same.0)

-- what was reached stays reached
pub still_reached : (bound : Bound) (settled settled_after : List (Option Label)) (count v : ℕ) (label : Label) → v < length settled
    → settled_after ≡ set settled v (Some label) → HasReached bound settled count → HasReached bound settled_after count
still_reached Everywhere settled settled_after count v label below is h = tt
still_reached (Limit limit) settled settled_after count v label below is h = tt
still_reached (Wanted wanted) settled settled_after count v label below is h = record {
  few = h.few;
  reached = λ k lt. at (get_or wanted.now k 0) (h.reached k lt) (cases_eq (get_or wanted.now k 0) v);
}
  where
    at : (w : ℕ) → IsSome (label_at settled w) → (w ≡ v) ⊎ (w ≡ v → ⊥) → IsSome (label_at settled_after w)
    at w some (inl same) =
        subst IsSome (sym (ap (λ xs. label_at xs w) is ∙ ap (label_at (set settled v (Some label))) same ∙ get_or-set_same settled v (Some label) None below)) refl
    at w some (inr differs) = subst IsSome (sym (ap (λ xs. label_at xs w) is ∙ get_or-set_other settled v w (Some label) None differs)) some

-- a vertex that has a label
has_label : (o : Option Label) → IsSome o → (label : Label) × (o ≡ Some label)
has_label None e = absurd (false≢true e)
has_label (Some label) e = (label, refl)

module _ (size : ℕ) (ins : ℕ → List (LinkOf ℕ)) (targets : List ℕ) (bound : Bound) (settled waiting : List (Option Label))
    (r : IsRunning size ins targets bound settled waiting) where
  some_waits : (v : ℕ) (walk : List (LinkOf ℕ)) → label_at settled v ≡ None → LeadsTo (IsLinkOf size ins) targets v walk
      → SomeWaits no_estimate (label_at waiting) v (label_of walk)
  some_waits v walk e leads =
      walk_waits (IsLinkOf size ins) targets no_estimate (estimates_nothing (IsLinkOf size ins)) (label_at settled) (label_at waiting) r.search v walk e leads

  -- at any turn the labels are final up to some label
  pub labels_up_to : HoldsLabelsUpTo size (IsLinkOf size ins) targets settled
  labels_up_to = record {
    final = record {
      size_is = r.settled_len;
      least = r.search.least;
      along = λ v link rest e leads. (let has = r.search.along v link rest e leads in subst IsSome (sym has.1) refl);
    };
    others = λ v walk below e leads u label has. (let some = some_waits v walk e leads in
        AtMost-trans label some.label (label_of walk) (without_nothing u some.vertex label some.label (r.search.ordered u some.vertex label some.label has some.waits))
        (without_nothing some.vertex v some.label (label_of walk) some.at_most));
  }

  -- where no vertex waits
  all_final : All IsNone waiting → (v : ℕ) → IsLabel (IsLinkOf size ins) targets v (label_at settled v)
  all_final none = all_settled (IsLinkOf size ins) targets no_estimate (estimates_nothing (IsLinkOf size ins)) (label_at settled) (label_at waiting) r.search
      (λ v label e. none-some label (sym (no_label waiting none v) ∙ e))

  -- where a vertex is settled
  final_at : (v : ℕ) → IsSome (label_at settled v) → IsLabel (IsLinkOf size ins) targets v (label_at settled v)
  final_at v some =
      let has = has_label (label_at settled v) some in
      subst (IsLabel (IsLinkOf size ins) targets v) (sym has.1) (r.search.least v has.0 has.1)

  -- at the bound
  meets : (bound : Bound) → IsKept bound settled → IsOver bound settled waiting → MeetsBound size (IsLinkOf size ins) targets bound settled
  meets Everywhere kept over = λ v below. all_final over v
  meets (Wanted wanted) kept over = record { final = final over; none_beyond = kept }
    where
      final : All IsNone waiting ⊎ ((w : ℕ) → Contains wanted.now w → IsSome (label_at settled w)) → (w : ℕ) → Contains wanted.now w
          → IsLabel (IsLinkOf size ins) targets w (label_at settled w)
      final (inl none) w has = all_final none w
      final (inr all) w has = final_at w (all w has)
  meets (Limit limit) kept over = record {
    within = kept;
    beyond_it = λ v walk below e leads. (let some = some_waits v walk e leads in
        at some.label (label_of walk) (over some.vertex some.label some.waits) (without_nothing some.vertex v some.label (label_of walk) some.at_most));
  }
    where
      at : (a b : Label) → limit < a.cost → AtMost a b → limit < b.cost
      at a b lt (inl less) = omega arith
      at a b lt (inr same) = omega (arith, same.0)

  pub meets_bound : IsOver bound settled waiting → MeetsBound size (IsLinkOf size ins) targets bound settled
  meets_bound over = meets bound r.kept over
