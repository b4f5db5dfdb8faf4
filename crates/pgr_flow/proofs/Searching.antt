-- One more vertex gets a level: the search stays sound.
use Rattle.std.proofs.Common.{◌≡◌, ℕ, ◌+◌, ◌<◌, ◌≤◌, inl, inr, ⊎_elim, Bool, true, List, [], ◌∷◌, ◌++◌, length, get_or, set, refl, sym, ap, ◌∙◌, subst, arith, Option, Some, None, is_some}
use Rattle.std.specs.List.{sum_by}
use Rattle.std.proofs.lemmas.Bool.{cases_eq, cases_lt}
use Rattle.std.proofs.lemmas.List.{get_or-set_same, get_or-set_other, length-set, get_or_append_left, get_or_push, length-append}
use Rattle.std.proofs.lemmas.List.Sums.{sum_by-set}
use Rattle.pgr_walks.specs.declared.link.LinkOf.{LinkOf}
use Rattle.pgr_flow.specs.Levels.{level_at, labelled, IsFedFrom, IsGrounded, IsPassed, Grows, one_if_none, IsSearched}
use Rattle.pgr_flow.proofs.Tight.{level_of}

pub labelled_some : (levels : List (Option ℕ)) (v level : ℕ) → level_at levels v ≡ Some level → labelled levels v ≡ true
labelled_some levels v level e = ap is_some e

pub grows_labelled : (old new : List (Option ℕ)) → Grows old new → (v : ℕ) → labelled old v ≡ true → labelled new v ≡ true
grows_labelled old new grows v h = let at = level_of (level_at old v) h in labelled_some new v at.0 (grows v at.0 at.1)

pub Grows-refl : (levels : List (Option ℕ)) → Grows levels levels
Grows-refl levels v level e = e

pub Grows-then : (a b c : List (Option ℕ)) → Grows a b → Grows b c → Grows a c
Grows-then a b c first second v level e = second v level (first v level e)

pub grows_set : (levels : List (Option ℕ)) (w l : ℕ) → level_at levels w ≡ None → Grows levels (set levels w (Some l))
grows_set levels w l none v level e = ⊎_elim
    (λ (same : v ≡ w). absurd (let clash : None ≡ Some level = sym none ∙ (ap (level_at levels) (sym same) ∙ e) in cc))
    (λ ne. get_or-set_other levels w v (Some l) None ne ∙ e)
    (cases_eq v w)

fed_grows : (arcs : List (LinkOf ℕ)) (flows : List ℕ) (old new : List (Option ℕ)) (level v : ℕ) → Grows old new → IsFedFrom arcs flows old level v
    → IsFedFrom arcs flows new level v
fed_grows arcs flows old new level v grows fed = record { start = fed.start; arc = fed.arc; way = fed.way; residual = fed.residual; level_is = grows fed.start level fed.level_is }

pub grounded_grows : (arcs : List (LinkOf ℕ)) (flows : List ℕ) (source : ℕ → Bool) (old new : List (Option ℕ)) (v level : ℕ) → Grows old new
    → IsGrounded arcs flows source old v level → IsGrounded arcs flows source new v level
grounded_grows arcs flows source old new v level grows g =
    ⊎_elim (λ root. inl root) (λ fed. inr (fed.0, fed.1, fed_grows arcs flows old new fed.0 v grows fed.2)) g

passed_grows : (arcs : List (LinkOf ℕ)) (flows : List ℕ) (old new : List (Option ℕ)) (v : ℕ) → Grows old new → IsPassed arcs flows old v → IsPassed arcs flows new v
passed_grows arcs flows old new v grows passed k way w r = grows_labelled old new grows w (passed k way w r)

module _ (arcs : List (LinkOf ℕ)) (flows : List ℕ) (source : ℕ → Bool) (size : ℕ) (levels : List (Option ℕ)) (queue : List ℕ) (head bound : ℕ)
    (s : IsSearched arcs flows source size levels queue head bound) where
  -- no place of the queue is above the size
  pub queue_small : length queue ≤ size
  queue_small = omega (arith, s.counted)

  module _ (w l : ℕ) (below : w < size) (none : level_at levels w ≡ None) (small : l ≤ bound) (grounded : IsGrounded arcs flows source levels w l) where
    new : List (Option ℕ)
    new = set levels w (Some l)

    grows : Grows levels (set levels w (Some l))
    grows = grows_set levels w l none

    here : level_at (set levels w (Some l)) w ≡ Some l
    here = get_or-set_same levels w (Some l) None (omega (arith, s.size_is))

    elsewhere : (v : ℕ) → (v ≡ w → ⊥) → level_at (set levels w (Some l)) v ≡ level_at levels v
    elsewhere v ne = get_or-set_other levels w v (Some l) None ne

    level_is : (v level : ℕ) → v ≡ w → level_at (set levels w (Some l)) v ≡ Some level → level ≡ l
    level_is v level same e = let at : Some level ≡ Some l = sym e ∙ (ap (level_at (set levels w (Some l))) same ∙ here) in cc

    old_place : (i : ℕ) → i < length queue → get_or (queue ++ w ∷ []) i 0 ≡ get_or queue i 0
    old_place i lt = get_or_append_left queue (w ∷ []) 0 i lt

    new_place : get_or (queue ++ w ∷ []) (length queue) 0 ≡ w
    new_place = get_or_push queue w 0 (length queue) refl

    longer : length (queue ++ w ∷ []) ≡ length queue + 1
    longer = length-append queue (w ∷ [])

    counts : length (queue ++ w ∷ []) + sum_by one_if_none (set levels w (Some l)) ≡ size
    counts = omega (arith, longer, s.counted, sum_by-set one_if_none levels w (Some l) None (omega (arith, s.size_is)), ap one_if_none none)

    pub searched_more : head ≤ length queue → IsSearched arcs flows source size (set levels w (Some l)) (queue ++ w ∷ []) head bound
    searched_more in_queue = record {
      size_is = length-set levels w (Some l) ∙ s.size_is;
      counted = counts;
      queued = λ i lt. ⊎_elim
          (λ (old : i < length queue). ap (labelled (set levels w (Some l))) (old_place i old)
          ∙ grows_labelled levels (set levels w (Some l)) grows (get_or queue i 0) (s.queued i old))
          (λ (past : length queue ≤ i). (let is : i ≡ length queue = omega (arith, longer) in
          ap (λ x. labelled (set levels w (Some l)) (get_or (queue ++ w ∷ []) x 0)) is ∙ (ap (labelled (set levels w (Some l))) new_place ∙ ap is_some here)))
          (cases_lt i (length queue));
      listed = λ v level e. ⊎_elim
          (λ (same : v ≡ w). (length queue, omega (arith, longer), new_place ∙ sym same))
          (λ ne. (let there = s.listed v level (sym (elsewhere v ne) ∙ e) in (there.0, omega (arith, longer, there.1), old_place there.0 there.1 ∙ there.2)))
          (cases_eq v w);
      passed = λ i lt. subst (IsPassed arcs flows (set levels w (Some l))) (sym (old_place i (omega arith)))
          (passed_grows arcs flows levels (set levels w (Some l)) (get_or queue i 0) grows (s.passed i lt));
      grounded = λ v level e. ⊎_elim
          (λ (same : v ≡ w). (let P : ℕ → Type 0 = λ x. IsGrounded arcs flows source (set levels w (Some l)) v x in subst P (sym (level_is v level same e))
          (subst (λ x. IsGrounded arcs flows source (set levels w (Some l)) x l) (sym same) (grounded_grows arcs flows source levels (set levels w (Some l)) w l grows grounded))))
          (λ ne. grounded_grows arcs flows source levels (set levels w (Some l)) v level grows (s.grounded v level (sym (elsewhere v ne) ∙ e)))
          (cases_eq v w);
      low = λ v level e. ⊎_elim
          (λ (same : v ≡ w). omega (arith, level_is v level same e))
          (λ ne. s.low v level (sym (elsewhere v ne) ∙ e))
          (cases_eq v w);
    }
