-- A vertex that stands on the path was led to again: the groups from its own on become one, and the search stays sound.
use Rattle.std.proofs.Common.{◌≡◌, ℕ, ◌<◌, ◌≤◌, ◌⊎◌, inl, inr, ⊎_elim, List, Contains, length, get_or, take, sym, ap, ◌∙◌, subst, arith}
use Rattle.std.proofs.lemmas.Bool.{cases_lt}
use Rattle.std.proofs.lemmas.List.{get_or-take, length-take, get_or_default}
use Rattle.pgr_parts.specs.declared.standing.Standing.TheVariants.{Waiting}
use Rattle.pgr_parts.specs.Trails.{Leads}
use Rattle.pgr_parts.specs.Grouping.{State, standing_of, IsNoEarlier, IsSound, HasFollowed, AllFollowed, AllFollowedBut, IsMerged}
use Rattle.pgr_parts.proofs.TrailLemmas.{leads_on}
use Rattle.pgr_parts.proofs.Places.{at_zero, Contains-take}

-- the state with fewer groups
abbrev pub merged : ℕ → State → State
merged count S = record S { firsts = take count S.firsts }

pub is_merged : (q : ℕ) (S S' : State) (e : IsMerged q S S') → S' ≡ merged e.count S
is_merged q S S' e =
    ap (λ x. record S' { standing = x }) e.standing ∙ (ap (λ x. record S' { standing = S.standing; path = x }) e.path
    ∙ (ap (λ x. record S' { standing = S.standing; path = S.path; leads = x }) e.leads ∙ ap (λ x. record S { firsts = x }) e.firsts))

module _ (lists : List (List ℕ)) (S : State) (s : IsSound lists S) (w q count : ℕ) (waiting : standing_of S w ≡ Waiting q)
    (low : (i : ℕ) → i < count → i < length S.firsts → get_or S.firsts i 0 ≤ q) (high : (i : ℕ) → count ≤ i → i < length S.firsts → q < get_or S.firsts i 0)
    (reach : (p : ℕ) → p < length S.path → Leads lists (get_or S.path p 0) w) where
  first_is : (f : ℕ) → Contains (take count S.firsts) f → Contains S.firsts f × (f ≤ q)
  first_is f there =
      let size = length-take count S.firsts in
      let old = Contains-take count S.firsts f there in
      let below : there.0 < count = omega (arith, there.1) in
      let value : get_or S.firsts there.0 0 ≡ f = get_or_default S.firsts there.0 0 f (omega (arith, there.1)) ∙ (sym (get_or-take count S.firsts there.0 f below) ∙ there.2) in
      (old, omega (arith, low there.0 below (omega (arith, there.1))))

  still_first : (f : ℕ) → Contains S.firsts f → f ≤ q → Contains (take count S.firsts) f
  still_first f there le =
      let value : get_or S.firsts there.0 0 ≡ f = at_zero S.firsts f there in
      let size = length-take count S.firsts in
      ⊎_elim (λ (below : there.0 < count). (there.0, omega (arith, there.1), get_or-take count S.firsts there.0 f below ∙ there.2))
      (λ past. absurd (let far = high there.0 past there.1 in omega arith)) (cases_lt there.0 count)

  weaker : (p r : ℕ) → IsNoEarlier S p r → IsNoEarlier (merged count S) p r
  weaker p r later = λ f there le. later f (first_is f there).0 le

  new_groups : (p r : ℕ) → p < length S.path → r < length S.path → IsNoEarlier (merged count S) p r → Leads lists (get_or S.path p 0) (get_or S.path r 0)
  new_groups p r lt lt' later = ⊎_elim
      (λ (past : q < p). (let here = s.on_path w q waiting in
      let onward : Leads lists (get_or S.path q 0) (get_or S.path r 0) = s.groups q r here.0 lt' (λ f there le. later f (still_first f there le) (omega arith)) in
      leads_on lists (get_or S.path p 0) w (get_or S.path r 0) (reach p lt) (subst (λ x. Leads lists x (get_or S.path r 0)) here.1 onward)))
      (λ (le : p ≤ q). s.groups p r lt lt' (λ f there before. later f (still_first f there (omega arith)) before)) (cases_lt q p)

  new_rising : (i j : ℕ) → i < j → j < length (take count S.firsts) → get_or (take count S.firsts) i 0 < get_or (take count S.firsts) j 0
  new_rising i j before lt =
      let size = length-take count S.firsts in
      omega (arith, get_or-take count S.firsts i 0 (omega arith), get_or-take count S.firsts j 0 (omega arith), s.rising i j before (omega arith))

  pub merged_sound : IsSound lists (merged count S)
  merged_sound = record {
    size_is = s.size_is;
    stands = s.stands;
    on_path = s.on_path;
    rising = new_rising;
    inside = λ f there. s.inside f (first_is f there).0;
    from_start = λ some. still_first 0 (s.from_start some) (omega arith);
    groups = new_groups;
    lead_is = s.lead_is;
    in_order = s.in_order;
    named_closed = s.named_closed;
    named_well = s.named_well;
    named_least = s.named_least;
    room = s.room;
  }

  by_case : (p x : ℕ) → (HasFollowed S p x ⊎ Contains S.leads (record { from = p; to = x })) ⊎ ((x ≡ w) × ((f : ℕ) → Contains S.firsts f → f ≤ p))
      → HasFollowed (merged count S) p x ⊎ Contains S.leads (record { from = p; to = x })
  by_case p x (inl (inl (inl named))) = inl (inl named)
  by_case p x (inl (inl (inr found))) = inl (inr (found.0, (found.1.0, weaker p found.0 found.1.1)))
  by_case p x (inl (inr lead)) = inr lead
  by_case p x (inr same) = inl (inr (q, (ap (standing_of S) same.0 ∙ waiting, (λ f there le. (first_is f there).1))))

  pub merged_followed : AllFollowedBut lists w S → AllFollowed lists (merged count S)
  merged_followed all p x lt there = by_case p x (all p x lt there)
