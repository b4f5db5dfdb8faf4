-- A vertex that was found becomes a group of its own: the search stays sound.
use Rattle.std.proofs.Common.{◌≡◌, ℕ, ◌+◌, ◌-◌, ◌<◌, ◌≤◌, ◌++◌, ◌⊎◌, inl, inr, ⊎_elim, List, [], ◌∷◌, Contains, length, get_or, set, refl, sym, ap, ◌∙◌, subst, subst₂, arith, cond, count_by}
use Rattle.std.specs.List.{AllPairs}
use Rattle.std.proofs.lemmas.Bool.{cases_eq, cases_lt}
use Rattle.std.proofs.lemmas.List.{get_or-set_same, get_or-set_other, length-set, get_or_append_left, get_or_push, get_or-append_right, length-append}
use Rattle.std.proofs.lemmas.List.Elements.{Contains-push_cases, Contains-push, Contains-append_left, Contains-append_right, Contains-append_cases, Contains-get_or}
use Rattle.std.proofs.lemmas.List.Sums.{sum_by-set}
use Rattle.pgr_parts.specs.declared.standing.Standing.{Standing}
use Rattle.pgr_parts.specs.declared.standing.Standing.TheVariants.{Unseen, Waiting, Named}
use Rattle.pgr_parts.specs.declared.lead.Lead.{Lead}
use Rattle.pgr_parts.specs.Standings.{is_unseen, leads_from_place}
use Rattle.pgr_parts.specs.Trails.{Leads}
use Rattle.pgr_parts.specs.Grouping.{State, standing_of, IsNoEarlier, IsSound, HasFollowed, AllFollowed, AllFollowedBut, StaysFound, IsFound, IsEntered}
use Rattle.pgr_parts.proofs.TrailLemmas.{leads_to_itself}
use Rattle.pgr_outside.proofs.Lists.{Contains-map, Contains-from_map}

-- the state with the vertex entered
abbrev pub entered : List ℕ → ℕ → State → State
entered list v S = record {
  standing = set S.standing v (Waiting (length S.path));
  path = S.path ++ v ∷ [];
  firsts = S.firsts ++ length S.path ∷ [];
  leads = S.leads ++ leads_from_place (length S.path) list;
}

pub is_entered : (list : List ℕ) (v : ℕ) (S S' : State) → IsEntered list v S S' → S' ≡ entered list v S
is_entered list v S S' e =
    ap (λ x. record S' { standing = x }) e.standing ∙ (ap (λ x. record S' { standing = set S.standing v (Waiting (length S.path)); path = x }) e.path
    ∙ (ap (λ x. record S' { standing = set S.standing v (Waiting (length S.path)); path = S.path ++ v ∷ []; firsts = x }) e.firsts
    ∙ ap (λ x. record (entered list v S) { leads = x }) e.leads))

module _ (lists : List (List ℕ)) (S : State) (s : IsSound lists S) (v : ℕ) (below : v < length lists) (unseen : standing_of S v ≡ Unseen)
    (reach : (p : ℕ) → p < length S.path → Leads lists (get_or S.path p 0) v) where
  k : ℕ
  k = length S.path

  abbrev pub T : State
  T = entered (get_or lists v []) v S

  here : standing_of T v ≡ Waiting k
  unfolding k
  here = get_or-set_same S.standing v (Waiting (length S.path)) Unseen (omega (arith, s.size_is))

  elsewhere : (u : ℕ) → (u ≡ v → ⊥) → standing_of T u ≡ standing_of S u
  elsewhere u ne = get_or-set_other S.standing v u (Waiting (length S.path)) Unseen ne

  -- what stood in another way than unseen is another vertex, and stands so still
  kept : (u : ℕ) (t : Standing) → (Unseen ≡ t → ⊥) → standing_of S u ≡ t → standing_of T u ≡ t
  kept u t differs is = ⊎_elim (λ (same : u ≡ v). absurd (differs (sym unseen ∙ (ap (standing_of S) (sym same) ∙ is)))) (λ ne. elsewhere u ne ∙ is) (cases_eq u v)

  -- what is named now was named
  was_named : (u m : ℕ) → standing_of T u ≡ Named m → standing_of S u ≡ Named m
  unfolding k
  was_named u m is = ⊎_elim (λ (same : u ≡ v). (let clash : Waiting (length S.path) ≡ Named m = sym here ∙ ap (standing_of T) (sym same) ∙ is in absurd (cc)))
      (λ ne. sym (elsewhere u ne) ∙ is) (cases_eq u v)

  old_place : (p : ℕ) → p < k → get_or T.path p 0 ≡ get_or S.path p 0
  unfolding k
  old_place p lt = get_or_append_left S.path (v ∷ []) 0 p lt

  new_place : get_or T.path k 0 ≡ v
  unfolding k
  new_place = get_or_push S.path v 0 (length S.path) refl

  size : length T.path ≡ k + 1
  unfolding k
  size = length-append S.path (v ∷ [])

  -- an old place, or the new one
  place_cases : (p : ℕ) → p < length T.path → (p < k) ⊎ (p ≡ k)
  place_cases p lt = ⊎_elim (λ old. inl old) (λ past. inr (omega (arith, size))) (cases_lt p k)

  first_cases : (f : ℕ) → Contains T.firsts f → Contains S.firsts f ⊎ (k ≡ f)
  unfolding k
  first_cases f there = Contains-push_cases S.firsts (length S.path) f there

  old_first : (f : ℕ) → Contains S.firsts f → Contains T.firsts f
  old_first f there = Contains-append_left S.firsts (length S.path ∷ []) f there

  k_first : Contains T.firsts k
  unfolding k
  k_first = Contains-push S.firsts (length S.path)

  lead_cases : (lead : Lead) → Contains T.leads lead → Contains S.leads lead ⊎ Contains (leads_from_place k (get_or lists v [])) lead
  unfolding k
  lead_cases lead there = Contains-append_cases S.leads (leads_from_place (length S.path) (get_or lists v [])) lead there

  in_k : (p : ℕ) → p < length S.path → p < k
  unfolding k
  in_k p h = h

  from_k : (p : ℕ) → p < k → p < length S.path
  unfolding k
  from_k p h = h

  new_stands : (p : ℕ) → p < length T.path → standing_of T (get_or T.path p 0) ≡ Waiting p
  new_stands p lt = ⊎_elim
      (λ (old : p < k). ap (standing_of T) (old_place p old) ∙ kept (get_or S.path p 0) (Waiting p) (λ e. (cc)) (s.stands p (from_k p old)))
      (λ (is : p ≡ k). ap (λ x. standing_of T (get_or T.path x 0)) is ∙ (ap (standing_of T) new_place ∙ (here ∙ ap Waiting (sym is)))) (place_cases p lt)

  new_on_path : (u p : ℕ) → standing_of T u ≡ Waiting p → (p < length T.path) × (get_or T.path p 0 ≡ u)
  new_on_path u p is = ⊎_elim
      (λ (same : u ≡ v). (let e : Waiting k ≡ Waiting p = sym here ∙ (ap (standing_of T) (sym same) ∙ is) in let at : k ≡ p = cc in
      (omega (arith, size), ap (λ x. get_or T.path x 0) (sym at) ∙ (new_place ∙ sym same))))
      (λ ne. (let old = s.on_path u p (sym (elsewhere u ne) ∙ is) in let lt : p < k = in_k p old.0 in (omega (arith, size), old_place p lt ∙ old.1))) (cases_eq u v)

  first_size : length T.firsts ≡ length S.firsts + 1
  first_size = length-append S.firsts (length S.path ∷ [])

  old_first_at : (i : ℕ) → i < length S.firsts → get_or T.firsts i 0 ≡ get_or S.firsts i 0
  old_first_at i lt = get_or_append_left S.firsts (length S.path ∷ []) 0 i lt

  new_first_at : get_or T.firsts (length S.firsts) 0 ≡ k
  unfolding k
  new_first_at = get_or_push S.firsts (length S.path) 0 (length S.firsts) refl

  new_rising : (i j : ℕ) → i < j → j < length T.firsts → get_or T.firsts i 0 < get_or T.firsts j 0
  new_rising i j before lt = ⊎_elim
      (λ (old : j < length S.firsts). omega (arith, old_first_at i (omega arith), old_first_at j old, s.rising i j before old))
      (λ (past : length S.firsts ≤ j). (let is : j ≡ length S.firsts = omega (arith, first_size) in
      let inner : get_or S.firsts i 0 < k = in_k _ (s.inside _ (Contains-get_or S.firsts i 0 (omega arith))) in
      subst (λ x. get_or T.firsts i 0 < get_or T.firsts x 0) (sym is) (omega (arith, old_first_at i (omega arith), new_first_at)))) (cases_lt j (length S.firsts))

  new_inside : (f : ℕ) → Contains T.firsts f → f < length T.path
  new_inside f there = ⊎_elim (λ old. (let lt = in_k f (s.inside f old) in omega (arith, size))) (λ (is : k ≡ f). omega (arith, size)) (first_cases f there)

  new_from_start : Contains T.firsts 0
  new_from_start = ⊎_elim (λ (some : 0 < k). old_first 0 (s.from_start (from_k 0 some)))
      (λ (none : k ≤ 0). (let is : k ≡ 0 = omega arith in subst (Contains T.firsts) is k_first)) (cases_lt 0 k)

  -- later groups among the old ones
  weaker : (p q : ℕ) → IsNoEarlier T p q → IsNoEarlier S p q
  weaker p q later = λ f there le. later f (old_first f there) le

  new_groups : (p q : ℕ) → p < length T.path → q < length T.path → IsNoEarlier T p q → Leads lists (get_or T.path p 0) (get_or T.path q 0)
  new_groups p q lt lt' later = by (place_cases p lt) (place_cases q lt')
    where
      by : (p < k) ⊎ (p ≡ k) → (q < k) ⊎ (q ≡ k) → Leads lists (get_or T.path p 0) (get_or T.path q 0)
      by (inl a) (inl b) = subst₂ (Leads lists) (sym (old_place p a)) (sym (old_place q b)) (s.groups p q (from_k p a) (from_k q b) (weaker p q later))
      by (inl a) (inr b) = subst₂ (Leads lists) (sym (old_place p a)) (sym (ap (λ x. get_or T.path x 0) b ∙ new_place)) (reach p (from_k p a))
      by (inr a) (inl b) = absurd (let far = later k k_first (omega arith) in omega arith)
      by (inr a) (inr b) = subst₂ (λ x y. Leads lists (get_or T.path x 0) (get_or T.path y 0)) (sym a) (sym b) (leads_to_itself lists (get_or T.path k 0))

  -- a lead of the new place
  new_lead : (lead : Lead) → Contains (leads_from_place k (get_or lists v [])) lead → (lead.from ≡ k) × Contains (get_or lists v []) lead.to
  new_lead lead there =
      let found = Contains-from_map (λ (w : ℕ). record { from = k; to = w }) (get_or lists v []) lead there in
      (ap (λ (l : Lead). l.from) found.2, subst (λ (l : Lead). Contains (get_or lists v []) l.to) (sym found.2) found.1)

  new_lead_is : (lead : Lead) → Contains T.leads lead → (lead.from < length T.path) × Contains (get_or lists (get_or T.path lead.from 0) []) lead.to
  new_lead_is lead there = ⊎_elim
      (λ old. (let is = s.lead_is lead old in let lt = in_k lead.from is.0 in
      (omega (arith, size), subst (λ x. Contains (get_or lists x []) lead.to) (sym (old_place lead.from lt)) is.1)))
      (λ new. (let is = new_lead lead new in (
        omega (arith, size, is.0),
        subst (λ x. Contains (get_or lists x []) lead.to)
            (sym (ap (λ x. get_or T.path x 0) is.0 ∙ new_place)) is.1,
      ))) (lead_cases lead there)

  -- the place of a lead
  old_lead_at : (i : ℕ) (d : Lead) → i < length S.leads → get_or T.leads i d ≡ get_or S.leads i d
  old_lead_at i d lt = get_or_append_left S.leads (leads_from_place (length S.path) (get_or lists v [])) d i lt

  all_leads : (i : ℕ) (d : Lead) → i < length T.leads → (get_or T.leads i d).from ≤ k
  all_leads i d lt = ⊎_elim
      (λ old. (let inner = in_k _ (s.lead_is (get_or T.leads i d) old).0 in omega arith))
      (λ new. (let is = (new_lead (get_or T.leads i d) new).0 in omega arith)) (lead_cases (get_or T.leads i d) (Contains-get_or T.leads i d lt))

  late_leads : (i : ℕ) (d : Lead) → length S.leads ≤ i → i < length T.leads → (get_or T.leads i d).from ≡ k
  unfolding k
  late_leads i d past lt =
      let new = leads_from_place (length S.path) (get_or lists v []) in
      let sizes : length (S.leads ++ new) ≡ length S.leads + length new = length-append S.leads new in
      let at : get_or (S.leads ++ new) i d ≡ get_or new (i - length S.leads) d = get_or-append_right S.leads new (length S.leads) i d refl past in
      ap (λ (l : Lead). l.from) at ∙ (new_lead (get_or new (i - length S.leads) d) (Contains-get_or new (i - length S.leads) d (omega arith))).0

  new_in_order : AllPairs (λ (a b : Lead). a.from ≤ b.from) T.leads
  new_in_order i j d before lt = ⊎_elim
      (λ (old : j < length S.leads). (let e = ap (λ (l : Lead). l.from) (old_lead_at i d (omega arith)) in let f = ap (λ (l : Lead). l.from) (old_lead_at j d old) in
      omega (arith, s.in_order i j d before old)))
      (λ (past : length S.leads ≤ j). omega (arith, all_leads i d (omega arith), late_leads j d past lt)) (cases_lt j (length S.leads))

  new_named_closed : (u m w : ℕ) → standing_of T u ≡ Named m → Contains (get_or lists u []) w → (n : ℕ) × (standing_of T w ≡ Named n)
  new_named_closed u m w is there = (let old = s.named_closed u m w (was_named u m is) there in (old.0, kept w (Named old.0) (λ e. (cc)) old.1))

  pub fewer : count_by is_unseen T.standing + 1 ≡ count_by is_unseen S.standing
  fewer =
      let counted = sum_by-set (λ t. cond (is_unseen t) 1 0) S.standing v (Waiting (length S.path)) Unseen (omega (arith, s.size_is)) in
      let one : ◌≡◌ {A = ℕ} (cond (is_unseen (get_or S.standing v Unseen)) 1 0) 1 = ap (λ t. cond (is_unseen t) 1 0) unseen in
      omega (arith, counted, one)

  new_room : length T.path + count_by is_unseen T.standing ≤ length lists
  unfolding k
  new_room = omega (arith, size, fewer, s.room)

  entered_size : length T.standing ≡ length lists
  entered_size = length-set S.standing v (Waiting (length S.path)) ∙ s.size_is

  pub entered_sound : IsSound lists T
  entered_sound = record {
    size_is = entered_size;
    stands = new_stands;
    on_path = new_on_path;
    rising = new_rising;
    inside = new_inside;
    from_start = λ some. new_from_start;
    groups = new_groups;
    lead_is = new_lead_is;
    in_order = new_in_order;
    named_closed = new_named_closed;
    named_well = λ u m is. s.named_well u m (was_named u m is);
    named_least = λ u m w is both. s.named_least u m w (was_named u m is) both;
    room = new_room;
  }

  -- an old place has followed what it had, and the vertex that was entered
  old_followed : (p w : ℕ) → p < k → (HasFollowed S p w ⊎ Contains S.leads (record { from = p; to = w })) ⊎ ((w ≡ v) × ((f : ℕ) → Contains S.firsts f → f ≤ p))
      → HasFollowed T p w ⊎ Contains T.leads (record { from = p; to = w })
  unfolding k
  old_followed p w lt (inl (inl (inl named))) = inl (inl (named.0, kept w (Named named.0) (λ e. (cc)) named.1))
  old_followed p w lt (inl (inl (inr found))) = inl (inr (
    found.0,
    (kept w (Waiting found.0) (λ e. (cc)) found.1.0, (λ f there le. ⊎_elim (λ old. found.1.1 f old le) (λ is. absurd (omega arith)) (first_cases f there))),
  ))
  old_followed p w lt (inl (inr lead)) = inr (Contains-append_left S.leads (leads_from_place (length S.path) (get_or lists v [])) (record { from = p; to = w }) lead)
  old_followed p w lt (inr same) = inl (inr (k, (ap (standing_of T) same.0 ∙ here, (λ f there le. omega arith))))

  pub entered_followed : AllFollowedBut lists v S → AllFollowed lists T
  unfolding k
  entered_followed all p w lt there = by (place_cases p lt)
    where
      by : (p < k) ⊎ (p ≡ k) → HasFollowed T p w ⊎ Contains T.leads (record { from = p; to = w })
      by (inl old) = old_followed p w old (all p w (from_k p old) (subst (λ x. Contains (get_or lists x []) w) (old_place p old) there))
      by (inr is) =
          let listed : Contains (get_or lists v []) w = subst (λ x. Contains (get_or lists x []) w) (ap (λ x. get_or T.path x 0) is ∙ new_place) there in
          let new = Contains-map (λ (x : ℕ). record { from = k; to = x }) (get_or lists v []) w listed in
          inr (subst (λ x. Contains T.leads (record { from = x; to = w })) (sym is)
          (Contains-append_right S.leads (leads_from_place (length S.path) (get_or lists v [])) (record { from = k; to = w }) new))

  pub entered_found : StaysFound S T
  entered_found u is = ⊎_elim (λ (same : u ≡ v). ap (standing_of S) same ∙ unseen) (λ ne. sym (elsewhere u ne) ∙ is) (cases_eq u v)

  pub entered_here : IsFound T v
  entered_here is = let clash : Unseen ≡ Waiting k = sym is ∙ here in cc
