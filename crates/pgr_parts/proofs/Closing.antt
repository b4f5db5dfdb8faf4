-- A last group without a lead is a class: its vertices get its name, and the search stays sound.
use Rattle.std.proofs.Common.{◌≡◌, ℕ, ◌+◌, ◌-◌, ◌<◌, ◌≤◌, ◌++◌, ◌⊎◌, inl, inr, ⊎_elim, List, [], ◌∷◌, Contains, length, get_or, take, drop, refl, sym, ap, ◌∙◌, subst, subst₂, arith}
use Rattle.std.specs.List.{AllPairs}
use Rattle.std.proofs.lemmas.Bool.{cases_lt}
use Rattle.std.proofs.lemmas.List.{get_or-take, length-take, get_or-drop, length-drop, get_or_append_left, get_or_push, length-append, get_or_default, take_all, take_more}
use Rattle.std.proofs.lemmas.List.Elements.{Contains-push_cases, Contains-push, Contains-append_left}
use Rattle.pgr_parts.specs.declared.standing.Standing.{Standing}
use Rattle.pgr_parts.specs.declared.standing.Standing.TheVariants.{Unseen, Waiting, Named}
use Rattle.pgr_parts.specs.declared.lead.Lead.{Lead}
use Rattle.pgr_parts.specs.Trails.{Leads, LeadBothWays}
use Rattle.pgr_parts.specs.Grouping.{State, standing_of, IsNoEarlier, IsSound, HasFollowed, AllFollowed, HasNoLead, IsClosed, StaysFound}
use Rattle.pgr_parts.proofs.TrailLemmas.{stays_along}
use Rattle.pgr_parts.proofs.Places.{standing_cases, before_last}

module _ (lists : List (List ℕ)) (S S' : State) (s : IsSound lists S) (all : AllFollowed lists S) (c : IsClosed S S') (none : HasNoLead S) where
  f : ℕ
  f = c.first

  f_first : Contains S.firsts f
  unfolding f
  f_first = subst (λ xs. Contains xs c.first) (sym c.firsts) (Contains-push S'.firsts c.first)

  f_inside : f < length S.path
  f_inside = s.inside f f_first

  -- an older group begins before
  older : (g : ℕ) → Contains S'.firsts g → g < f
  unfolding f
  older g there = before_last S.firsts S'.firsts c.first s.rising c.firsts g there

  old_first : (g : ℕ) → Contains S'.firsts g → Contains S.firsts g
  old_first g there = subst (λ xs. Contains xs g) (sym c.firsts) (Contains-append_left S'.firsts (c.first ∷ []) g there)

  first_cases : (g : ℕ) → Contains S.firsts g → Contains S'.firsts g ⊎ (f ≡ g)
  unfolding f
  first_cases g there = Contains-push_cases S'.firsts c.first g (subst (λ xs. Contains xs g) c.firsts there)

  at_most : (g : ℕ) → Contains S.firsts g → g ≤ f
  at_most g there = ⊎_elim (λ old. (let lt = older g old in omega arith)) (λ is. omega arith) (first_cases g there)

  last_first : get_or S.firsts (length S.firsts - 1) 0 ≡ f
  unfolding f
  last_first =
      let size : length S.firsts ≡ length S'.firsts + 1 = ap length c.firsts ∙ length-append S'.firsts (c.first ∷ []) in
      let at : length S.firsts - 1 ≡ length S'.firsts = omega arith in
      ap (λ n. get_or S.firsts n 0) at ∙ (ap (λ xs. get_or xs (length S'.firsts) 0) c.firsts ∙ get_or_push S'.firsts c.first 0 (length S'.firsts) refl)

  -- every lead is of an older group
  no_lead : (lead : Lead) → Contains S.leads lead → lead.from < f
  no_lead lead there =
      let count = length S.leads - 1 in
      let last : Lead = get_or S.leads count lead in
      let split : S.leads ≡ take count S.leads ++ last ∷ [] = split_last S.leads lead (omega (arith, there.1)) in
      let before = none last (take count S.leads) split in
      let here = there.2 in
      let from : lead.from ≤ last.from = ⊎_elim
      (λ (lt : there.0 < count). (let e = ap (λ (l : Lead). l.from) here in omega (arith, s.in_order there.0 count lead lt (omega (arith, there.1)))))
      (λ (ge : count ≤ there.0). (let same : there.0 ≡ count = omega (arith, there.1) in
      let e : last.from ≡ lead.from = ap (λ (l : Lead). l.from) (ap (λ n. get_or S.leads n lead) (sym same) ∙ here) in omega arith)) (cases_lt there.0 count) in
      omega (arith, last_first)
    where
      split_last : (xs : List Lead) (d : Lead) → 0 < length xs → xs ≡ take (length xs - 1) xs ++ get_or xs (length xs - 1) d ∷ []
      split_last xs d some =
          let whole : take (length xs) xs ≡ xs = take_all (length xs) xs (omega arith) in
          let at : length xs - 1 + 1 ≡ length xs = omega arith in
          sym whole ∙ (ap (λ n. take n xs) (sym at) ∙ take_more xs (length xs - 1) d (omega arith))

  -- what stands in the last group is a member, and the other way round
  member_at : (v p : ℕ) → standing_of S v ≡ Waiting p → f ≤ p → Contains (drop f S.path) v
  member_at v p is le =
      let here = s.on_path v p is in
      let size = length-drop f S.path in
      let value : get_or S.path p v ≡ v = get_or_default S.path p v 0 here.0 ∙ here.1 in
      let at : f + (p - f) ≡ p = omega arith in
      (p - f, omega (arith, here.0), get_or-drop f S.path (p - f) v ∙ (ap (λ n. get_or S.path n v) at ∙ value))

  place_of : (v : ℕ) → Contains (drop f S.path) v → (p : ℕ) × ((f ≤ p) × ((p < length S.path) × (get_or S.path p 0 ≡ v)))
  place_of v there =
      let size = length-drop f S.path in
      let inner : f + there.0 < length S.path = omega (arith, there.1) in
      (f + there.0, (omega arith, (inner, get_or_default S.path (f + there.0) 0 v inner ∙ (sym (get_or-drop f S.path there.0 v) ∙ there.2))))

  member_waits : (v : ℕ) → Contains (drop f S.path) v → (p : ℕ) × ((f ≤ p) × (standing_of S v ≡ Waiting p))
  member_waits v there = (let at = place_of v there in (at.0, (at.1.0, subst (λ x. standing_of S x ≡ Waiting at.0) at.1.1.1 (s.stands at.0 at.1.1.0))))

  named_now : (v p : ℕ) → standing_of S v ≡ Waiting p → f ≤ p → standing_of S' v ≡ Named c.least
  unfolding f
  named_now v p is le = c.standing.named v (member_at v p is le)

  no_member : (v : ℕ) (t : Standing) → standing_of S v ≡ t → ((p : ℕ) → f ≤ p → t ≡ Waiting p → ⊥) → standing_of S' v ≡ t
  unfolding f
  no_member v t is differs = c.standing.others v (λ there. (let at = member_waits v there in differs at.0 at.1.0 (sym is ∙ at.1.1))) ∙ is

  unseen_stays : (v : ℕ) → standing_of S v ≡ Unseen → standing_of S' v ≡ Unseen
  unseen_stays v is = no_member v Unseen is (λ p le e. (cc))

  named_stays : (v m : ℕ) → standing_of S v ≡ Named m → standing_of S' v ≡ Named m
  named_stays v m is = no_member v (Named m) is (λ p le e. (cc))

  earlier_stays : (v p : ℕ) → standing_of S v ≡ Waiting p → p < f → standing_of S' v ≡ Waiting p
  earlier_stays v p is lt = no_member v (Waiting p) is (λ q le e. (let same : p ≡ q = cc in omega arith))

  -- what a vertex that has a name now was before: named, or a member
  was : (v m : ℕ) → standing_of S' v ≡ Named m → (standing_of S v ≡ Named m) ⊎ ((m ≡ c.least) × Contains (drop f S.path) v)
  was v m is = by (standing_cases (standing_of S v))
    where
      by : (standing_of S v ≡ Unseen) ⊎ (((p : ℕ) × (standing_of S v ≡ Waiting p)) ⊎ ((n : ℕ) × (standing_of S v ≡ Named n))) → (standing_of S v ≡ Named m)
          ⊎ ((m ≡ c.least) × Contains (drop f S.path) v)
      by (inl e) = absurd (let clash : Unseen ≡ Named m = sym (unseen_stays v e) ∙ is in cc)
      by (inr (inl e)) = ⊎_elim
          (λ (lt : e.0 < f). absurd (let clash : Waiting e.0 ≡ Named m = sym (earlier_stays v e.0 e.1 lt) ∙ is in cc))
          (λ (ge : f ≤ e.0). (let both : Named c.least ≡ Named m = sym (named_now v e.0 e.1 ge) ∙ is in let same : m ≡ c.least = cc in inr (same, member_at v e.0 e.1 ge)))
          (cases_lt e.0 f)
      by (inr (inr e)) = (let both : Named e.0 ≡ Named m = sym (named_stays v e.0 e.1) ∙ is in let same : e.0 ≡ m = cc in inl (e.1 ∙ ap Named same))

  -- named, or in the last group
  IsInner : ℕ → Type 0
  IsInner v = ((m : ℕ) × (standing_of S v ≡ Named m)) ⊎ ((p : ℕ) × ((standing_of S v ≡ Waiting p) × (f ≤ p)))

  -- what the last group leads to is named, or in the last group
  member_leads : (p w : ℕ) → p < length S.path → f ≤ p → HasFollowed S p w ⊎ Contains S.leads (record { from = p; to = w }) → IsInner w
  unfolding IsInner
  member_leads p w lt ge (inl (inl named)) = inl named
  member_leads p w lt ge (inl (inr found)) = inr (found.0, (found.1.0, found.1.1 f f_first ge))
  member_leads p w lt ge (inr lead) = absurd (let far = no_lead (record { from = p; to = w }) lead in omega arith)

  inner_closed : (v w : ℕ) → IsInner v → Contains (get_or lists v []) w → IsInner w
  unfolding IsInner
  inner_closed v w (inl named) there = inl (s.named_closed v named.0 w named.1 there)
  inner_closed v w (inr waits) there =
      let here = s.on_path v waits.0 waits.1.0 in
      let listed : Contains (get_or lists (get_or S.path waits.0 0) []) w = subst (λ x. Contains (get_or lists x []) w) (sym here.1) there in
      member_leads waits.0 w here.0 waits.1.1 (all waits.0 w here.0 listed)

  IsNamed : ℕ → Type 0
  IsNamed v = (m : ℕ) × (standing_of S v ≡ Named m)

  named_closed : (v w : ℕ) → IsNamed v → Contains (get_or lists v []) w → IsNamed w
  unfolding IsNamed
  named_closed v w named there = s.named_closed v named.0 w named.1 there

  -- what a member leads to and back is a member
  class_is : (v u : ℕ) → Contains (drop f S.path) v → LeadBothWays lists v u → Contains (drop f S.path) u
  unfolding IsInner IsNamed
  class_is v u there both =
      let at = member_waits v there in
      ⊎_elim
      (λ (named : (m : ℕ) × (standing_of S u ≡ Named m)). (let back : (m : ℕ) × (standing_of S v ≡ Named m) = stays_along lists IsNamed named_closed u v both.1 named in
      let clash : Waiting at.0 ≡ Named back.0 = sym at.1.1 ∙ back.1 in absurd (cc)))
      (λ (waits : (p : ℕ) × ((standing_of S u ≡ Waiting p) × (f ≤ p))). member_at u waits.0 waits.1.0 waits.1.1)
      (stays_along lists IsInner inner_closed v u both.0 (inr (at.0, (at.1.1, at.1.0))))

  -- members lead to each other
  members_lead : (v u : ℕ) → Contains (drop f S.path) v → Contains (drop f S.path) u → Leads lists v u
  members_lead v u there there' =
      let a = place_of v there in
      let b = place_of u there' in
      subst₂ (Leads lists) a.1.1.1 b.1.1.1 (s.groups a.0 b.0 a.1.1.0 b.1.1.0 (λ g first le. (let most = at_most g first in let ge = b.1.0 in omega arith)))

  least_member : Contains (drop f S.path) c.least
  unfolding f
  least_member = c.among

  new_size : length S'.path ≡ f
  unfolding f
  new_size = ap length c.path ∙ (let size = length-take c.first S.path in let inner : c.first < length S.path = f_inside in omega arith)

  old_place : (p : ℕ) → p < f → get_or S'.path p 0 ≡ get_or S.path p 0
  unfolding f
  old_place p lt = ap (λ xs. get_or xs p 0) c.path ∙ get_or-take c.first S.path p 0 lt

  new_stands : (p : ℕ) → p < length S'.path → standing_of S' (get_or S'.path p 0) ≡ Waiting p
  new_stands p lt =
      let inner : p < f = omega (arith, new_size) in
      ap (standing_of S') (old_place p inner) ∙ earlier_stays (get_or S.path p 0) p (s.stands p (omega (arith, f_inside))) inner

  new_on_path : (v p : ℕ) → standing_of S' v ≡ Waiting p → (p < length S'.path) × (get_or S'.path p 0 ≡ v)
  new_on_path v p is = by (standing_cases (standing_of S v))
    where
      by : (standing_of S v ≡ Unseen) ⊎ (((q : ℕ) × (standing_of S v ≡ Waiting q)) ⊎ ((n : ℕ) × (standing_of S v ≡ Named n))) → (p < length S'.path) × (get_or S'.path p 0 ≡ v)
      by (inl e) = absurd (let clash : Unseen ≡ Waiting p = sym (unseen_stays v e) ∙ is in cc)
      by (inr (inl e)) = ⊎_elim
          (λ (lt : e.0 < f). (let both : Waiting e.0 ≡ Waiting p = sym (earlier_stays v e.0 e.1 lt) ∙ is in let same : e.0 ≡ p = cc in
          let here = (s.on_path v e.0 e.1).1 in (omega (arith, new_size), ap (λ n. get_or S'.path n 0) (sym same) ∙ (old_place e.0 lt ∙ here))))
          (λ (ge : f ≤ e.0). absurd (let clash : Named c.least ≡ Waiting p = sym (named_now v e.0 e.1 ge) ∙ is in cc)) (cases_lt e.0 f)
      by (inr (inr e)) = absurd (let clash : Named e.0 ≡ Waiting p = sym (named_stays v e.0 e.1) ∙ is in cc)

  old_first_at : (i : ℕ) → i < length S'.firsts → get_or S.firsts i 0 ≡ get_or S'.firsts i 0
  old_first_at i lt = ap (λ xs. get_or xs i 0) c.firsts ∙ get_or_append_left S'.firsts (c.first ∷ []) 0 i lt

  new_rising : (i j : ℕ) → i < j → j < length S'.firsts → get_or S'.firsts i 0 < get_or S'.firsts j 0
  new_rising i j before lt =
      let size : length S.firsts ≡ length S'.firsts + 1 = ap length c.firsts ∙ length-append S'.firsts (c.first ∷ []) in
      omega (arith, old_first_at i (omega arith), old_first_at j lt, s.rising i j before (omega arith))

  new_from_start : 0 < length S'.path → Contains S'.firsts 0
  new_from_start some = ⊎_elim (λ old. old) (λ is. absurd (omega (arith, new_size))) (first_cases 0 (s.from_start (omega (arith, f_inside))))

  new_groups : (p q : ℕ) → p < length S'.path → q < length S'.path → IsNoEarlier S' p q → Leads lists (get_or S'.path p 0) (get_or S'.path q 0)
  new_groups p q lt lt' later =
      let a : p < f = omega (arith, new_size) in
      let b : q < f = omega (arith, new_size) in
      subst₂ (Leads lists) (sym (old_place p a)) (sym (old_place q b))
      (s.groups p q (omega (arith, f_inside)) (omega (arith, f_inside)) (λ g there le. ⊎_elim (λ old. later g old le) (λ is. absurd (omega arith)) (first_cases g there)))

  new_lead_is : (lead : Lead) → Contains S'.leads lead → (lead.from < length S'.path) × Contains (get_or lists (get_or S'.path lead.from 0) []) lead.to
  new_lead_is lead there =
      let old = subst (λ xs. Contains xs lead) c.leads there in
      let lt = no_lead lead old in
      (omega (arith, new_size), subst (λ x. Contains (get_or lists x []) lead.to) (sym (old_place lead.from lt)) (s.lead_is lead old).1)

  -- what is inner has a name now
  inner_named : (w : ℕ) → IsInner w → (k : ℕ) × (standing_of S' w ≡ Named k)
  unfolding IsInner
  inner_named w (inl named) = (named.0, named_stays w named.0 named.1)
  inner_named w (inr waits) = (c.least, named_now w waits.0 waits.1.0 waits.1.1)

  new_named_closed : (v m w : ℕ) → standing_of S' v ≡ Named m → Contains (get_or lists v []) w → (k : ℕ) × (standing_of S' w ≡ Named k)
  unfolding IsInner
  new_named_closed v m w is there = inner_named w (inner_closed v w
      (⊎_elim (λ named. inl (m, named)) (λ member. (let at = member_waits v member.1 in inr (at.0, (at.1.1, at.1.0)))) (was v m is)) there)

  new_named_well : (v m : ℕ) → standing_of S' v ≡ Named m → LeadBothWays lists v m
  new_named_well v m is = ⊎_elim (λ named. s.named_well v m named)
      (λ member. subst (LeadBothWays lists v) (sym member.0) (members_lead v c.least member.1 least_member, members_lead c.least v least_member member.1)) (was v m is)

  new_named_least : (v m u : ℕ) → standing_of S' v ≡ Named m → LeadBothWays lists v u → m ≤ u
  unfolding f
  new_named_least v m u is both = ⊎_elim (λ named. s.named_least v m u named both)
      (λ member. (let le = c.least_is u (class_is v u member.1 both) in let same = member.0 in omega arith)) (was v m is)

  pub closed_sound : IsSound lists S'
  closed_sound = record {
    size_is = c.standing.size_is ∙ s.size_is;
    stands = new_stands;
    on_path = new_on_path;
    rising = new_rising;
    inside = λ g there. (let lt = older g there in omega (arith, new_size));
    from_start = new_from_start;
    groups = new_groups;
    lead_is = new_lead_is;
    in_order = subst (AllPairs (λ (a b : Lead). a.from ≤ b.from)) (sym c.leads) s.in_order;
    named_closed = new_named_closed;
    named_well = new_named_well;
    named_least = new_named_least;
    room = (let fewer = c.standing.fewer in omega (arith, new_size, f_inside, s.room));
  }

  by_case : (p w : ℕ) → p < f → HasFollowed S p w ⊎ Contains S.leads (record { from = p; to = w }) → HasFollowed S' p w ⊎ Contains S'.leads (record { from = p; to = w })
  by_case p w lt (inl (inl named)) = inl (inl (named.0, named_stays w named.0 named.1))
  by_case p w lt (inl (inr found)) = ⊎_elim
      (λ (before : found.0 < f). inl (inr (found.0, (earlier_stays w found.0 found.1.0 before, (λ g there le. found.1.1 g (old_first g there) le)))))
      (λ (past : f ≤ found.0). inl (inl (c.least, named_now w found.0 found.1.0 past))) (cases_lt found.0 f)
  by_case p w lt (inr lead) = inr (subst (λ xs. Contains xs (record { from = p; to = w })) (sym c.leads) lead)

  pub closed_followed : AllFollowed lists S'
  closed_followed p w lt there =
      let before : p < f = omega (arith, new_size) in
      by_case p w before (all p w (omega (arith, f_inside)) (subst (λ x. Contains (get_or lists x []) w) (old_place p before) there))

  pub closed_found : StaysFound S S'
  closed_found v is = by (standing_cases (standing_of S v))
    where
      by : (standing_of S v ≡ Unseen) ⊎ (((q : ℕ) × (standing_of S v ≡ Waiting q)) ⊎ ((n : ℕ) × (standing_of S v ≡ Named n))) → standing_of S v ≡ Unseen
      by (inl e) = e
      by (inr (inl e)) = ⊎_elim
          (λ (lt : e.0 < f). absurd (let clash : Waiting e.0 ≡ Unseen = sym (earlier_stays v e.0 e.1 lt) ∙ is in cc))
          (λ (ge : f ≤ e.0). absurd (let clash : Named c.least ≡ Unseen = sym (named_now v e.0 e.1 ge) ∙ is in cc)) (cases_lt e.0 f)
      by (inr (inr e)) = absurd (let clash : Named e.0 ≡ Unseen = sym (named_stays v e.0 e.1) ∙ is in cc)
