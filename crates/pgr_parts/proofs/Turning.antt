-- One turn of the search: a lead is taken and followed, or the last group is closed.
use Rattle.std.proofs.Common.{◌≡◌, ℕ, ◌+◌, ◌-◌, ◌*◌, ◌<◌, ◌≤◌, ◌++◌, ◌⊎◌, inl, inr, ⊎_elim, List, [], ◌∷◌, Contains, length, get_or, refl, sym, ap, ◌∙◌, subst, arith, count_by, All, IsSome, map, Result}
use Rattle.std.specs.List.{sum_by, AllPairs}
use Rattle.std.specs.List.Sorted.{IsNonDecreasingBy}
use Rattle.std.proofs.lemmas.Bool.{cases_lt}
use Rattle.std.proofs.lemmas.List.{length-append, length-map, length-take, get_or_append_left, get_or_default, get_or-map}
use Rattle.std.proofs.lemmas.List.Elements.{Contains-push_cases, Contains-push, Contains-append_left, Contains-get_or}
use Rattle.std.proofs.lemmas.List.Sums.{get_or-le-sum_by}
use Rattle.std.specs.Result.{OnOk}
use Rattle.std.proofs.lemmas.Result.{on_ok_weaker}
use Rattle.std.proofs.Math.Nat.{mul-le-mul_right}
use Rattle.std.specs.Ordering.{nat_cmp}
use Rattle.pgr_parts.specs.declared.standing.Standing.{Standing}
use Rattle.pgr_parts.specs.declared.standing.Standing.TheVariants.{Unseen, Waiting, Named}
use Rattle.pgr_parts.specs.declared.lead.Lead.{Lead}
use Rattle.pgr_parts.specs.Standings.{is_unseen, leads_from_place, name_of, name_at, AreAllNamed}
use Rattle.pgr_parts.specs.Classes.{IsClassName, AreClassNames}
use Rattle.pgr_parts.specs.Trails.{Leads, LeadBothWays, AreWithin}
use Rattle.pgr_parts.specs.Grouping.{State, standing_of, IsSound, HasFollowed, AllFollowedBut, IsSearching, StaysFound, IsFound, IsFollowed, IsTaken, HasNoLead, IsClosed, work}
use Rattle.pgr_parts.proofs.Orders.{not_greater}
use Rattle.pgr_parts.proofs.TrailLemmas.{leads_to}
use Rattle.pgr_parts.proofs.Places.{standing_cases, at_most_last, path_below}
use Rattle.pgr_parts.proofs.Entering.{entered, is_entered, entered_sound, entered_followed, entered_found, entered_here, fewer}
use Rattle.pgr_parts.proofs.Merging.{merged, is_merged, merged_sound, merged_followed}
use Rattle.pgr_parts.proofs.Closing.{closed_sound, closed_followed, closed_found}

-- what following gives: the search goes on, nothing found is forgotten, the vertex is found and no more is left to do
pub record GoesOn (lists : List (List ℕ)) (w : ℕ) (S S' : State) : Type 0 where
  pub searching : IsSearching lists S'
  pub found : StaysFound S S'
  pub here : IsFound S' w
  pub no_more : work lists S' ≤ work lists S

-- the work of a vertex that is entered
entered_work : (unseen unseen' most added leads firsts : ℕ) → unseen' + 1 ≡ unseen → added ≤ most
    → unseen' * (most + 1) + (leads + added) + (firsts + 1) ≤ unseen * (most + 1) + leads + firsts
entered_work unseen unseen' most added leads firsts e le = subst (λ n. unseen' * (most + 1) + (leads + added) + (firsts + 1) ≤ n * (most + 1) + leads + firsts) e (omega arith)

module _ (lists : List (List ℕ)) (S : State) (s : IsSound lists S) (w : ℕ) (below : w < length lists)
    (reach : (p : ℕ) → p < length S.path → Leads lists (get_or S.path p 0) w) (but : AllFollowedBut lists w S) where
  by_unseen : standing_of S w ≡ Unseen → GoesOn lists w S (entered (get_or lists w []) w S)
  by_unseen unseen = record {
    searching = record { sound = entered_sound lists S s w below unseen reach; followed = entered_followed lists S s w below unseen reach but };
    found = entered_found lists S s w below unseen reach;
    here = entered_here lists S s w below unseen reach;
    no_more =
        let list = get_or lists w [] in
        let new = leads_from_place (length S.path) list in
        let leads : length (S.leads ++ new) ≡ length S.leads + length list = length-append S.leads new
        ∙ ap (λ n. length S.leads + n) (length-map list (λ x. record { from = length S.path; to = x })) in
        let firsts : length (S.firsts ++ length S.path ∷ []) ≡ length S.firsts + 1 = length-append S.firsts (length S.path ∷ []) in
        let most : length list ≤ sum_by length lists = get_or-le-sum_by length lists w [] below in
        let less = fewer lists S s w below unseen reach in
        let bound = entered_work (count_by is_unseen S.standing) (count_by is_unseen (entered list w S).standing) (sum_by length lists) (length list) (length S.leads)
        (length S.firsts) less most in
        omega arith;
  }

  by_waiting : (q count : ℕ) → standing_of S w ≡ Waiting q → ((i : ℕ) → i < count → i < length S.firsts → get_or S.firsts i 0 ≤ q)
      → ((i : ℕ) → count ≤ i → i < length S.firsts → q < get_or S.firsts i 0)
      → GoesOn lists w S (merged count S)
  by_waiting q count waiting low high = record {
    searching = record { sound = merged_sound lists S s w q count waiting low high reach; followed = merged_followed lists S s w q count waiting low high reach but };
    found = λ v is. is;
    here = λ is. (let clash : Unseen ≡ Waiting q = sym is ∙ waiting in cc);
    no_more = (let size = length-take count S.firsts in omega arith);
  }

  -- a name is as good as having been followed
  by_name : (m : ℕ) → standing_of S w ≡ Named m → GoesOn lists w S S
  by_name m named = record {
    searching = record { sound = s; followed = λ p x lt there. ⊎_elim (λ old. old) (λ same. inl (inl (m, ap (standing_of S) same.0 ∙ named))) (but p x lt there) };
    found = λ v is. is;
    here = λ is. (let clash : Unseen ≡ Named m = sym is ∙ named in cc);
    no_more = omega arith;
  }

  pub goes_on : (S' : State) → IsFollowed (get_or lists w []) w S S' → GoesOn lists w S S'
  goes_on S' h = by (standing_cases (standing_of S w))
    where
      by : (standing_of S w ≡ Unseen) ⊎ (((q : ℕ) × (standing_of S w ≡ Waiting q)) ⊎ ((m : ℕ) × (standing_of S w ≡ Named m))) → GoesOn lists w S S'
      by (inl e) = subst (GoesOn lists w S) (sym (is_entered (get_or lists w []) w S S' (h.unseen e))) (by_unseen e)
      by (inr (inl e)) = (let m = h.waiting e.0 e.1 in subst (GoesOn lists w S) (sym (is_merged e.0 S S' m)) (by_waiting e.0 m.count e.1 m.low m.high))
      by (inr (inr e)) = subst (GoesOn lists w S) (sym (h.named e.0 e.1)) (by_name e.0 e.1)

-- the state with the last lead taken
abbrev taken : List Lead → State → State
taken rest S = record S { leads = rest }

pub is_taken : (w : ℕ) (S S' : State) (e : IsTaken w S S') → S' ≡ taken S'.leads S
is_taken w S S' e =
    ap (λ x. record S' { standing = x }) e.standing ∙ (ap (λ x. record S' { standing = S.standing; path = x }) e.path
    ∙ ap (λ x. record S' { standing = S.standing; path = S.path; firsts = x }) e.firsts)

module _ (lists : List (List ℕ)) (within : AreWithin lists) (S : State) (g : IsSearching lists S) (w from : ℕ) (rest : List Lead)
    (split : S.leads ≡ rest ++ record { from = from; to = w } ∷ []) (last : get_or S.firsts (length S.firsts - 1) 0 ≤ from) where
  old_lead : (lead : Lead) → Contains rest lead → Contains S.leads lead
  old_lead lead there = subst (λ xs. Contains xs lead) (sym split) (Contains-append_left rest (record { from = from; to = w } ∷ []) lead there)

  the_lead : (from < length S.path) × Contains (get_or lists (get_or S.path from 0) []) w
  the_lead = g.sound.lead_is (record { from = from; to = w }) (subst (λ xs. Contains xs (record { from = from; to = w })) (sym split)
      (Contains-push rest (record { from = from; to = w })))

  size : length S.leads ≡ length rest + 1
  size = ap length split ∙ length-append rest (record { from = from; to = w } ∷ [])

  up_to : (f : ℕ) → Contains S.firsts f → f ≤ from
  up_to f there = (let most = at_most_last S.firsts g.sound.rising f there in omega arith)

  taken_below : w < length lists
  taken_below = within.below (get_or S.path from 0) w the_lead.1

  -- every place leads to where the last lead leads
  taken_reach : (p : ℕ) → p < length S.path → Leads lists (get_or S.path p 0) w
  taken_reach p lt = leads_to lists (get_or S.path p 0) (get_or S.path from 0) w (g.sound.groups p from lt the_lead.0 (λ f there le. up_to f there)) the_lead.1

  taken_in_order : AllPairs (λ (a b : Lead). a.from ≤ b.from) rest
  taken_in_order i j d before lt =
      let at : (k : ℕ) → k < length rest → get_or S.leads k d ≡ get_or rest k d = λ k below. ap (λ xs. get_or xs k d) split
      ∙ get_or_append_left rest (record { from = from; to = w } ∷ []) d k below in
      let a = ap (λ (l : Lead). l.from) (at i (omega arith)) in
      let b = ap (λ (l : Lead). l.from) (at j lt) in
      omega (arith, g.sound.in_order i j d before (omega (arith, size)))

  taken_sound : IsSound lists (taken rest S)
  taken_sound = record {
    size_is = g.sound.size_is;
    stands = g.sound.stands;
    on_path = g.sound.on_path;
    rising = g.sound.rising;
    inside = g.sound.inside;
    from_start = g.sound.from_start;
    groups = g.sound.groups;
    lead_is = λ lead there. g.sound.lead_is lead (old_lead lead there);
    in_order = taken_in_order;
    named_closed = g.sound.named_closed;
    named_well = g.sound.named_well;
    named_least = g.sound.named_least;
    room = g.sound.room;
  }

  taken_case : (p x : ℕ) → HasFollowed S p x ⊎ Contains S.leads (record { from = p; to = x }) → (HasFollowed (taken rest S) p x ⊎ Contains rest (record { from = p; to = x }))
      ⊎ ((x ≡ w) × ((f : ℕ) → Contains S.firsts f → f ≤ p))
  taken_case p x (inl done) = inl (inl done)
  taken_case p x (inr lead) = ⊎_elim (λ old. inl (inr old))
      (λ (is : ◌≡◌ {A = Lead} (record { from = from; to = w }) (record { from = p; to = x })). inr
      (ap (λ (l : Lead). l.to) (sym is), (λ f there. (let same : from ≡ p = ap (λ (l : Lead). l.from) is in let le = up_to f there in omega arith))))
      (Contains-push_cases rest (record { from = from; to = w }) (record { from = p; to = x }) (subst (λ xs. Contains xs (record { from = p; to = x })) split lead))

  taken_but : AllFollowedBut lists w (taken rest S)
  taken_but p x lt there = taken_case p x (g.followed p x lt there)

-- a lead is taken and followed
pub record HasTurned (lists : List (List ℕ)) (S S' : State) : Type 0 where
  pub searching : IsSearching lists S'
  pub found : StaysFound S S'
  pub less : work lists S' < work lists S

pub follows_lead : (lists : List (List ℕ)) (S S1 S' : State) (w : ℕ) → AreWithin lists → IsSearching lists S → IsTaken w S S1 → IsFollowed (get_or lists w []) w S1 S'
    → HasTurned lists S S'
follows_lead lists S S1 S' w within g t h =
    let is = is_taken w S S1 t in
    let R : State → Type 0 = λ x. IsFollowed (get_or lists w []) w x S' in
    let on : GoesOn lists w (taken S1.leads S) S' = goes_on lists (taken S1.leads S) (taken_sound lists within S g w t.from S1.leads t.leads t.last) w
    (taken_below lists within S g w t.from S1.leads t.leads t.last) (taken_reach lists within S g w t.from S1.leads t.leads t.last)
    (taken_but lists within S g w t.from S1.leads t.leads t.last) S' (subst R is h) in
    let count = size lists within S g w t.from S1.leads t.leads t.last in
    record { searching = on.searching; found = on.found; less = omega (arith, on.no_more) }

-- the same where following may fail
pub searching_after : {T E : Type 0} (r : Result T E) (lists : List (List ℕ)) (S S1 S' : State) (w : ℕ) → AreWithin lists → IsSearching lists S → IsTaken w S S1
    → OnOk r (IsFollowed (get_or lists w []) w S1 S') → OnOk r (IsSearching lists S')
searching_after r lists S S1 S' w within g t = on_ok_weaker r (λ (h : IsFollowed (get_or lists w []) w S1 S'). (follows_lead lists S S1 S' w within g t h).searching)

pub found_after : {T E : Type 0} (r : Result T E) (lists : List (List ℕ)) (S S1 S' : State) (w : ℕ) → AreWithin lists → IsSearching lists S → IsTaken w S S1
    → OnOk r (IsFollowed (get_or lists w []) w S1 S') → OnOk r (StaysFound S S')
found_after r lists S S1 S' w within g t = on_ok_weaker r (λ (h : IsFollowed (get_or lists w []) w S1 S'). (follows_lead lists S S1 S' w within g t h).found)

pub less_after : {T E : Type 0} (r : Result T E) (lists : List (List ℕ)) (S S1 S' : State) (w : ℕ) → AreWithin lists → IsSearching lists S → IsTaken w S S1
    → OnOk r (IsFollowed (get_or lists w []) w S1 S') → OnOk r (work lists S' < work lists S)
less_after r lists S S1 S' w within g t = on_ok_weaker r (λ (h : IsFollowed (get_or lists w []) w S1 S'). (follows_lead lists S S1 S' w within g t h).less)

-- a lead that is taken leads to a vertex
pub lead_below : (lists : List (List ℕ)) (S S1 : State) (w : ℕ) → AreWithin lists → IsSearching lists S → IsTaken w S S1 → w < length lists
lead_below lists S S1 w within g t = taken_below lists within S g w t.from S1.leads t.leads t.last

-- the last group is closed
pub closes_group : (lists : List (List ℕ)) (S S' : State) → IsSearching lists S → HasNoLead S → IsClosed S S' → HasTurned lists S S'
closes_group lists S S' g none c = record {
  searching = record { sound = closed_sound lists S S' g.sound g.followed c none; followed = closed_followed lists S S' g.sound g.followed c none };
  found = closed_found lists S S' g.sound g.followed c none;
  less =
      let firsts : length S.firsts ≡ length S'.firsts + 1 = ap length c.firsts ∙ length-append S'.firsts (c.first ∷ []) in
      let leads = ap length c.leads in
      let fewer' = mul-le (count_by is_unseen S'.standing) (count_by is_unseen S.standing) (sum_by length lists + 1) c.standing.fewer in
      omega arith;
}
  where
    mul-le : (a b n : ℕ) → a ≤ b → a * n ≤ b * n
    mul-le a b n le = mul-le-mul_right n le

-- the same where no lead was taken before
pub closes_after : (lists : List (List ℕ)) (S S1 S' : State) → IsSearching lists S → HasNoLead S → S1 ≡ S → IsClosed S1 S' → HasTurned lists S S'
closes_after lists S S1 S' g none same c = (let R : State → Type 0 = λ x. IsClosed x S' in closes_group lists S S' g none (subst R same c))

-- the root, where nothing stands on the path
pub follows_root : (lists : List (List ℕ)) (S S' : State) (w : ℕ) → w < length lists → IsSearching lists S → S.path ≡ [] → IsFollowed (get_or lists w []) w S S'
    → GoesOn lists w S S'
follows_root lists S S' w below g idle h =
    let size = ap length idle in
    goes_on lists S g.sound w below (λ p lt. absurd (omega arith)) (λ p x lt there. absurd (omega arith)) S' h

-- what the code needs of a search: the groups begin in order, within the path, which has vertices only
pub firsts_rise : (lists : List (List ℕ)) (S : State) → IsSearching lists S → IsNonDecreasingBy (λ first. first) S.firsts
firsts_rise lists S g i j d before lt = ⊎_elim
    (λ (less : i < j). omega (arith, get_or_default S.firsts i d 0 (omega arith), get_or_default S.firsts j d 0 lt, g.sound.rising i j less lt))
    (λ (ge : j ≤ i). (let same : i ≡ j = omega arith in let e = ap (λ n. get_or S.firsts n d) same in omega arith)) (cases_lt i j)

pub firsts_inside : (lists : List (List ℕ)) (S : State) → IsSearching lists S → All (λ first. first < length S.path) S.firsts
firsts_inside lists S g k d lt = g.sound.inside (get_or S.firsts k d) (Contains-get_or S.firsts k d lt)

pub path_inside : (lists : List (List ℕ)) (S : State) → IsSearching lists S → All (λ v. v < length S.standing) S.path
path_inside lists S g k d lt = (let below = path_below lists S g.sound k lt in omega (arith, get_or_default S.path k d 0 lt, g.sound.size_is))

-- once every vertex was found and none stands on the path, each has a name
pub has_name : (lists : List (List ℕ)) (S : State) → IsSearching lists S → S.path ≡ [] → (v : ℕ) → IsFound S v → (m : ℕ) × (standing_of S v ≡ Named m)
has_name lists S g idle v found = by (standing_cases (standing_of S v))
  where
    by : (standing_of S v ≡ Unseen) ⊎ (((p : ℕ) × (standing_of S v ≡ Waiting p)) ⊎ ((m : ℕ) × (standing_of S v ≡ Named m))) → (m : ℕ) × (standing_of S v ≡ Named m)
    by (inl e) = absurd (found e)
    by (inr (inl e)) = absurd (let lt = (g.sound.on_path v e.0 e.1).0 in let size = ap length idle in omega arith)
    by (inr (inr e)) = e

pub AreAllNamed-from_found : (lists : List (List ℕ)) (S : State) (bound : ℕ) (slice : List Standing) → IsSearching lists S → S.path ≡ [] → ((v : ℕ) → v < bound → IsFound S v)
    → length lists ≤ bound → slice ≡ S.standing → AreAllNamed slice
AreAllNamed-from_found lists S bound slice g idle found past is k d lt =
    let size = ap length is in
    let name = has_name lists S g idle k (found k (omega (arith, g.sound.size_is))) in
    subst (λ t. IsSome (name_of t)) (sym (get_or_default slice k d Unseen lt ∙ (ap (λ xs. get_or xs k Unseen) is ∙ name.1))) refl

-- it is the name of its class
pub class_names : (lists : List (List ℕ)) (S : State) (bound : ℕ) (slice : List Standing) (names : List ℕ) → IsSearching lists S → S.path ≡ []
    → ((v : ℕ) → v < bound → IsFound S v) → length lists ≤ bound → slice ≡ S.standing → names ≡ map name_at slice
    → AreClassNames (LeadBothWays lists) (length lists) names
class_names lists S bound slice names g idle found past is made = record {
  size_is = ap length e ∙ (length-map S.standing name_at ∙ g.sound.size_is);
  each = λ v below. one v below (has_name lists S g idle v (found v (omega arith)));
}
  where
    e : names ≡ map name_at S.standing
    e = made ∙ ap (map name_at) is

    one : (v : ℕ) → v < length lists → (m : ℕ) × (standing_of S v ≡ Named m) → IsClassName nat_cmp (LeadBothWays lists) v (get_or names v 0)
    one v below name =
        let inside : v < length S.standing = omega (arith, g.sound.size_is) in
        let is_name : get_or names v 0 ≡ name.0 = ap (λ xs. get_or xs v 0) e ∙ (get_or-map name_at S.standing v Unseen 0 inside ∙ ap name_at name.1) in
        subst (IsClassName nat_cmp (LeadBothWays lists) v) (sym is_name) (record {
          member = g.sound.named_well v name.0 name.1;
          least = λ u both. not_greater name.0 u (g.sound.named_least v name.0 u name.1 both);
        })
