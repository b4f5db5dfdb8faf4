-- A search into the depth keeps what holds of it, at a lead to a vertex that has a number and at one to a new vertex.
use Rattle.std.proofs.Common.{◌≡◌, ◌⊎◌, inl, inr, ⊎_elim, ℕ, zero, suc, ◌+◌, ◌*◌, ◌<◌, ◌≤◌, true, false, cond, List, [], ◌∷◌, ◌++◌, length, get_or, set, map, replicate, Option, Some, None, refl, sym, subst, ◌∙◌, ap, arith, eqb}
use Rattle.std.specs.List.{Contains, AllPairs, All, count_by}
use Rattle.std.proofs.lemmas.Bool.{cases_eq, cases_lt, eqb-true, eq-eqb}
use Rattle.std.proofs.lemmas.List.{get_or-set_same, get_or-set_other, get_or_append_left, get_or_past, length-append, length-set, length_push, length-map, get_or_push, get_or_default, length-replicate, get_or-replicate}
use Rattle.std.proofs.lemmas.List.Elements.{Contains-push, Contains-push_cases, Contains-append_left, Contains-append_right, Contains-append_cases, All-contains, Contains-get_or}
use Rattle.std.proofs.lemmas.List.Folds.{sum_by-replicate}
use Rattle.std.proofs.lemmas.List.Sums.{sum_by-set, length-filter, count_by-le-length}
use Rattle.std.specs.Option.{is_some}
use Rattle.std.proofs.lemmas.Option.{same_Some}
use Rattle.pgr_spans.specs.declared.arrow.Arrow.{Arrow}
use Rattle.pgr_spans.specs.declared.search.Lead.{Lead}
use Rattle.pgr_spans.specs.Forest.{parent_of, Climbs, IsAncestor}
use Rattle.pgr_spans.specs.Exploring.{number_at, AreRelated, IsUnder, AreLinked, IsLead, is_new, IsNumbering, IsExploring, IsDepthFirst, arrows_from, lead_along, HasPlacesBelow, left_to_do}
use Rattle.pgr_spans.proofs.Ancestors.{ancestor_itself, ancestor_above}
use Rattle.pgr_outside.proofs.Lists.{Contains-filter, Contains-from_filter, Contains-map, Contains-from_map}
use Rattle.pgr_spans.proofs.Lists.{AllPairs-front, AllPairs-last, AllPairs-append}

-- how much a vertex counts among those without a number
abbrev as_new : Option ℕ → ℕ
as_new x = cond (is_new x) 1 0

-- the relation of two numbers turned round
related_back : (parents : List (Option ℕ)) (i j : ℕ) → AreRelated parents i j → AreRelated parents j i
related_back parents i j (inl up) = inr up
related_back parents i j (inr down) = inl down

-- a parent that is known stays so as parents are added
parent_stays : (parents : List (Option ℕ)) (next : Option ℕ) (j p : ℕ) → parent_of parents j ≡ Some p → parent_of (parents ++ next ∷ []) j ≡ Some p
parent_stays parents next j p parent = ⊎_elim
    (λ inside. get_or_append_left parents (next ∷ []) None j inside ∙ parent)
    (λ past. let none : parent_of parents j ≡ None = get_or_past parents j None past in cc)
    (cases_lt j (length parents))

-- and a parent that is known then was known, or is the one that was added
parent_was : (parents : List (Option ℕ)) (next : Option ℕ) (j p : ℕ) → parent_of (parents ++ next ∷ []) j ≡ Some p
    → (parent_of parents j ≡ Some p) ⊎ ((j ≡ length parents) × (next ≡ Some p))
parent_was parents next j p parent = by (cases_lt j (length parents)) (cases_eq j (length parents)) where
  by : (j < length parents) ⊎ (length parents ≤ j) → (j ≡ length parents) ⊎ (j ≡ length parents → ⊥) → (parent_of parents j ≡ Some p) ⊎ ((j ≡ length parents) × (next ≡ Some p))
  by (inl inside) last = inl (sym (get_or_append_left parents (next ∷ []) None j inside) ∙ parent)
  by (inr past) (inl last) = inr (last, sym (get_or_push parents next None j (sym last)) ∙ parent)
  by (inr past) (inr not) =
      let longer = length_push parents next in
      let none : parent_of (parents ++ next ∷ []) j ≡ None = get_or_past (parents ++ next ∷ []) j None (omega arith) in
      cc

parent_last : (parents : List (Option ℕ)) (next : Option ℕ) → parent_of (parents ++ next ∷ []) (length parents) ≡ next
parent_last parents next = get_or_push parents next None (length parents) refl

ancestor_stays : (parents : List (Option ℕ)) (next : Option ℕ) (a j : ℕ) → IsAncestor parents a j → IsAncestor (parents ++ next ∷ []) a j
ancestor_stays parents next a j (steps, climbs) = (steps, climbs_stay steps j climbs) where
  climbs_stay : (n i : ℕ) → Climbs parents n a i → Climbs (parents ++ next ∷ []) n a i
  climbs_stay zero i same = same
  climbs_stay (suc n) i (q, parent, on) = (q, parent_stays parents next i q parent, climbs_stay n q on)

related_stays : (parents : List (Option ℕ)) (next : Option ℕ) (i j : ℕ) → AreRelated parents i j → AreRelated (parents ++ next ∷ []) i j
related_stays parents next i j (inl up) = inl (ancestor_stays parents next i j up)
related_stays parents next i j (inr down) = inr (ancestor_stays parents next j i down)

under_stays : (parents : List (Option ℕ)) (next : Option ℕ) (f g : Option ℕ) → IsUnder parents f g → IsUnder (parents ++ next ∷ []) f g
under_stays parents next None g under = tt
under_stays parents next (Some i) None under = under
under_stays parents next (Some i) (Some j) under = ancestor_stays parents next i j under

-- what is under the lead to a vertex is under the leads from it
under_new : (parents : List (Option ℕ)) (f from : Option ℕ) → IsUnder parents f from → IsUnder (parents ++ from ∷ []) f (Some (length parents))
under_new parents None from under = tt
under_new parents (Some i) None under = absurd under
under_new parents (Some i) (Some j) under =
    ancestor_above (parents ++ Some j ∷ []) i j (length parents) (parent_last parents (Some j)) (ancestor_stays parents (Some j) i j under)

module _ (size : ℕ) (arrows : List Arrow) (below : All (HasPlacesBelow size) arrows)
    (back : (v w : ℕ) → Contains arrows (record { from = v; to = w }) → Contains arrows (record { from = w; to = v })) (numbers parents : List (Option ℕ)) (leads : List Lead)
    (lead : Lead) (exploring : IsExploring size arrows numbers parents (leads ++ lead ∷ [])) where
  -- a lead to a vertex that has a number is done with
  pub known_keeps : (k : ℕ) → number_at numbers lead.to ≡ Some k → IsExploring size arrows numbers parents leads
  known_keeps k known = record {
    numbering = exploring.numbering;
    each = λ other there. exploring.each other (Contains-append_left leads (lead ∷ []) other there);
    stack = AllPairs-front (λ f g. IsUnder parents f.from g.from) leads (lead ∷ []) exploring.stack;
    near = λ v w i number arrow. near v w i number arrow (exploring.near v w i number arrow);
    roots = λ v inside. roots v (exploring.roots v inside);
  } where
    turned : (v w i j : ℕ) → number_at numbers v ≡ Some i → number_at numbers w ≡ Some j → lead ≡ record { from = Some i; to = w }
        → ((n : ℕ) × (number_at numbers v ≡ Some n) × AreRelated parents j n) ⊎ Contains (leads ++ lead ∷ []) (record { from = Some j; to = v }) → AreRelated parents i j
    turned v w i j v_is w_is is_lead (inl (n, n_is, related)) =
        subst (λ m. AreRelated parents m j) (same_Some n i (sym n_is ∙ v_is)) (related_back parents j n related)
    turned v w i j v_is w_is is_lead (inr there) = ⊎_elim
        (λ earlier. inr (subst (λ l. IsUnder parents (Some j) l.from) is_lead
        (AllPairs-last (λ f g. IsUnder parents f.from g.from) leads lead (record { from = Some j; to = v }) exploring.stack earlier)))
        (λ last. let same : i ≡ j = same_Some i j (sym (ap (λ l. l.from) is_lead) ∙ ap (λ l. l.from) last) in inl (subst (IsAncestor parents i) same (ancestor_itself parents i)))
        (Contains-push_cases leads lead (record { from = Some j; to = v }) there)

    near : (v w i : ℕ) → number_at numbers v ≡ Some i → Contains arrows (record { from = v; to = w })
        → ((j : ℕ) × (number_at numbers w ≡ Some j) × AreRelated parents i j) ⊎ Contains (leads ++ lead ∷ []) (record { from = Some i; to = w })
        → ((j : ℕ) × (number_at numbers w ≡ Some j) × AreRelated parents i j) ⊎ Contains leads (record { from = Some i; to = w })
    near v w i number arrow (inl related) = inl related
    near v w i number arrow (inr there) = ⊎_elim
        (λ earlier. inr earlier)
        (λ last.
        let w_is : number_at numbers w ≡ Some k = ap (λ l. number_at numbers l.to) (sym last) ∙ known in
        inl (k, w_is, turned v w i k number w_is last (exploring.near w v k w_is (back v w arrow))))
        (Contains-push_cases leads lead (record { from = Some i; to = w }) there)

    roots : (v : ℕ) → ((i : ℕ) × (number_at numbers v ≡ Some i)) ⊎ Contains (leads ++ lead ∷ []) (record { from = None; to = v })
        → ((i : ℕ) × (number_at numbers v ≡ Some i)) ⊎ Contains leads (record { from = None; to = v })
    roots v (inl has) = inl has
    roots v (inr there) = ⊎_elim (λ earlier. inr earlier) (λ last. inl (k, ap (λ l. number_at numbers l.to) (sym last) ∙ known))
        (Contains-push_cases leads lead (record { from = None; to = v }) there)

  module _ (new : number_at numbers lead.to ≡ None) where
    lead_is : IsLead size arrows numbers lead
    lead_is = exploring.each lead (Contains-push leads lead)

    here : number_at (set numbers lead.to (Some (length parents))) lead.to ≡ Some (length parents)
    here = get_or-set_same numbers lead.to (Some (length parents)) None (let e = exploring.numbering.size_is in let b = lead_is.below in omega arith)

    -- a number that was there stays
    stays : (v i : ℕ) → number_at numbers v ≡ Some i → number_at (set numbers lead.to (Some (length parents))) v ≡ Some i
    stays v i known = ⊎_elim
        (λ same. let none : number_at numbers v ≡ None = ap (number_at numbers) same ∙ new in cc)
        (λ differs. get_or-set_other numbers lead.to v (Some (length parents)) None differs ∙ known)
        (cases_eq v lead.to)

    -- and a number that is there now was there, or is the new one
    was : (v i : ℕ) → number_at (set numbers lead.to (Some (length parents))) v ≡ Some i → (number_at numbers v ≡ Some i) ⊎ ((v ≡ lead.to) × (i ≡ length parents))
    was v i known = ⊎_elim
        (λ same. inr (same, sym (same_Some (length parents) i (sym here ∙ (sym (ap (number_at (set numbers lead.to (Some (length parents)))) same) ∙ known)))))
        (λ differs. inl (sym (get_or-set_other numbers lead.to v (Some (length parents)) None differs) ∙ known))
        (cases_eq v lead.to)

    linked_stays : (i j : ℕ) → AreLinked arrows numbers i j → AreLinked arrows (set numbers lead.to (Some (length parents))) i j
    linked_stays i j (v, w, v_is, w_is, arrow) = (v, w, stays v i v_is, stays w j w_is, arrow)

    counted_new : length (parents ++ lead.from ∷ []) + count_by is_new (set numbers lead.to (Some (length parents))) ≡ size
    counted_new =
        let inside : lead.to < length numbers = (let e = exploring.numbering.size_is in let b = lead_is.below in omega arith) in
        let longer = length_push parents lead.from in
        let step = sum_by-set (λ x. cond (is_new x) 1 0) numbers lead.to (Some (length parents)) None inside in
        let was_one : as_new (number_at numbers lead.to) ≡ as_new None = ap as_new new in
        let before = exploring.numbering.counted in
        omega (arith, step, was_one, before)

    numbering_new : IsNumbering size arrows (set numbers lead.to (Some (length parents))) (parents ++ lead.from ∷ [])
    numbering_new = record {
      size_is = length-set numbers lead.to (Some (length parents)) ∙ exploring.numbering.size_is;
      counted = counted_new;
      below = λ v i known. let longer = length_push parents lead.from in ⊎_elim (λ old. let b = exploring.numbering.below v i old in omega arith) (λ (at, is). omega arith)
          (was v i known);
      one = λ v w i v_is w_is. one v w i (was v i v_is) (was w i w_is);
      falls = λ j p parent. falls j p (parent_was parents lead.from j p parent);
      tree = λ j p parent. tree j p (parent_was parents lead.from j p parent);
    } where
      one : (v w i : ℕ) → (number_at numbers v ≡ Some i) ⊎ ((v ≡ lead.to) × (i ≡ length parents)) → (number_at numbers w ≡ Some i) ⊎ ((w ≡ lead.to) × (i ≡ length parents)) → v ≡ w
      one v w i (inl v_old) (inl w_old) = exploring.numbering.one v w i v_old w_old
      one v w i (inl v_old) (inr (w_at, is)) = let b = exploring.numbering.below v i v_old in absurd (omega arith)
      one v w i (inr (v_at, is)) (inl w_old) = let b = exploring.numbering.below w i w_old in absurd (omega arith)
      one v w i (inr (v_at, v_is)) (inr (w_at, w_is)) = v_at ∙ sym w_at

      falls : (j p : ℕ) → (parent_of parents j ≡ Some p) ⊎ ((j ≡ length parents) × (lead.from ≡ Some p)) → p < j
      falls j p (inl old) = exploring.numbering.falls j p old
      falls j p (inr (last, from)) =
          let (v, v_is, arrow) = lead_is.along p from in
          let b : p < length parents = exploring.numbering.below v p v_is in
          omega arith

      tree : (j p : ℕ) → (parent_of parents j ≡ Some p) ⊎ ((j ≡ length parents) × (lead.from ≡ Some p)) → AreLinked arrows (set numbers lead.to (Some (length parents))) p j
      tree j p (inl old) = linked_stays p j (exploring.numbering.tree j p old)
      tree j p (inr (last, from)) =
          let (v, v_is, arrow) = lead_is.along p from in
          (v, lead.to, stays v p v_is, here ∙ ap Some (sym last), arrow)

    lead_stays : (other : Lead) → IsLead size arrows numbers other → IsLead size arrows (set numbers lead.to (Some (length parents))) other
    lead_stays other is = record {
      below = is.below;
      along = λ i from. let (v, v_is, arrow) = is.along i from in (v, stays v i v_is, arrow);
    }

    new_lead : (other : Lead) → Contains (map (lead_along (length parents)) (arrows_from arrows lead.to)) other
        → (w : ℕ) × Contains arrows (record { from = lead.to; to = w }) × (other ≡ record { from = Some (length parents); to = w })
    new_lead other there =
        let (arrow, among, is) = Contains-from_map (lead_along (length parents)) (arrows_from arrows lead.to) other there in
        let (has, passes) = Contains-from_filter (λ a. eqb a.from lead.to) arrows arrow among in
        let from : arrow.from ≡ lead.to = eqb-true arrow.from lead.to passes in
        (arrow.to, subst (λ f. Contains arrows (record { from = f; to = arrow.to })) from has, is)

    has_new : (w : ℕ) → Contains arrows (record { from = lead.to; to = w })
        → Contains (map (lead_along (length parents)) (arrows_from arrows lead.to)) (record { from = Some (length parents); to = w })
    has_new w has =
        let arrow : Arrow = record { from = lead.to; to = w } in
        Contains-map (lead_along (length parents)) (arrows_from arrows lead.to) arrow (Contains-filter (λ a. eqb a.from lead.to) arrows arrow has (eq-eqb lead.to lead.to refl))

    -- a new vertex gets the next number, and its arrows are the next leads
    pub new_keeps : IsExploring size arrows (set numbers lead.to (Some (length parents))) (parents ++ lead.from ∷ [])
        (leads ++ map (lead_along (length parents)) (arrows_from arrows lead.to))
    new_keeps = record {
      numbering = numbering_new;
      each = λ other there. ⊎_elim
          (λ old. lead_stays other (exploring.each other (Contains-append_left leads (lead ∷ []) other old)))
          (λ added. each_new other (new_lead other added))
          (Contains-append_cases leads (map (lead_along (length parents)) (arrows_from arrows lead.to)) other there);
      stack = AllPairs-append (λ f g. IsUnder (parents ++ lead.from ∷ []) f.from g.from) leads (map (lead_along (length parents)) (arrows_from arrows lead.to)) old_pairs new_pairs
          (λ f g f_there g_there. across f g (AllPairs-last (λ f g. IsUnder parents f.from g.from) leads lead f exploring.stack f_there) (new_lead g g_there));
      near = λ v w i known arrow. near v w i arrow (was v i known);
      roots = λ v inside. roots v (exploring.roots v inside);
    } where
      each_new : (other : Lead) → (w : ℕ) × Contains arrows (record { from = lead.to; to = w }) × (other ≡ record { from = Some (length parents); to = w })
          → IsLead size arrows (set numbers lead.to (Some (length parents))) other
      each_new other (w, arrow, is) = subst (IsLead size arrows (set numbers lead.to (Some (length parents)))) (sym is) (record {
        below = (All-contains (HasPlacesBelow size) arrows (record { from = lead.to; to = w }) below arrow).1;
        along = λ i from. (lead.to, here ∙ from, arrow);
      })

      old_pairs : AllPairs (λ f g. IsUnder (parents ++ lead.from ∷ []) f.from g.from) leads
      old_pairs i j d before inside =
          under_stays parents lead.from (get_or leads i d).from (get_or leads j d).from
          (AllPairs-front (λ f g. IsUnder parents f.from g.from) leads (lead ∷ []) exploring.stack i j d before inside)

      across : (f g : Lead) → IsUnder parents f.from lead.from
          → (w : ℕ) × Contains arrows (record { from = lead.to; to = w }) × (g ≡ record { from = Some (length parents); to = w })
          → IsUnder (parents ++ lead.from ∷ []) f.from g.from
      across f g under (w, arrow, is) = subst (λ l. IsUnder (parents ++ lead.from ∷ []) f.from l.from) (sym is) (under_new parents f.from lead.from under)

      both_new : (f g : Lead) → (w : ℕ) × Contains arrows (record { from = lead.to; to = w }) × (f ≡ record { from = Some (length parents); to = w })
          → (w : ℕ) × Contains arrows (record { from = lead.to; to = w }) × (g ≡ record { from = Some (length parents); to = w })
          → IsUnder (parents ++ lead.from ∷ []) f.from g.from
      both_new f g (w, f_arrow, f_is) (z, g_arrow, g_is) =
          subst (λ l. IsUnder (parents ++ lead.from ∷ []) f.from l.from) (sym g_is)
          (subst (λ l. IsUnder (parents ++ lead.from ∷ []) l.from (Some (length parents))) (sym f_is) (ancestor_itself (parents ++ lead.from ∷ []) (length parents)))

      new_pairs : AllPairs (λ f g. IsUnder (parents ++ lead.from ∷ []) f.from g.from) (map (lead_along (length parents)) (arrows_from arrows lead.to))
      new_pairs i j d before inside =
          let ls = map (lead_along (length parents)) (arrows_from arrows lead.to) in
          both_new (get_or ls i d) (get_or ls j d) (new_lead (get_or ls i d) (Contains-get_or ls i d (omega arith))) (new_lead (get_or ls j d) (Contains-get_or ls j d inside))

      lift : (v w i : ℕ) → ((j : ℕ) × (number_at numbers w ≡ Some j) × AreRelated parents i j) ⊎ Contains (leads ++ lead ∷ []) (record { from = Some i; to = w })
          → ((j : ℕ) × (number_at (set numbers lead.to (Some (length parents))) w ≡ Some j) × AreRelated (parents ++ lead.from ∷ []) i j)
          ⊎ Contains (leads ++ map (lead_along (length parents)) (arrows_from arrows lead.to)) (record { from = Some i; to = w })
      lift v w i (inl (j, w_is, related)) = inl (j, stays w j w_is, related_stays parents lead.from i j related)
      lift v w i (inr there) = ⊎_elim
          (λ earlier. inr (Contains-append_left leads (map (lead_along (length parents)) (arrows_from arrows lead.to)) (record { from = Some i; to = w }) earlier))
          (λ last. inl (
            length parents,
            ap (λ l. number_at (set numbers lead.to (Some (length parents))) l.to) (sym last)
                ∙ here,
            inl (ancestor_above (parents ++ lead.from ∷ []) i i (length parents) (parent_last parents lead.from ∙ ap (λ l. l.from) last)
                (ancestor_itself (parents ++ lead.from ∷ []) i)),
          ))
          (Contains-push_cases leads lead (record { from = Some i; to = w }) there)

      near : (v w i : ℕ) → Contains arrows (record { from = v; to = w }) → (number_at numbers v ≡ Some i) ⊎ ((v ≡ lead.to) × (i ≡ length parents))
          → ((j : ℕ) × (number_at (set numbers lead.to (Some (length parents))) w ≡ Some j) × AreRelated (parents ++ lead.from ∷ []) i j)
          ⊎ Contains (leads ++ map (lead_along (length parents)) (arrows_from arrows lead.to)) (record { from = Some i; to = w })
      near v w i arrow (inl old) = lift v w i (exploring.near v w i old arrow)
      near v w i arrow (inr (at, is)) =
          inr (Contains-append_right leads (map (lead_along (length parents)) (arrows_from arrows lead.to)) (record { from = Some i; to = w })
          (subst (λ n. Contains (map (lead_along (length parents)) (arrows_from arrows lead.to)) (record { from = Some n; to = w })) (sym is)
          (has_new w (subst (λ n. Contains arrows (record { from = n; to = w })) at arrow))))

      roots : (v : ℕ) → ((i : ℕ) × (number_at numbers v ≡ Some i)) ⊎ Contains (leads ++ lead ∷ []) (record { from = None; to = v })
          → ((i : ℕ) × (number_at (set numbers lead.to (Some (length parents))) v ≡ Some i))
          ⊎ Contains (leads ++ map (lead_along (length parents)) (arrows_from arrows lead.to)) (record { from = None; to = v })
      roots v (inl (i, known)) = inl (i, stays v i known)
      roots v (inr there) = ⊎_elim
          (λ earlier. inr (Contains-append_left leads (map (lead_along (length parents)) (arrows_from arrows lead.to)) (record { from = None; to = v }) earlier))
          (λ last. inl (length parents, ap (λ l. number_at (set numbers lead.to (Some (length parents))) l.to) (sym last) ∙ here))
          (Contains-push_cases leads lead (record { from = None; to = v }) there)

-- where no lead is left, the search is done
pub explored_all : (size : ℕ) (arrows : List Arrow) (numbers parents : List (Option ℕ)) → IsExploring size arrows numbers parents [] → IsDepthFirst size arrows numbers parents
explored_all size arrows numbers parents exploring = record {
  numbering = exploring.numbering;
  all = λ v inside. ⊎_elim (λ has. has) (λ (k, within, is). absurd (omega arith)) (exploring.roots v inside);
  near = λ v w i j v_is w_is arrow. ⊎_elim
      (λ (n, n_is, related). subst (AreRelated parents i) (same_Some n j (sym n_is ∙ w_is)) related)
      (λ (k, within, is). absurd (omega arith))
      (exploring.near v w i v_is arrow);
}

-- a number that was read is none, or some
pub none_at : (numbers : List (Option ℕ)) (v : ℕ) (read : Option ℕ) → v < length numbers → read ≡ get_or numbers v read → is_some read ≡ false → number_at numbers v ≡ None
none_at numbers v None inside is none = sym is
none_at numbers v (Some k) inside is none = cc

pub some_at : (numbers : List (Option ℕ)) (v : ℕ) (read : Option ℕ) → v < length numbers → read ≡ get_or numbers v read → is_some read ≡ true
    → (k : ℕ) × (number_at numbers v ≡ Some k)
some_at numbers v None inside is some = absurd cc
some_at numbers v (Some k) inside is some = (k, get_or_default numbers v None (Some k) inside ∙ sym is)

-- a lead is to one of the vertices
pub lead_inside : (size : ℕ) (arrows : List Arrow) (numbers parents : List (Option ℕ)) (leads : List Lead) (lead : Lead)
    → IsExploring size arrows numbers parents (leads ++ lead ∷ []) → lead.to < length numbers
lead_inside size arrows numbers parents leads lead exploring =
    let below = (exploring.each lead (Contains-push leads lead)).below in
    let same = exploring.numbering.size_is in
    omega arith

-- with a vertex entered less is left to do
pub enter_nearer : (arrows : List Arrow) (numbers : List (Option ℕ)) (leads : List Lead) (lead : Lead) (number : ℕ) → lead.to < length numbers → number_at numbers lead.to ≡ None
    → left_to_do arrows (set numbers lead.to (Some number)) (leads ++ map (lead_along number) (arrows_from arrows lead.to)) < left_to_do arrows numbers (leads ++ lead ∷ [])
enter_nearer arrows numbers leads lead number inside new =
    let step = sum_by-set (λ x. cond (is_new x) 1 0) numbers lead.to (Some number) None inside in
    let was_one : as_new (number_at numbers lead.to) ≡ as_new None = ap as_new new in
    let added = length-append leads (map (lead_along number) (arrows_from arrows lead.to)) in
    let mapped = length-map (arrows_from arrows lead.to) (lead_along number) in
    let kept = length-filter (λ a. eqb a.from lead.to) arrows in
    let few = count_by-le-length (λ a. eqb a.from lead.to) arrows in
    let last = length_push leads lead in
    less_to_do (count_by is_new (set numbers lead.to (Some number))) (count_by is_new numbers) (length arrows) (length leads)
    (length (map (lead_along number) (arrows_from arrows lead.to))) (length (leads ++ map (lead_along number) (arrows_from arrows lead.to))) (length (leads ++ lead ∷ []))
    (omega (arith, step, was_one)) (omega (arith, mapped, kept, few)) added last where
      less_to_do : (now before size old more all whole : ℕ) → before ≡ now + 1 → more ≤ size → all ≡ old + more → whole ≡ old + 1
          → now * (size + 1) + all < before * (size + 1) + whole
      less_to_do now before size old more all whole one few all_is whole_is = rw (one, all_is, whole_is) (omega arith)

-- before the first lead is taken
pub nothing_explored : (size : ℕ) (arrows : List Arrow) (numbers parents : List (Option ℕ)) (leads : List Lead) → numbers ≡ replicate size None → parents ≡ []
    → length leads ≡ size → ((v : ℕ) (d : Lead) → v < size → get_or leads v d ≡ record { from = None; to = v }) → IsExploring size arrows numbers parents leads
nothing_explored size arrows numbers parents leads numbers_are parents_are leads_len leads_are = record {
  numbering = record {
    size_is = ap length numbers_are ∙ length-replicate size None;
    counted = (let a = ap length parents_are in let b = ap (count_by is_new) numbers_are ∙ all_new size in omega arith);
    below = λ v i known. absurd (no_number v i known);
    one = λ v w i known other. absurd (no_number v i known);
    falls = λ j p parent. absurd (no_parent j p parent);
    tree = λ j p parent. absurd (no_parent j p parent);
  };
  each = λ lead there. let (v, v_below, v_is) = lead_is lead there in subst (IsLead size arrows numbers) (sym v_is)
      (record { below = v_below; along = λ i from. let e : None ≡ Some i = from in absurd cc });
  stack = λ i j d before inside. subst (λ l. IsUnder parents l.from (get_or leads j d).from) (sym (leads_are i d (omega arith))) tt;
  near = λ v w i known arrow. absurd (no_number v i known);
  roots = λ v inside. inr (v, omega arith, leads_are v (record { from = None; to = v }) inside);
} where
  all_new : (n : ℕ) → count_by is_new (replicate n None) ≡ n
  all_new n =
      let all : count_by is_new (replicate n None) ≡ n * 1 = sum_by-replicate as_new n None in
      omega (arith, all)

  no_number : (v i : ℕ) → number_at numbers v ≡ Some i → ⊥
  no_number v i known = by (cases_lt v size) where
    at : number_at numbers v ≡ number_at (replicate size None) v
    at = ap (λ ns. number_at ns v) numbers_are

    by : (v < size) ⊎ (size ≤ v) → ⊥
    by (inl inside) = let none : number_at (replicate size None) v ≡ None = get_or-replicate size v None None inside in let e : Some i ≡ None = sym known ∙ (at ∙ none) in cc
    by (inr past) =
        let size_is : length numbers ≡ size = ap length numbers_are ∙ length-replicate size None in
        let none : number_at numbers v ≡ None = get_or_past numbers v None (omega arith) in
        let e : Some i ≡ None = sym known ∙ none in
        cc

  no_parent : (j p : ℕ) → parent_of parents j ≡ Some p → ⊥
  no_parent j p parent = let none : parent_of parents j ≡ None = ap (λ ps. parent_of ps j) parents_are in let e : Some p ≡ None = sym parent ∙ none in cc

  lead_is : (lead : Lead) → Contains leads lead → (v : ℕ) × (v < size) × (lead ≡ record { from = None; to = v })
  lead_is lead (k, inside, is) = (k, omega arith, sym is ∙ leads_are k lead (omega arith))
