-- The three lists from the members of spans: classes, bridges and articulation points, each by its own definition.
use Rattle.std.proofs.Common.{◌≡◌, ◌≢◌, ◌⊎◌, inl, inr, ⊎_elim, ℕ, zero, suc, ◌<◌, Bool, true, false, not, ◌&&◌, cond, eqb, List, [], ◌∷◌, length, get_or, map, Option, Some, None, ℤ, refl, sym, subst, ◌∙◌, ap, arith, Ordering, Less, Equal, Greater}
use Rattle.std.specs.Bool.{MatchBool}
use Rattle.std.specs.Cmp.{IsTotalOrder}
use Rattle.std.specs.List.{Contains, AllPairs, flat_map, IsDistinct}
use Rattle.std.specs.List.Sorted.{IsPermutation, IsSorted}
use Rattle.std.specs.Ordering.{int_cmp, int_eq, ordering_reverse, is_lt, is_eq}
use Rattle.std.proofs.lemmas.Bool.{cases_Bool, both_ways, eqb-false, ne_eqb, true≢false, false≢true}
use Rattle.std.proofs.lemmas.Cmp.{int_cmp_total, int_eq_equiv, on_total, then_total}
use Rattle.std.proofs.lemmas.List.Sorted.{sorted_far, ranks_by, Contains-permutation, IsPermutation-sym}
use Rattle.std.proofs.lemmas.Map.Keys.{IsDistinct-from_apart, IsDistinct-IsPermutation, apart_from_distinct}
use Rattle.pgr_outside.specs.Lists.{IsStrictlyRising}
use Rattle.pgr_walks.specs.LinkOrders.{then_tie}
use Rattle.pgr_numbers.specs.Names.{id_at}
use Rattle.pgr_spans.specs.declared.span.Span.{Span}
use Rattle.pgr_spans.specs.declared.classed.Classed.{Classed}
use Rattle.pgr_spans.specs.declared.member.Member.{Member}
use Rattle.pgr_spans.specs.declared.seen.Entry.{Entry}
use Rattle.pgr_spans.specs.declared.seen.Seen.{Seen}
use Rattle.pgr_spans.specs.Linked.{HasEnd}
use Rattle.pgr_spans.specs.Block.{LinkedOutside, InOneBlock, IsBlockName}
use Rattle.pgr_spans.specs.ArticulationPoint.{IsArticulationPoint}
use Rattle.pgr_spans.specs.Bridge.{IsBridge}
use Rattle.pgr_spans.specs.Lists.{HaveRisingEdges, AreClasses, ArePoints, AreBridges, classed_cmp}
use Rattle.pgr_spans.specs.Seen.{IsUnderKey, IsKnown, AreSeen, parts}
use Rattle.pgr_spans.specs.Member.{classed_of, bridge_of, corners_of, ArePointsAt}
use Rattle.pgr_spans.proofs.Outside.{cases_id, outside_of}
use Rattle.pgr_spans.proofs.Points.{point_between, no_point}
use Rattle.pgr_spans.proofs.Bridges.{bridge_alone, no_bridge}
use Rattle.pgr_spans.proofs.Numbering.{one_place}
use Rattle.pgr_spans.proofs.Membership.{IsMemberOf, name_by_block, block_by_name}
use Rattle.pgr_outside.proofs.Lists.{Contains-map, Contains-from_map, Contains-flat_map, Contains-from_flat_map}
use Rattle.pgr_spans.proofs.Lists.{AllPairs-flat_map, AllPairs-map}

-- an id is in a list or not
cases_contains : (xs : List ℤ) (x : ℤ) → Contains xs x ⊎ (Contains xs x → ⊥)
cases_contains [] x = inr (λ (k, inside, is). omega arith)
cases_contains (y ∷ ys) x = by (cases_id y x) (cases_contains ys x) where
  by : (y ≡ x) ⊎ (y ≢ x) → Contains ys x ⊎ (Contains ys x → ⊥) → Contains (y ∷ ys) x ⊎ (Contains (y ∷ ys) x → ⊥)
  by (inl here) rest = inl (0, omega arith, here)
  by (inr not) (inl (k, inside, is)) = inl (suc k, omega arith, is)
  by (inr not) (inr none) = inr (λ found. neither found) where
    neither : Contains (y ∷ ys) x → ⊥
    neither (zero, inside, is) = not is
    neither (suc k, inside, is) = none (k, omega arith, is)

-- the order of classes is total
classed_total : IsTotalOrder classed_cmp
classed_total = then_total (on_total (λ (c : Classed). c.component) int_cmp_total) (on_total (λ (c : Classed). c.edge) int_cmp_total)

-- what is not equal, and what follows of which is not less, is less
less_by_rest : (o p : Ordering) → o ≡ ordering_reverse p → (o ≡ Equal → ⊥) → is_lt p ≡ false → o ≡ Less
less_by_rest Less p e differ later = refl
less_by_rest Equal p e differ later = absurd (differ refl)
less_by_rest Greater Less e differ later = cc
less_by_rest Greater Equal e differ later = cc
less_by_rest Greater Greater e differ later = cc

-- whether two classes have one edge
abbrev same_edge : Classed → Classed → Bool
same_edge c d = int_eq c.edge d.edge

-- two classes with the same parts are the same
same_class : (c d : Classed) → c.component ≡ d.component → c.edge ≡ d.edge → c ≡ d
same_class c d component edge = ap (λ x. record c { component = x }) component ∙ ap (λ x. record d { edge = x }) edge

module _ (spans : List Span) (rise : HaveRisingEdges spans) (names : List ℤ) (names_rise : IsStrictlyRising int_cmp names) (members : List Member)
    (members_rise : AllPairs (λ m n. int_cmp m.edge n.edge ≡ Less) members)
    (of_span : (s : Span) → Contains spans s → (member : Member) × Contains members member × IsMemberOf spans names s member)
    (of_member : (member : Member) → Contains members member → (s : Span) × Contains spans s × IsMemberOf spans names s member) where
  -- sorted, the classes rise
  classes_rise : (classes : List Classed) → IsPermutation (map classed_of members) classes → IsSorted classed_cmp classes → IsStrictlyRising classed_cmp classes
  classes_rise classes moved sorted i j d before inside =
      let in_turn = AllPairs-map (λ c e. int_cmp c.edge e.edge ≡ Less) classed_of members members_rise in
      let apart : IsDistinct same_edge (map classed_of members) = IsDistinct-from_apart same_edge (map classed_of members)
      (λ m n x m_before n_inside. ap is_eq (in_turn m n x m_before n_inside)) in
      let distinct : IsDistinct same_edge classes = IsDistinct-IsPermutation same_edge (λ c e. int_eq_equiv.symm c.edge e.edge) (map classed_of members) classes moved apart in
      let differ = apart_from_distinct same_edge classes i j d distinct before inside in
      less_by_rest (classed_cmp (get_or classes i d) (get_or classes j d)) (classed_cmp (get_or classes j d) (get_or classes i d))
      (classed_total.antisymm (get_or classes i d) (get_or classes j d))
      (λ equal.
      let tie = then_tie (int_cmp (get_or classes i d).component (get_or classes j d).component) (int_cmp (get_or classes i d).edge (get_or classes j d).edge) equal in
      let same : int_eq (get_or classes i d).edge (get_or classes j d).edge ≡ true = ap is_eq tie.1 in
      both_ways (int_eq (get_or classes i d).edge (get_or classes j d).edge) differ same)
      (sorted_far (λ x y. is_lt (classed_cmp x y)) (ranks_by classed_total (λ x. x)) classes sorted i j d (omega arith) inside)

  pub are_classes : (classes : List Classed) → IsPermutation (map classed_of members) classes → IsSorted classed_cmp classes → AreClasses spans classes
  are_classes classes moved sorted = record {
    rise = classes_rise classes moved sorted;
    every = λ s s_has.
        let (m, m_has, is) = of_span s s_has in
        let (k, inside, at) = Contains-permutation (map classed_of members) classes (classed_of m) moved (Contains-map classed_of members m m_has) in
        (k, classed_of m, inside, at, is.edge);
    each = λ c. (
      (λ has.
          let (m, m_has, is) = Contains-from_map classed_of members c
          (Contains-permutation classes (map classed_of members) c (IsPermutation-sym (map classed_of members) classes moved) has) in
          let (s, s_has, s_is) = of_member m m_has in
          (s, s_has, ap (λ x. x.edge) is ∙ s_is.edge, subst (IsBlockName spans s) (sym (ap (λ x. x.component) is)) s_is.name)),
      (λ (s, s_has, edge, name).
          let (m, m_has, is) = of_span s s_has in
          let component = name_by_block spans rise s s c.component m.component s_has s_has name is.name (inl refl) in
          let same : c ≡ classed_of m = same_class c (classed_of m) component (edge ∙ sym is.edge) in
          Contains-permutation (map classed_of members) classes c moved (subst (Contains (map classed_of members)) (sym same) (Contains-map classed_of members m m_has))),
    );
  }

  -- a member whose places differ is no loop, and the other way round
  places_differ : (s : Span) (m : Member) → IsMemberOf spans names s m → m.from ≢ m.to → s.a ≢ s.b
  places_differ s m is differ loop =
      differ (one_place names m.from m.to names_rise is.from_below is.to_below (is.from ∙ (loop ∙ sym is.to)))

  ends_differ : (s : Span) (m : Member) → IsMemberOf spans names s m → s.a ≢ s.b → m.from ≢ m.to
  ends_differ s m is differ same = differ (sym is.from ∙ (ap (id_at names) same ∙ is.to))

  -- what a member gives the bridges
  bridge_in : (m : Member) (y : ℤ) → Contains (bridge_of m) y → (m.alone ≡ true) × (m.from ≢ m.to) × (m.edge ≡ y)
  bridge_in m y has = by m.alone (eqb m.from m.to) refl refl has where
    by : (alone same : Bool) → m.alone ≡ alone → eqb m.from m.to ≡ same → Contains (cond (alone && not same) (m.edge ∷ []) []) y → (m.alone ≡ true) × (m.from ≢ m.to) × (m.edge ≡ y)
    by true false is differ (zero, inside, at) = (is, eqb-false m.from m.to differ, at)
    by true false is differ (suc k, inside, at) = absurd (omega arith)
    by true true is same (k, inside, at) = absurd (omega arith)
    by false same is e (k, inside, at) = absurd (omega arith)

  bridge_from : (m : Member) → m.alone ≡ true → m.from ≢ m.to → Contains (bridge_of m) m.edge
  bridge_from m alone differ =
      let apart = ne_eqb m.from m.to differ in
      subst (λ b. Contains (cond (b && not (eqb m.from m.to)) (m.edge ∷ []) []) m.edge) (sym alone)
      (subst (λ b. Contains (cond (true && not b) (m.edge ∷ []) []) m.edge) (sym apart) (0, omega arith, refl))

  -- what one member gives doesn't repeat
  bridge_once : (m : Member) → AllPairs (λ x y. int_cmp x y ≡ Less) (bridge_of m)
  bridge_once m = by (m.alone && not (eqb m.from m.to)) where
    by : (b : Bool) → AllPairs (λ x y. int_cmp x y ≡ Less) (cond b (m.edge ∷ []) [])
    by true i j d before inside = absurd (omega arith)
    by false i j d before inside = absurd (omega arith)

  alone_bridge : (s : Span) (m : Member) → Contains spans s → IsMemberOf spans names s m → m.alone ≡ true → m.from ≢ m.to → IsBridge spans s
  alone_bridge s m has is alone differ = by m.alone alone is.alone where
    by : (b : Bool) → b ≡ true → MatchBool b ((other : Span) → Contains spans other → other ≢ s → InOneBlock spans s other → ⊥)
        ((other : Span) × Contains spans other × (other ≢ s) × InOneBlock spans s other) → IsBridge spans s
    by true e none = bridge_alone spans s has (places_differ s m is differ) none
    by false e found = absurd (false≢true e)

  bridge_is_alone : (s : Span) (m : Member) → IsMemberOf spans names s m → IsBridge spans s → m.alone ≡ true
  bridge_is_alone s m is bridge = by m.alone is.alone where
    by : (b : Bool) → MatchBool b ((other : Span) → Contains spans other → other ≢ s → InOneBlock spans s other → ⊥)
        ((other : Span) × Contains spans other × (other ≢ s) × InOneBlock spans s other) → b ≡ true
    by true none = refl
    by false (other, has, differs, block) = absurd (no_bridge spans s other differs block bridge)

  pub are_bridges : AreBridges spans (flat_map bridge_of members)
  are_bridges = record {
    rise = AllPairs-flat_map (λ m n. int_cmp m.edge n.edge ≡ Less) (λ x y. int_cmp x y ≡ Less) bridge_of bridge_once
        (λ m n y w less y_in w_in. subst (λ z. int_cmp z w ≡ Less) (bridge_in m y y_in).2 (subst (λ z. int_cmp m.edge z ≡ Less) (bridge_in n w w_in).2 less))
        members members_rise;
    each = λ edge. (
      (λ has.
          let (m, m_has, among) = Contains-from_flat_map bridge_of members edge has in
          let (alone, differ, is_edge) = bridge_in m edge among in
          let (s, s_has, is) = of_member m m_has in
          (s, s_has, sym is.edge ∙ is_edge, alone_bridge s m s_has is alone differ)),
      (λ (s, s_has, is_edge, bridge).
          let (m, m_has, is) = of_span s s_has in
          Contains-flat_map bridge_of members m edge m_has (subst (Contains (bridge_of m)) (is.edge ∙ is_edge)
          (bridge_from m (bridge_is_alone s m is bridge) (ends_differ s m is bridge.0)))),
    );
  }

  -- what stands under a place among the corners: the component of a span that is no loop and has this end
  record Meets (v : ℕ) (value : ℤ) : Type 0 where
    span : Span
    has : Contains spans span
    differ : span.a ≢ span.b
    at : HasEnd span (id_at names v)
    name : IsBlockName spans span value

  meets : (v : ℕ) (value : ℤ) → IsUnderKey (flat_map corners_of members) v value → Meets v value
  meets v value there =
      let entry : Entry = record { key = v; value = value } in
      let (m, m_has, among) = Contains-from_flat_map corners_of members entry there in
      let (s, s_has, is) = of_member m m_has in
      by m s s_has is (eqb m.from m.to) refl among where
        by : (m : Member) (s : Span) → Contains spans s → IsMemberOf spans names s m → (b : Bool) → eqb m.from m.to ≡ b
            → Contains {X = Entry} (cond b [] (record { key = m.from; value = m.component } ∷ record { key = m.to; value = m.component } ∷ [])) (record { key = v; value = value })
            → Meets v value
        by m s s_has is true e (k, inside, at) = absurd (omega arith)
        by m s s_has is false e (zero, inside, at) = record {
          span = s;
          has = s_has;
          differ = places_differ s m is (eqb-false m.from m.to e);
          at = inl (ap (id_at names) (sym (ap (λ x. x.key) at)) ∙ is.from);
          name = subst (IsBlockName spans s) (ap (λ x. x.value) at) is.name;
        }
        by m s s_has is false e (suc zero, inside, at) = record {
          span = s;
          has = s_has;
          differ = places_differ s m is (eqb-false m.from m.to e);
          at = inr (ap (id_at names) (sym (ap (λ x. x.key) at)) ∙ is.to);
          name = subst (IsBlockName spans s) (ap (λ x. x.value) at) is.name;
        }
        by m s s_has is false e (suc (suc k), inside, at) = absurd (omega arith)

  -- the component of a span that is no loop stands under the place of each of its ends
  corner_at : (s : Span) (m : Member) (x : ℤ) → Contains members m → IsMemberOf spans names s m → s.a ≢ s.b → HasEnd s x
      → (v : ℕ) × (v < length names) × (id_at names v ≡ x) × IsUnderKey (flat_map corners_of members) v m.component
  corner_at s m x has is differ end =
      let apart = ne_eqb m.from m.to (ends_differ s m is differ) in
      let first : Entry = record { key = m.from; value = m.component } in
      let second : Entry = record { key = m.to; value = m.component } in
      ⊎_elim
      (λ at. (
        m.from,
        is.from_below,
        is.from ∙ sym at,
        Contains-flat_map corners_of members m first has
            (subst (λ b. Contains (cond b [] (first ∷ second ∷ [])) first) (sym apart) (0, omega arith, refl)),
      ))
      (λ at. (
        m.to,
        is.to_below,
        is.to ∙ sym at,
        Contains-flat_map corners_of members m second has
            (subst (λ b. Contains (cond b [] (first ∷ second ∷ [])) second) (sym apart) (1, omega arith, refl)),
      ))
      end

  module _ (found : List (Option Seen)) (seen : AreSeen (length names) (flat_map corners_of members) found) (points : List ℤ) (at_places : ArePointsAt names found points) where
    -- two components at one place make its id a point
    parts_point : (v : ℕ) (x : ℤ) → id_at names v ≡ x → (known : Option Seen) → IsKnown (flat_map corners_of members) v known → parts known ≡ true → IsArticulationPoint spans x
    parts_point v x id None none parted = absurd (false≢true parted)
    parts_point v x id (Some one) known parted = by one.same parted known.others where
      by : (b : Bool) → not b ≡ true → MatchBool b ((value : ℤ) → IsUnderKey (flat_map corners_of members) v value → value ≡ one.first)
          ((value : ℤ) × IsUnderKey (flat_map corners_of members) v value × (value ≢ one.first)) → IsArticulationPoint spans x
      by true e all = absurd (false≢true e)
      by false e (value, there, differs) =
          let s = meets v one.first known.first in
          let t = meets v value there in
          point_between spans x s.span t.span s.has t.has (subst (HasEnd s.span) id s.at) (subst (HasEnd t.span) id t.at) s.differ t.differ
          (λ block. differs (sym (name_by_block spans rise s.span t.span one.first value s.has t.has s.name t.name block)))

    -- where the id of a place is no point, the components there are the same
    one_component : (v : ℕ) (p q : ℤ) → parts (get_or found v None) ≡ false → (known : Option Seen) → get_or found v None ≡ known → IsKnown (flat_map corners_of members) v known
        → IsUnderKey (flat_map corners_of members) v p → IsUnderKey (flat_map corners_of members) v q → p ≡ q
    one_component v p q whole None is none p_there q_there = absurd (none p p_there)
    one_component v p q whole (Some one) is known p_there q_there = by one.same (ap parts (sym is) ∙ whole) known.others where
      by : (b : Bool) → not b ≡ false → MatchBool b ((value : ℤ) → IsUnderKey (flat_map corners_of members) v value → value ≡ one.first)
          ((value : ℤ) × IsUnderKey (flat_map corners_of members) v value × (value ≢ one.first)) → p ≡ q
      by true e all = all p p_there ∙ sym (all q q_there)
      by false e other = absurd (true≢false e)

    -- where an id is none of the points, the spans there are linked outside it
    linked_outside : (x : ℤ) → (Contains points x → ⊥) → (e f : Span) → Contains spans e → Contains spans f → HasEnd e x → HasEnd f x → e.a ≢ e.b → f.a ≢ f.b
        → LinkedOutside spans x e f
    linked_outside x outside e f e_has f_has e_end f_end e_differ f_differ =
        let (m, m_has, m_is) = of_span e e_has in
        let (n, n_has, n_is) = of_span f f_has in
        let (v, v_below, v_id, v_there) = corner_at e m x m_has m_is e_differ e_end in
        let (w, w_below, w_id, w_there) = corner_at f n x n_has n_is f_differ f_end in
        let same : v ≡ w = one_place names v w names_rise v_below w_below (v_id ∙ sym w_id) in
        let whole : parts (get_or found v None) ≡ false = ⊎_elim (λ parted. absurd (outside ((at_places.each x).1 (v, v_below, parted, v_id)))) (λ e. e)
        (cases_Bool (parts (get_or found v None))) in
        let component = one_component v m.component n.component whole (get_or found v None) refl (seen.each v v_below) v_there
        (subst (λ k. IsUnderKey (flat_map corners_of members) k n.component) (sym same) w_there) in
        outside_of spans e f (block_by_name spans rise e f m.component f_has m_is.name (subst (IsBlockName spans f) (sym component) n_is.name)) x

    pub are_points : ArePoints spans points
    are_points = record {
      rise = at_places.rise;
      each = λ x. (
        (λ has. let (v, below, parted, id) = (at_places.each x).0 has in parts_point v x id (get_or found v None) (seen.each v below) parted),
        (λ point. ⊎_elim (λ has. has) (λ outside. absurd (no_point spans x (linked_outside x outside) point)) (cases_contains points x)),
      );
    }
