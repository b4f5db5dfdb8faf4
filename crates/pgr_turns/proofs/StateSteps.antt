-- Heads by their edges, and the states at them.
use Rattle.std.proofs.Common.{◌≡◌, ◌≢◌, ◌⊎◌, inl, inr, ℕ, ℤ, zero, suc, ◌+◌, ◌<◌, ◌≤◌, Bool, true, false, cond, ◌||◌, ◌&&◌, eqb, List, [], ◌++◌, map, get_or, refl, sym, ap, ◌∙◌, subst, arith, ⊎_elim, Ordering, Less, Equal, Greater}
use Rattle.std.specs.Prelude.{Contains, All}
use Rattle.std.specs.Ordering.{nat_cmp, int_cmp, ordering_then, ordering_index, is_lt, eq_by_cmp}
use Rattle.std.specs.Cmp.{IsTotalOrder, IsEquivalence, Equal-is}
use Rattle.std.specs.List.{dedup}
use Rattle.std.specs.List.Sorted.{IsSorted, IsPermutation, IsNonDecreasingBy}
use Rattle.std.proofs.lemmas.Bool.{cases_lt, eqb-true, eq-eqb, ne_eqb, and_parts}
use Rattle.std.proofs.lemmas.Cmp.{nat_cmp_total, int_cmp_total, on_total, then_total, tied_itself}
use Rattle.std.proofs.lemmas.List.Elements.{Contains-get_or, Contains-append_left, Contains-append_right, Contains-append_cases}
use Rattle.std.proofs.lemmas.List.Kept.{Contains-dedup, Contains-from_dedup, IsStrictlySortedBy-dedup}
use Rattle.std.proofs.lemmas.List.Sorted.{searchable_from_sorted, Contains-permutation, IsPermutation-sym}
use Rattle.std.proofs.lemmas.Map.Keys.{Less-from_sorted}
use Rattle.pgr_outside.proofs.Lists.{Contains-map, Contains-from_map}
use Rattle.pgr_walks.specs.declared.link.LinkOf.{LinkOf}
use Rattle.pgr_walks.specs.Graph.{IsLinkOf, IsLawful}
use Rattle.pgr_walks.specs.LinkOrders.{int_tie, nat_tie, then_tie}
use Rattle.pgr_walks.specs.ListGraphLaws.{filter_gives, filter_keeps}
use Rattle.pgr_turns.specs.declared.state.State.{State}
use Rattle.pgr_turns.specs.declared.state.Head.{Head}
use Rattle.pgr_turns.specs.declared.trie.Node.{Node}
use Rattle.pgr_turns.specs.declared.trie.Back.{Back}
use Rattle.pgr_turns.specs.Trie.{node_at, back_at}
use Rattle.pgr_turns.specs.States.{head_cmp, state_cmp, edge_index, head_of, run_heads, with_node, states_with, states_below, AreHeads, AreStates, IsHead}

-- what holds of each element holds of all
pub all_from : {X : Type 0} (P : X → Type 0) (xs : List X) → ((x : X) → Contains xs x → P x) → All P xs
all_from P xs each k d inside = each (get_or xs k d) (Contains-get_or xs k d inside)

-- sorted heads stand by their edges
first_not : (o p : Ordering) → is_lt (ordering_then o p) ≡ false → is_lt o ≡ false
first_not Less p h = h
first_not Equal p h = refl
first_not Greater p h = refl

pub heads_in_order : (heads : List Head) → IsSorted head_cmp heads → (edge : ℤ) → IsNonDecreasingBy (edge_index edge) heads
heads_in_order heads sorted edge =
    searchable_from_sorted int_cmp_total (λ (head : Head). head.edge) heads edge (λ k d low inside.
    first_not (int_cmp (get_or heads (k + 1) d).edge (get_or heads k d).edge) (nat_cmp (get_or heads (k + 1) d).vertex (get_or heads k d).vertex) (sorted k d low inside))

-- the heads with an edge
index_equal : (o : Ordering) → eqb (ordering_index o) 1 ≡ true → o ≡ Equal
index_equal Less h = cc
index_equal Equal h = refl
index_equal Greater h = cc

run_gives : (heads : List Head) (edge : ℤ) (head : Head) → Contains (run_heads edge heads) head → Contains heads head × (head.edge ≡ edge)
run_gives heads edge head h =
    let given = filter_gives (λ (x : Head). eqb (edge_index edge x) 1) heads head h in
    (given.0, int_tie head.edge edge (index_equal (int_cmp head.edge edge) given.1))

run_keeps : (heads : List Head) (head : Head) → Contains heads head → Contains (run_heads head.edge heads) head
run_keeps heads head h =
    filter_keeps (λ (x : Head). eqb (edge_index head.edge x) 1) heads head h (ap (λ o. eqb (ordering_index o) 1) (tied_itself int_cmp_total head.edge))

-- states are equal exactly where they compare as equal
pub state_total : IsTotalOrder state_cmp
state_total = then_total (on_total (λ (state : State). state.node) nat_cmp_total) (on_total (λ (state : State). state.vertex) nat_cmp_total)

same_state : (a b : State) → a.node ≡ b.node → a.vertex ≡ b.vertex → a ≡ b
same_state a b node vertex = ap (λ n. record a { node = n }) node ∙ ap (λ v. record b { vertex = v }) vertex

pub state_tie : (a b : State) → state_cmp a b ≡ Equal → a ≡ b
state_tie a b e =
    let both = then_tie (nat_cmp a.node b.node) (nat_cmp a.vertex b.vertex) e in
    same_state a b (nat_tie _ _ both.0) (nat_tie _ _ both.1)

abbrev pub is_state : State → State → Bool
is_state a b = eqb a.node b.node && eqb a.vertex b.vertex

alike : (a b : Bool) → (a ≡ true → b ≡ true) → (b ≡ true → a ≡ true) → a ≡ b
alike true b there back = sym (there refl)
alike false true there back = back refl
alike false false there back = refl

is_state_same : (a b : State) → is_state a b ≡ true → a ≡ b
is_state_same a b e =
    let both = and_parts (eqb a.node b.node) (eqb a.vertex b.vertex) e in
    same_state a b (eqb-true a.node b.node both.0) (eqb-true a.vertex b.vertex both.1)

is_state_itself : (a : State) → is_state a a ≡ true
is_state_itself a = rw (eq-eqb a.node a.node refl, eq-eqb a.vertex a.vertex refl) refl

is_state_by_cmp : (a b : State) → is_state a b ≡ eq_by_cmp state_cmp a b
is_state_by_cmp a b = alike (is_state a b) (eq_by_cmp state_cmp a b)
    (λ e. subst (λ x. eq_by_cmp state_cmp a x ≡ true) (is_state_same a b e) ((Equal-is _).1 (tied_itself state_total a)))
    (λ e. subst (λ x. is_state a x ≡ true) (state_tie a b ((Equal-is _).0 e)) (is_state_itself a))

equivalence : IsEquivalence is_state
equivalence = record {
  refl = is_state_itself;
  symm = λ a b. alike (is_state a b) (is_state b a) (λ e. turned a b e) (λ e. turned b a e);
  congr = λ a b c e. ap (λ x. is_state x c) (is_state_same a b e);
}
  where
    turned : (a b : State) → is_state a b ≡ true → is_state b a ≡ true
    turned a b e = subst (λ x. is_state x a ≡ true) (is_state_same a b e) (is_state_itself a)

-- the heads of the links out of the vertices below a number
pub record AreHeadsBelow (count : ℕ) (ins : ℕ → List (LinkOf ℕ)) (v : ℕ) (heads : List Head) : Type 0 where
  pub are : (head : Head) → Contains heads head → IsHead (IsLinkOf count ins) head.edge head.vertex
  pub each : (link : LinkOf ℕ) → IsLinkOf count ins link → link.from < v → Contains heads (head_of link)

pub heads_none : (count : ℕ) (ins : ℕ → List (LinkOf ℕ)) → AreHeadsBelow count ins 0 []
heads_none count ins = record { are = λ head h. absurd (omega (arith, h.1)); each = λ link has below. absurd (omega arith) }

pub heads_more : (count : ℕ) (outs ins : ℕ → List (LinkOf ℕ)) → IsLawful count outs ins → (v : ℕ) (heads : List Head) → v < count → AreHeadsBelow count ins v heads
    → AreHeadsBelow count ins (v + 1) (heads ++ map head_of (outs v))
heads_more count outs ins law v heads below h = record {
  are = λ head there. ⊎_elim (h.are head) (λ new. is_new head new) (Contains-append_cases heads (map head_of (outs v)) head there);
  each = λ link has before. keeps link has (cases_lt link.from v) before;
}
  where
    is_new : (head : Head) → Contains (map head_of (outs v)) head → IsHead (IsLinkOf count ins) head.edge head.vertex
    is_new head new =
        let found = Contains-from_map head_of (outs v) head new in
        let link = found.0 in
        let ends = (law.at v below).out_ends link found.1 in
        let from_below : link.from < count = omega (arith, ends.0) in
        let out = subst (λ u. Contains (outs u) link) (sym ends.0) found.1 in
        (link, ((ends.1, (law.both link from_below ends.1).0 out), sym (ap (λ (x : Head). x.edge) found.2), sym (ap (λ (x : Head). x.vertex) found.2)))

    keeps : (link : LinkOf ℕ) → IsLinkOf count ins link → (link.from < v) ⊎ (v ≤ link.from) → link.from < v + 1 → Contains (heads ++ map head_of (outs v)) (head_of link)
    keeps link has (inl less) before = Contains-append_left heads (map head_of (outs v)) (head_of link) (h.each link has less)
    keeps link has (inr more) before =
        let same : link.from ≡ v = omega arith in
        let from_below : link.from < count = omega (arith, same) in
        let out = (law.both link from_below has.0).1 has.1 in
        Contains-append_right heads (map head_of (outs v)) (head_of link) (Contains-map head_of (outs v) link (subst (λ u. Contains (outs u) link) same out))

pub heads_sorted : (count : ℕ) (outs ins : ℕ → List (LinkOf ℕ)) → IsLawful count outs ins → (heads sorted : List Head) → AreHeadsBelow count ins count heads
    → IsPermutation heads sorted
    → IsSorted head_cmp sorted → AreHeads (IsLinkOf count ins) sorted
heads_sorted count outs ins law heads sorted h moved in_order = record {
  edges_rise = heads_in_order sorted in_order;
  are = λ head there. h.are head (Contains-permutation sorted heads head (IsPermutation-sym heads sorted moved) there);
  each = λ link has.
      let from_below = ((law.at link.to has.0).in_ends link has.1).1 in
      Contains-permutation heads sorted (head_of link) moved (h.each link has from_below);
}

-- the states of the nodes below a number
module _ (Has : LinkOf ℕ → Type 0) (nodes : List Node) (backs : List Back) (heads : List Head) (are : AreHeads Has heads) where
  with_gives : (x : ℕ) (state : State) → Contains (states_with nodes backs heads x) state
      → (state.node ≡ x) × (x ≢ 0) × ((back_at backs x).forbids ≡ false) × IsHead Has (node_at nodes x).edge state.vertex
  with_gives x state h = by (eqb x 0) (back_at backs x).forbids refl refl h
    where
      not_zero : eqb x 0 ≡ false → x ≢ 0
      not_zero e z = let t : eqb x 0 ≡ true = eq-eqb x 0 z in cc

      by : (a b : Bool) → eqb x 0 ≡ a → (back_at backs x).forbids ≡ b → Contains (cond (a || b) [] (map (with_node x) (run_heads (node_at nodes x).edge heads))) state
          → (state.node ≡ x) × (x ≢ 0) × ((back_at backs x).forbids ≡ false) × IsHead Has (node_at nodes x).edge state.vertex
      by true b e f h = absurd (omega (arith, h.1))
      by false true e f h = absurd (omega (arith, h.1))
      by false false e f h =
          let found = Contains-from_map (with_node x) (run_heads (node_at nodes x).edge heads) state h in
          let given = run_gives heads (node_at nodes x).edge found.0 found.1 in
          let head = are.are found.0 given.0 in (
            ap (λ (s : State). s.node) found.2,
            not_zero e,
            f,
            (head.0, (head.1.0, head.1.1 ∙ given.1, head.1.2 ∙ sym (ap (λ (s : State). s.vertex) found.2))),
          )

  pub below_gives : (k : ℕ) (state : State) → Contains (states_below nodes backs heads k) state
      → (0 < state.node) × (state.node < k) × ((back_at backs state.node).forbids ≡ false) × IsHead Has (node_at nodes state.node).edge state.vertex
  below_gives zero state h = absurd (omega (arith, h.1))
  below_gives (suc k) state h = ⊎_elim
      (λ before. let r = below_gives k state before in (r.0, omega (arith, r.1), r.2, r.3))
      (λ here.
      let r = with_gives k state here in (
        omega (arith, r.0, r.1),
        omega (arith, r.0),
        subst (λ x. (back_at backs x).forbids ≡ false) (sym r.0) r.2,
        subst (λ x. IsHead Has (node_at nodes x).edge state.vertex) (sym r.0) r.3,
      ))
      (Contains-append_cases (states_below nodes backs heads k) (states_with nodes backs heads k) state h)

  with_keeps : (x : ℕ) (link : LinkOf ℕ) → x ≢ 0 → (back_at backs x).forbids ≡ false → Has link → link.edge ≡ (node_at nodes x).edge
      → Contains (states_with nodes backs heads x) (record { node = x; vertex = link.to })
  with_keeps x link some free has edge =
      let run : Contains (run_heads (node_at nodes x).edge heads) (record { edge = link.edge; vertex = link.to }) =
      subst (λ e. Contains (run_heads e heads) (record { edge = link.edge; vertex = link.to })) edge
      (run_keeps heads (record { edge = link.edge; vertex = link.to }) (are.each link has)) in
      let zero_is : eqb x 0 ≡ false = ne_eqb x 0 some in
      subst (λ b. Contains (cond b [] (map (with_node x) (run_heads (node_at nodes x).edge heads))) (record { node = x; vertex = link.to }))
      (sym (ap (λ b. b || (back_at backs x).forbids) zero_is ∙ free))
      (Contains-map (with_node x) (run_heads (node_at nodes x).edge heads) (record { edge = link.edge; vertex = link.to }) run)

  pub below_keeps : (k x : ℕ) (link : LinkOf ℕ) → x < k → x ≢ 0 → (back_at backs x).forbids ≡ false → Has link → link.edge ≡ (node_at nodes x).edge
      → Contains (states_below nodes backs heads k) (record { node = x; vertex = link.to })
  below_keeps zero x link h some free has edge = absurd (omega arith)
  below_keeps (suc k) x link h some free has edge = ⊎_elim
      (λ before. Contains-append_left (states_below nodes backs heads k) (states_with nodes backs heads k) (record { node = x; vertex = link.to })
      (below_keeps k x link before some free has edge))
      (λ after.
      let same : x ≡ k = omega arith in
      Contains-append_right (states_below nodes backs heads k) (states_with nodes backs heads k) (record { node = x; vertex = link.to })
      (subst (λ y. Contains (states_with nodes backs heads y) (record { node = x; vertex = link.to })) same (with_keeps x link some free has edge)))
      (cases_lt x k)

  -- sorted and without repeats they are the states
  pub states_sorted : (k : ℕ) (sorted : List State) → IsPermutation (states_below nodes backs heads k) sorted → IsSorted state_cmp sorted
      → AreStates Has nodes backs k (dedup is_state sorted)
  states_sorted k sorted moved in_order = record {
    nodes_are = all_from (λ state. (0 < state.node) × (state.node < k)) (dedup is_state sorted) (λ state h. let r = gives state h in (r.0, r.1));
    heads_are = all_from (λ state. IsHead Has (node_at nodes state.node).edge state.vertex) (dedup is_state sorted) (λ state h. (gives state h).3);
    live = all_from (λ state. (back_at backs state.node).forbids ≡ false) (dedup is_state sorted) (λ state h. (gives state h).2);
    rise = λ i j x before inside. Less-from_sorted state_cmp (dedup is_state sorted) i j x (IsStrictlySortedBy-dedup state_total is_state_by_cmp sorted in_order) before inside;
    each = λ x v below some free head. keeps x v below some free head;
  }
    where
      gives : (state : State) → Contains (dedup is_state sorted) state
          → (0 < state.node) × (state.node < k) × ((back_at backs state.node).forbids ≡ false) × IsHead Has (node_at nodes state.node).edge state.vertex
      gives state h = below_gives k state
          (Contains-permutation sorted (states_below nodes backs heads k) state (IsPermutation-sym (states_below nodes backs heads k) sorted moved)
          (Contains-from_dedup is_state sorted state h))

      keeps : (x v : ℕ) → x < k → x ≢ 0 → (back_at backs x).forbids ≡ false → IsHead Has (node_at nodes x).edge v
          → Contains (dedup is_state sorted) (record { node = x; vertex = v })
      keeps x v below some free head =
          let there = below_keeps k x head.0 below some free head.1.0 head.1.1 in
          subst (λ w. Contains (dedup is_state sorted) (record { node = x; vertex = w })) head.1.2
          (Contains-dedup equivalence is_state_same sorted (record { node = x; vertex = head.0.to })
          (Contains-permutation (states_below nodes backs heads k) sorted (record { node = x; vertex = head.0.to }) moved there))
