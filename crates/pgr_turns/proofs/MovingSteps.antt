-- A link beneath as a link of states, and a state by its place.
use Rattle.std.proofs.Common.{◌≡◌, ◌≢◌, ◌⊎◌, inl, inr, ℕ, ℤ, ◌+◌, ◌-◌, ◌<◌, ◌≤◌, true, false, List, ◌∷◌, length, get_or, Option, Err, refl, sym, ap, ◌∙◌, subst, arith, ⊎_elim, Ordering, Less, Equal, Greater}
use Rattle.std.specs.Prelude.{Contains}
use Rattle.std.specs.Ordering.{is_lt, ordering_reverse}
use Rattle.std.specs.List.Sorted.{IsSorted, IsPartitionPoint, IsBinarySearchResult}
use Rattle.std.proofs.lemmas.Bool.{cases_lt}
use Rattle.std.proofs.lemmas.Cmp.{tied_itself}
use Rattle.std.proofs.lemmas.List.Elements.{All-get_or}
use Rattle.std.proofs.lemmas.List.Sorted.{searchable_from_sorted}
use Rattle.pgr_walks.specs.declared.link.LinkOf.{LinkOf}
use Rattle.pgr_walks.specs.Graph.{IsLinkOf, IsLawful, IsStrictlyRising}
use Rattle.pgr_walks.specs.LinkOrders.{same_link}
use Rattle.pgr_turns.specs.declared.state.State.{State}
use Rattle.pgr_turns.specs.declared.trie.Node.{Node}
use Rattle.pgr_turns.specs.declared.trie.Back.{Back}
use Rattle.pgr_turns.specs.Fronts.{Begins, IsLongest, Completes}
use Rattle.pgr_turns.specs.Trie.{node_at, back_at, word, IsAutomaton}
use Rattle.pgr_turns.specs.Turned.{beneath}
use Rattle.pgr_turns.specs.States.{state_at, node_of, vertex_of, state_cmp, AreStates, IsHead}
use Rattle.pgr_turns.specs.Moving.{IsMoved, MovesTo}
use Rattle.pgr_turns.proofs.FrontLemmas.{Begins-first, completes_edges, completes_longest}
use Rattle.pgr_turns.proofs.StateSteps.{state_total}
use Rattle.pgr_turns.proofs.TurnedMade.{state_plain, state_more}

-- a state isn't in a list where all before a place are less and all from there on are greater
absent : (states : List State) (state : State) (place : ℕ) → IsPartitionPoint (λ other. state_cmp other state ≡ Less) (λ other. state_cmp other state ≡ Greater) states place
    → Contains states state → ⊥
absent states state place parts (k, inside, is) =
    let tied : state_cmp (get_or states k state) state ≡ Equal = ap (λ other. state_cmp other state) is ∙ tied_itself state_total state in
    ⊎_elim
    (λ before. let less = parts.0 k state (omega arith) before in cc)
    (λ after. let greater = parts.1 k state after inside in cc)
    (cases_lt k place)

not_after : (o p : Ordering) → o ≡ Less → p ≡ ordering_reverse o → is_lt p ≡ false
not_after o Less less back = cc
not_after o Equal less back = refl
not_after o Greater less back = refl

sorted_rising : (states : List State) → IsStrictlyRising state_cmp states → IsSorted state_cmp states
sorted_rising states rise k d low inside =
    not_after _ _ (rise k (k + 1) d (omega arith) inside) (state_total.antisymm (get_or states (k + 1) d) (get_or states k d))

pub absent_from_search : (states : List State) (state : State) (place : ℕ) → IsStrictlyRising state_cmp states
    → IsBinarySearchResult (λ other. state_cmp other state) states (Err place)
    → Contains states state → ⊥
absent_from_search states state place rise found there =
    absent states state place (found (searchable_from_sorted state_total (λ other. other) states state (sorted_rising states rise))) there

-- the node and the vertex of a state
pub state_range : (count : ℕ) (ins : ℕ → List (LinkOf ℕ)) (nodes : List Node) (backs : List Back) (states : List State)
    → AreStates (IsLinkOf count ins) nodes backs (length nodes) states
    → 0 < length nodes → (x : ℕ) → x < count + length states → (node_of count states x < length nodes) × (vertex_of count states x < count)
state_range count ins nodes backs states are some x inside = by (cases_lt x count)
  where
    by : (x < count) ⊎ (count ≤ x) → (node_of count states x < length nodes) × (vertex_of count states x < count)
    by (inl h) = subst (λ (s : State). (s.node < length nodes) × (s.vertex < count)) (sym (state_plain count states x h)) (some, h)
    by (inr h) =
        let d : State = record { node = 0; vertex = 0 } in
        let range = All-get_or (λ state. (0 < state.node) × (state.node < length nodes)) states (x - count) d (omega arith) are.nodes_are in
        let head = All-get_or (λ state. IsHead (IsLinkOf count ins) (node_at nodes state.node).edge state.vertex) states (x - count) d (omega arith) are.heads_are in
        subst (λ (s : State). (s.node < length nodes) × (s.vertex < count)) (sym (state_more count states x h)) (range.1, subst (λ v. v < count) head.1.2 head.1.0.0)

module _ (count : ℕ) (outs ins : ℕ → List (LinkOf ℕ)) (law : IsLawful count outs ins) (lists : List (List ℤ)) (nodes : List Node) (child : ℕ → ℤ → Option ℕ) (backs : List Back)
    (auto : IsAutomaton lists nodes child backs) (states : List State) (are : AreStates (IsLinkOf count ins) nodes backs (length nodes) states) (x next : ℕ) (link : LinkOf ℕ)
    (vertex_below : vertex_of count states x < count) (out : Contains (outs (vertex_of count states x)) link) (next_below : next < length nodes)
    (longest : IsLongest lists (link.edge ∷ word lists nodes (node_of count states x)) (word lists nodes next)) where
  -- a link that completes a restriction
  pub moves_none : (back_at backs next).forbids ≡ true → (Completes lists (link.edge ∷ word lists nodes (node_of count states x)) → ⊥) → ⊥
  moves_none forbids not =
      (auto.backs_are next next_below).only forbids
      (λ done. not (completes_edges lists (link.edge ∷ word lists nodes (node_of count states x)) (word lists nodes next) longest.begins done))

  last_edge : next ≢ 0 → link.edge ≡ (node_at nodes next).edge
  last_edge some =
      let c = auto.trie.children (node_at nodes next).parent next (node_at nodes next).edge (auto.trie.parents next next_below some) in
      sym (Begins-first (node_at nodes next).edge link.edge (word lists nodes (node_at nodes next).parent) (word lists nodes (node_of count states x))
      (subst (λ (w : List ℤ). Begins w (link.edge ∷ word lists nodes (node_of count states x))) c.2 longest.begins))

  link_ends : (link.from ≡ vertex_of count states x) × (link.to < count)
  link_ends = (law.at (vertex_of count states x) vertex_below).out_ends link out

  is_link : IsLinkOf count ins link
  is_link =
      let from_below : link.from < count = subst (λ v. v < count) (sym link_ends.0) vertex_below in
      (link_ends.1, (law.both link from_below link_ends.1).0 (subst (λ v. Contains (outs v) link) (sym link_ends.0) out))

  -- the state that it leads to is there
  pub state_there : (back_at backs next).forbids ≡ false → (next ≡ 0) ⊎ (next ≢ 0) → ((next ≡ 0) × (link.to < count))
      ⊎ ((next ≢ 0) × Contains states (record { node = next; vertex = link.to }))
  state_there free (inl zero_is) = inl (zero_is, link_ends.1)
  state_there free (inr some) = inr (some, are.each next link.to next_below some free (link, (is_link, last_edge some, refl)))

  -- and the link is one of states
  pub moves_some : (y : ℕ) → (back_at backs next).forbids ≡ false → x < count + length states → y < count + length states
      → state_at count states y ≡ record { node = next; vertex = link.to }
      → MovesTo count states x link (record { from = x; edge = link.edge; cost = link.cost; to = y })
      × IsMoved count outs lists nodes states (record { from = x; edge = link.edge; cost = link.cost; to = y })
  moves_some y free x_below y_below is =
      let same : beneath (vertex_of count states) (record { from = x; edge = link.edge; cost = link.cost; to = y }) ≡ link =
      same_link (beneath (vertex_of count states) (record { from = x; edge = link.edge; cost = link.cost; to = y })) link (sym link_ends.0) refl refl
      (ap (λ (s : State). s.vertex) is) in (
        record { from = refl; is = same },
        record {
          from_below = x_below;
          to_below = y_below;
          passes = subst (λ (l : LinkOf ℕ). Contains (outs (vertex_of count states x)) l) (sym same) out;
          free = λ done.
              let forbids = (auto.backs_are next next_below).done
              (completes_longest lists (link.edge ∷ word lists nodes (node_of count states x)) (word lists nodes next) longest done) in
              absurd (no (sym forbids ∙ free));
          longest = subst (λ n. IsLongest lists (link.edge ∷ word lists nodes (node_of count states x)) (word lists nodes n)) (sym (ap (λ (s : State). s.node) is)) longest;
        },
      )
    where
      no : true ≡ false → ⊥
      no e = cc
