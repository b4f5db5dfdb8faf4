-- The states and their links are the graph of states.
use Rattle.std.proofs.Common.{◌≡◌, ◌≢◌, ◌⊎◌, ◌↔◌, inl, inr, ℕ, ℤ, zero, suc, ◌+◌, ◌-◌, ◌<◌, ◌≤◌, cond, ltb, true, false, List, [], ◌∷◌, length, take, drop, get_or, Option, refl, sym, ap, ◌∙◌, subst, arith, Ordering, Less, Equal}
use Rattle.std.specs.Prelude.{reverse, Contains, All}
use Rattle.std.specs.Ordering.{nat_cmp, ordering_then}
use Rattle.std.proofs.lemmas.Bool.{cases_lt, lt-ltb}
use Rattle.std.proofs.lemmas.Bool.Decides.{nat_tests}
use Rattle.std.proofs.lemmas.Cmp.{ranked, nat_cmp_total, tied_itself}
use Rattle.std.proofs.lemmas.List.{take-append-drop, reverse-append}
use Rattle.std.proofs.lemmas.List.Elements.{All-contains, All-get_or, Contains-get_or}
use Rattle.pgr_walks.specs.declared.link.LinkOf.{LinkOf}
use Rattle.pgr_walks.specs.Graph.{IsLinkOf, IsLawful}
use Rattle.pgr_walks.specs.ListGraphLaws.{holds_from_Contains}
use Rattle.pgr_turns.specs.declared.state.State.{State}
use Rattle.pgr_turns.specs.declared.trie.Node.{Node}
use Rattle.pgr_turns.specs.declared.trie.Back.{Back}
use Rattle.pgr_turns.specs.Fronts.{IsFront, Completes, IsLongest}
use Rattle.pgr_turns.specs.Trie.{node_at, back_at, list_at, word, IsTrie, IsAutomaton}
use Rattle.pgr_turns.specs.Turned.{beneath, IsTurned}
use Rattle.pgr_turns.specs.States.{state_at, node_of, vertex_of, AreStates, IsHead}
use Rattle.pgr_turns.specs.Moving.{IsMoved, MovesAll}
use Rattle.pgr_turns.proofs.FrontLemmas.{longest_one}
use Rattle.pgr_turns.proofs.TrieSteps.{word_root}
use Rattle.pgr_turns.proofs.AutomatonSteps.{root_back}

-- the front of a node is a front, or empty
pub node_front : (lists : List (List ℤ)) (nodes : List Node) (child : ℕ → ℤ → Option ℕ) → IsTrie lists nodes child → (x : ℕ) → x < length nodes
    → (word lists nodes x ≡ []) ⊎ IsFront lists (word lists nodes x)
node_front lists nodes child trie zero h = inl (word_root lists nodes child trie)
node_front lists nodes child trie (suc x) h =
    let node = node_at nodes (suc x) in
    let l = list_at lists node.list in
    inr (record {
      of = l;
      among = Contains-get_or lists node.list [] (trie.fronts (suc x) h (λ e. absurd (omega arith))).0;
      rest = reverse (drop node.len l);
      whole = ap reverse (sym (take-append-drop node.len l)) ∙ reverse-append (take node.len l) (drop node.len l);
    })

-- a state by its number
pub state_plain : (count : ℕ) (states : List State) (x : ℕ) → x < count → state_at count states x ≡ record { node = 0; vertex = x }
state_plain count states x h = ap (λ b. cond b (record { node = 0; vertex = x }) (get_or states (x - count) (record { node = 0; vertex = 0 }))) (lt-ltb x count h)

pub state_more : (count : ℕ) (states : List State) (x : ℕ) → count ≤ x → state_at count states x ≡ get_or states (x - count) (record { node = 0; vertex = 0 })
state_more count states x h =
    let test : ltb x count ≡ false = grind (arith, nat_tests) in
    ap (λ b. cond b (record { node = 0; vertex = x }) (get_or states (x - count) (record { node = 0; vertex = 0 }))) test

-- where the first of two orders is equal, the second decides
second_less : (o p : Ordering) → o ≡ Equal → ordering_then o p ≡ Less → p ≡ Less
second_less o p e h = sym (ap (λ q. ordering_then q p) e) ∙ h

module _ (count : ℕ) (outs ins : ℕ → List (LinkOf ℕ)) (law : IsLawful count outs ins) (lists : List (List ℤ)) (nodes : List Node) (child : ℕ → ℤ → Option ℕ) (backs : List Back)
    (auto : IsAutomaton lists nodes child backs) (states : List State) (are : AreStates (IsLinkOf count ins) nodes backs (length nodes) states)
    (links : List (LinkOf ℕ)) (Has : LinkOf ℕ → Type 0) (has : (link : LinkOf ℕ) → Has link ↔ Contains links link)
    (moved : All (IsMoved count outs lists nodes states) links) (all : (x : ℕ) → x < count + length states → MovesAll count outs lists nodes states x links) where
  state_in : ℕ → State
  state_in x = get_or states (x - count) (record { node = 0; vertex = 0 })

  more_is : (x : ℕ) → count ≤ x → state_at count states x ≡ state_in x
  unfolding state_in
  more_is x h = state_more count states x h

  node_range : (x : ℕ) → count ≤ x → x < count + length states → (0 < (state_in x).node) × ((state_in x).node < length nodes)
  unfolding state_in
  node_range x h inside = All-get_or (λ state. (0 < state.node) × (state.node < length nodes)) states (x - count) (record { node = 0; vertex = 0 }) (omega arith) are.nodes_are

  head_range : (x : ℕ) → count ≤ x → x < count + length states → IsHead (IsLinkOf count ins) (node_at nodes (state_in x).node).edge (state_in x).vertex
  unfolding state_in
  head_range x h inside =
      All-get_or (λ state. IsHead (IsLinkOf count ins) (node_at nodes state.node).edge state.vertex) states (x - count) (record { node = 0; vertex = 0 })
      (omega arith) are.heads_are

  live_range : (x : ℕ) → count ≤ x → x < count + length states → (back_at backs (state_in x).node).forbids ≡ false
  unfolding state_in
  live_range x h inside = All-get_or (λ state. (back_at backs state.node).forbids ≡ false) states (x - count) (record { node = 0; vertex = 0 }) (omega arith) are.live

  rise_at : (x y : ℕ) → count ≤ x → x < y → y < count + length states
      → ordering_then (nat_cmp (state_in x).node (state_in y).node) (nat_cmp (state_in x).vertex (state_in y).vertex) ≡ Less
  unfolding state_in
  rise_at x y h less inside = are.rise (x - count) (y - count) (record { node = 0; vertex = 0 }) (omega arith) (omega arith)

  pub node_below : (x : ℕ) → x < count + length states → node_of count states x < length nodes
  node_below x inside = by (cases_lt x count)
    where
      by : (x < count) ⊎ (count ≤ x) → node_of count states x < length nodes
      by (inl h) = subst (λ (s : State). s.node < length nodes) (sym (state_plain count states x h)) auto.trie.some
      by (inr h) = subst (λ (s : State). s.node < length nodes) (sym (more_is x h)) (node_range x h inside).1

  inside_at : (x : ℕ) → x < count + length states → vertex_of count states x < count
  inside_at x inside = by (cases_lt x count)
    where
      by : (x < count) ⊎ (count ≤ x) → vertex_of count states x < count
      by (inl h) = subst (λ (s : State). s.vertex < count) (sym (state_plain count states x h)) h
      by (inr h) =
          let head = head_range x h inside in
          subst (λ (s : State). s.vertex < count) (sym (more_is x h)) (subst (λ v. v < count) head.1.2 head.1.0.0)

  -- states with one front, by how their vertices compare
  order_at : (x y : ℕ) → x < count + length states → y < count + length states → node_of count states x ≡ node_of count states y
      → (vertex_of count states x < vertex_of count states y → x < y) × (vertex_of count states x ≡ vertex_of count states y → x ≡ y)
  order_at x y bx by nodes_same = at (cases_lt x count) (cases_lt y count)
    where
      lesser : (p q : ℕ) → count ≤ p → p < q → q < count + length states → node_of count states p ≡ node_of count states q → vertex_of count states p < vertex_of count states q
      lesser p q hp less hq same =
          let nodes_equal : (state_in p).node ≡ (state_in q).node = sym (ap (λ (s : State). s.node) (more_is p hp)) ∙ same ∙ ap (λ (s : State). s.node) (more_is q (omega arith)) in
          let tied : nat_cmp (state_in p).node (state_in q).node ≡ Equal = subst (λ n. nat_cmp (state_in p).node n ≡ Equal) nodes_equal
          (tied_itself nat_cmp_total (state_in p).node) in
          let vertices = second_less (nat_cmp (state_in p).node (state_in q).node) (nat_cmp (state_in p).vertex (state_in q).vertex) tied (rise_at p q hp less hq) in
          let below : (state_in p).vertex < (state_in q).vertex = ranked (state_in p).vertex (state_in q).vertex Less (sym vertices) in
          let vp = ap (λ (s : State). s.vertex) (more_is p hp) in
          let vq = ap (λ (s : State). s.vertex) (more_is q (omega arith)) in
          omega (arith, below, vp, vq)

      at : (x < count) ⊎ (count ≤ x) → (y < count) ⊎ (count ≤ y)
          → (vertex_of count states x < vertex_of count states y → x < y) × (vertex_of count states x ≡ vertex_of count states y → x ≡ y)
      at (inl hx) (inl hy) =
          let vx = ap (λ (s : State). s.vertex) (state_plain count states x hx) in
          let vy = ap (λ (s : State). s.vertex) (state_plain count states y hy) in
          ((λ h. omega (arith, vx, vy)), (λ h. omega (arith, vx, vy)))
      at (inl hx) (inr hy) =
          let nx = ap (λ (s : State). s.node) (state_plain count states x hx) in
          let ny = ap (λ (s : State). s.node) (more_is y hy) in
          absurd (omega (arith, nx, ny, (node_range y hy by).0))
      at (inr hx) (inl hy) =
          let nx = ap (λ (s : State). s.node) (more_is x hx) in
          let ny = ap (λ (s : State). s.node) (state_plain count states y hy) in
          absurd (omega (arith, nx, ny, (node_range x hx bx).0))
      at (inr hx) (inr hy) = by_places (cases_lt x y) (cases_lt y x)
        where
          by_places : (x < y) ⊎ (y ≤ x) → (y < x) ⊎ (x ≤ y) → (vertex_of count states x < vertex_of count states y → x < y)
              × (vertex_of count states x ≡ vertex_of count states y → x ≡ y)
          by_places (inl less) _ = let k = lesser x y hx less by nodes_same in ((λ h. less), (λ h. absurd (omega (arith, h, k))))
          by_places (inr past) (inl less) = let k = lesser y x hy less bx (sym nodes_same) in ((λ h. absurd (omega (arith, h, k))), (λ h. absurd (omega (arith, h, k))))
          by_places (inr past) (inr behind) =
              let same : x ≡ y = omega arith in
              ((λ h. absurd (omega (arith, h, ap (vertex_of count states) same))), (λ h. same))

  moved_at : (link : LinkOf ℕ) → Has link → IsMoved count outs lists nodes states link
  moved_at link h = All-contains (IsMoved count outs lists nodes states) links link moved ((has link).0 h)

  front_in : (x : ℕ) → x < count + length states → (word lists nodes (node_of count states x) ≡ []) ⊎ IsFront lists (word lists nodes (node_of count states x))
  front_in x inside = node_front lists nodes child auto.trie (node_of count states x) (node_below x inside)

  plain_front_at : (x : ℕ) → x < count → word lists nodes (node_of count states x) ≡ []
  plain_front_at x h = ap (λ (s : State). word lists nodes s.node) (state_plain count states x h) ∙ word_root lists nodes child auto.trie

  front_at : (x : ℕ) → x < count + length states → word lists nodes (node_of count states x) ≢ [] → (IsFront lists (word lists nodes (node_of count states x)) → ⊥) → ⊥
  front_at x inside some other = by (front_in x inside)
    where
      by : (word lists nodes (node_of count states x) ≡ []) ⊎ IsFront lists (word lists nodes (node_of count states x)) → ⊥
      by (inl none) = some none
      by (inr front) = other front

  -- neither the root nor the node of a state completes a restriction
  live_at : (x : ℕ) → x < count + length states → Completes lists (word lists nodes (node_of count states x)) → ⊥
  live_at x inside done = by (cases_lt x count)
    where
      no : false ≡ true → ⊥
      no e = cc

      by : (x < count) ⊎ (count ≤ x) → ⊥
      by (inl h) =
          let at_root = subst (λ (s : State). Completes lists (word lists nodes s.node)) (state_plain count states x h) done in
          no ((root_back lists nodes 0 refl (word_root lists nodes child auto.trie)).done at_root)
      by (inr h) =
          let there = subst (λ (s : State). Completes lists (word lists nodes s.node)) (more_is x h) done in
          no (sym (live_range x h inside) ∙ (auto.backs_are (state_in x).node (node_range x h inside).1).done there)

  -- the last edge of a node's front is that of the node
  last_edge : (x : ℕ) (edge : ℤ) (before : List ℤ) → 0 < x → x < length nodes → word lists nodes x ≡ edge ∷ before → (node_at nodes x).edge ≡ edge
  last_edge x edge before some below is =
      let node = node_at nodes x in
      let made = (auto.trie.children node.parent x node.edge (auto.trie.parents x below (λ e. absurd (omega (arith, e, some))))).2 in
      let same : node.edge ∷ word lists nodes node.parent ≡ edge ∷ before = sym made ∙ is in
      cc

  heads_at : (x : ℕ) (edge : ℤ) (before : List ℤ) → x < count + length states → word lists nodes (node_of count states x) ≡ edge ∷ before
      → IsHead (IsLinkOf count ins) edge (vertex_of count states x)
  heads_at x edge before inside is = by (cases_lt x count)
    where
      no : [] ≡ edge ∷ before → ⊥
      no e = cc

      by : (x < count) ⊎ (count ≤ x) → IsHead (IsLinkOf count ins) edge (vertex_of count states x)
      by (inl h) = absurd (no (sym (plain_front_at x h) ∙ is))
      by (inr h) =
          let there = sym (ap (λ (s : State). word lists nodes s.node) (more_is x h)) ∙ is in
          let range = node_range x h inside in
          subst (λ (s : State). IsHead (IsLinkOf count ins) edge s.vertex) (sym (more_is x h))
          (subst (λ e. IsHead (IsLinkOf count ins) e (state_in x).vertex) (last_edge (state_in x).node edge before range.0 range.1 there) (head_range x h inside))

  one_node : (x y : ℕ) → x < count + length states → y < count + length states → word lists nodes (node_of count states x) ≡ word lists nodes (node_of count states y)
      → node_of count states x ≡ node_of count states y
  one_node x y bx by same = auto.trie.one (node_of count states x) (node_of count states y) (node_below x bx) (node_below y by) same

  pub turned_made : IsTurned count ins lists (count + length states) (vertex_of count states) (λ x. word lists nodes (node_of count states x)) Has
  turned_made = record {
    large = omega arith;
    plain_vertex = λ v h. ap (λ (s : State). s.vertex) (state_plain count states v h);
    plain_front = plain_front_at;
    inside = inside_at;
    fronts = front_at;
    live = live_at;
    heads = λ x edge before inside is none. none (heads_at x edge before inside is);
    rises = λ x y bx by same less. (order_at x y bx by (one_node x y bx by same)).0 less;
    one = λ x y bx by same equal. (order_at x y bx by (one_node x y bx by same)).1 equal;
    ends = λ link h. let m = moved_at link h in (m.from_below, m.to_below);
    passes = λ link h.
        let m = moved_at link h in
        holds_from_Contains (ins (vertex_of count states link.to)) (beneath (vertex_of count states) link)
        ((law.both (beneath (vertex_of count states) link) (inside_at link.from m.from_below) (inside_at link.to m.to_below)).0 m.passes);
    free = λ link h. (moved_at link h).free;
    begins = λ link h. (moved_at link h).longest.begins;
    longest = λ link h. (moved_at link h).longest.longest;
    same = λ link other h k from edge.
        let m = moved_at link h in
        let o = moved_at other k in
        let o_longest : IsLongest lists (link.edge ∷ word lists nodes (node_of count states link.from)) (word lists nodes (node_of count states other.to)) =
        subst (λ e. IsLongest lists (e ∷ word lists nodes (node_of count states link.from)) (word lists nodes (node_of count states other.to))) (sym edge)
        (subst (λ x. IsLongest lists (other.edge ∷ word lists nodes (node_of count states x)) (word lists nodes (node_of count states other.to))) (sym from) o.longest) in
        longest_one lists (link.edge ∷ word lists nodes (node_of count states link.from)) _ _ (front_in link.to m.to_below) (front_in other.to o.to_below) m.longest o_longest;
    reaches = λ x link inside is from free found.
        let from_below : link.from < count = subst (λ v. v < count) (sym from) (inside_at x inside) in
        let out = (law.both link from_below is.0).1 is.1 in
        let next = all x inside link (subst (λ v. Contains (outs v) link) from out) free in
        found next.0 ((has next.0).1 next.1.0) next.1.1.from next.1.1.is;
  }

-- the same states, as they are named elsewhere
pub turned_as : {Has : LinkOf ℕ → Type 0} (count size : ℕ) (ins : ℕ → List (LinkOf ℕ)) (restrictions others lists : List (List ℤ)) (nodes : List Node) (states same : List State)
    → restrictions ≡ others → states ≡ same → size ≡ count + length same
    → IsTurned count ins restrictions (count + length states) (vertex_of count states) (λ x. word lists nodes (node_of count states x)) Has
    → IsTurned count ins others size (vertex_of count same) (λ x. word lists nodes (node_of count same x)) Has
turned_as {Has} count size ins restrictions others lists nodes states same e f n t =
    subst (λ k. IsTurned count ins others k (vertex_of count same) (λ x. word lists nodes (node_of count same x)) Has) (sym n)
    (subst (λ (ss : List State). IsTurned count ins others (count + length ss) (vertex_of count ss) (λ x. word lists nodes (node_of count ss x)) Has) f
    (subst (λ (rs : List (List ℤ)). IsTurned count ins rs (count + length states) (vertex_of count states) (λ x. word lists nodes (node_of count states x)) Has) e t))
