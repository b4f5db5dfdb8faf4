-- Where states fit: with no id in a restriction they are the vertices, and else a loopless route takes each link at most once for each front.
use Rattle.std.proofs.Common.{◌≡◌, inl, inr, ℕ, ℤ, ◌+◌, ◌*◌, ◌<◌, ◌≤◌, List, [], ◌∷◌, map, length, Option, refl, sym, ap, ◌∙◌, subst, arith}
use Rattle.std.specs.Prelude.{Contains}
use Rattle.std.proofs.Math.Nat.{mul_comm}
use Rattle.std.proofs.lemmas.Nat.{mul-le}
use Rattle.pgr_walks.specs.declared.link.LinkOf.{LinkOf}
use Rattle.pgr_walks.specs.Walk.{IsWalk, IsLooplessRoute, cost_of, vertices_of}
use Rattle.pgr_walks.specs.Graph.{IsLinkOf, Fits, greatest}
use Rattle.pgr_walks.proofs.Repeats.{Among, Apart, Apart-from_IsWithoutRepeats, IsWithoutRepeats-from_Apart}
use Rattle.pgr_walks.proofs.Membership.{Among-from_Contains}
use Rattle.pgr_turns.specs.declared.state.State.{State}
use Rattle.pgr_turns.specs.declared.trie.Node.{Node}
use Rattle.pgr_turns.specs.declared.trie.Back.{Back}
use Rattle.pgr_turns.specs.Trie.{word, elements, IsAutomaton}
use Rattle.pgr_turns.specs.States.{AreStates, node_of, vertex_of}
use Rattle.pgr_turns.specs.Turned.{beneath, IsTurned}
use Rattle.pgr_turns.proofs.Counting.{apart_map}
use Rattle.pgr_turns.proofs.FitsSteps.{route_cost}
use Rattle.pgr_turns.proofs.MovingSteps.{state_range}
use Rattle.pgr_turns.proofs.TurnedWalks.{is_beneath, cost_beneath}

link_cost : (links : List (LinkOf ℕ)) (link : LinkOf ℕ) → Among link links → link.cost ≤ cost_of links
link_cost [] link h = absurd h
link_cost (l ∷ links) link (inl e) = omega (arith, ap (λ (k : LinkOf ℕ). k.cost) e)
link_cost (l ∷ links) link (inr h) = omega (arith, link_cost links link h)

-- a product with a number above a factor
times_more : (c n m : ℕ) → n ≤ m → n * c ≤ c * m
times_more c n m h = let p : n * c ≤ m * c = mul-le n c m c h (omega arith) in subst (λ k. n * c ≤ k) (mul_comm m c) p

some_times : (c m : ℕ) → c ≤ c * (1 + m)
some_times c m = let p = times_more c 1 (1 + m) (omega arith) in omega (arith, p)

vertices_beneath : (vertex : ℕ → ℕ) (s : ℕ) (walk : List (LinkOf ℕ)) → map vertex (vertices_of s walk) ≡ vertices_of (vertex s) (map (beneath vertex) walk)
vertices_beneath vertex s [] = refl
vertices_beneath vertex s (link ∷ walk) = ap (λ vs. vertex s ∷ vs) (vertices_beneath vertex link.to walk)

module _ (count : ℕ) (ins : ℕ → List (LinkOf ℕ)) (lists : List (List ℤ)) (nodes : List Node) (child : ℕ → ℤ → Option ℕ) (backs : List Back)
    (auto : IsAutomaton lists nodes child backs) (states : List State) (are : AreStates (IsLinkOf count ins) nodes backs (length nodes) states) (Has : LinkOf ℕ → Type 0)
    (turned : IsTurned count ins lists (count + length states) (vertex_of count states) (λ x. word lists nodes (node_of count states x)) Has) where
  node_below : (x : ℕ) → x < count + length states → node_of count states x < length nodes
  node_below x inside = (state_range count ins nodes backs states are auto.trie.some x inside).0

  one_state : (x y : ℕ) → x < count + length states → y < count + length states → node_of count states x ≡ node_of count states y
      → vertex_of count states x ≡ vertex_of count states y → x ≡ y
  one_state x y at_x at_y node vertex = turned.one x y at_x at_y (ap (word lists nodes) node) vertex

  link_beneath : (link : LinkOf ℕ) → Has link → IsLinkOf count ins (beneath (vertex_of count states) link)
  link_beneath link has = is_beneath count ins lists (count + length states) (vertex_of count states) (λ x. word lists nodes (node_of count states x)) Has turned link has

  -- the sum of all links, once more than there are ids
  pub costs_fit : (links : List (LinkOf ℕ)) → ((link : LinkOf ℕ) → IsLinkOf count ins link → Contains links link) → cost_of links * (1 + elements lists) ≤ greatest → Fits Has
  costs_fit links all bound = record {
    links = λ link has.
        let cost = link_cost links (beneath (vertex_of count states) link) (among link has) in
        let more = some_times (cost_of links) (elements lists) in
        omega (arith, cost, more, bound);
    routes = λ s t walk route.
        let sum = route_cost (count + length states) Has (node_of count states) (vertex_of count states) turned.ends one_state (length nodes) links node_below among s t walk
        route.is_walk route.loopless in
        let more = times_more (cost_of links) (length nodes) (1 + elements lists) auto.few in
        omega (arith, sum, more, bound);
  }
    where
      among : (link : LinkOf ℕ) → Has link → Among (beneath (vertex_of count states) link) links
      among link has = Among-from_Contains (beneath (vertex_of count states) link) links (all (beneath (vertex_of count states) link) (link_beneath link has))

  walk_beneath : (s t : ℕ) (walk : List (LinkOf ℕ)) → IsWalk Has s walk t → IsWalk (IsLinkOf count ins) (vertex_of count states s) (map (beneath (vertex_of count states)) walk)
      (vertex_of count states t)
  walk_beneath s t [] w = ap (vertex_of count states) w
  walk_beneath s t (link ∷ walk) w = (link_beneath link w.0, ap (vertex_of count states) w.1, walk_beneath link.to t walk w.2)

  -- the vertices of a walk are states
  to_below : (walk : List (LinkOf ℕ)) (s t x : ℕ) → IsWalk Has s walk t → Among x (map (λ (link : LinkOf ℕ). link.to) walk) → x < count + length states
  to_below [] s t x w h = absurd h
  to_below (link ∷ walk) s t x w (inl e) = subst (λ y. y < count + length states) e (turned.ends link w.0).1
  to_below (link ∷ walk) s t x w (inr h) = to_below walk link.to t x w.2 h

  -- where the restrictions have no id, each front is the one without an id
  module _ (none : elements lists ≡ 0) where
    node_zero : (x : ℕ) → x < count + length states → node_of count states x ≡ 0
    node_zero x inside = omega (arith, node_below x inside, auto.few, none)

    vertex_one : (x y : ℕ) → x < count + length states → y < count + length states → vertex_of count states x ≡ vertex_of count states y → x ≡ y
    vertex_one x y at_x at_y vertex = one_state x y at_x at_y (node_zero x at_x ∙ sym (node_zero y at_y)) vertex

    route_beneath : (s t : ℕ) (walk : List (LinkOf ℕ)) → IsLooplessRoute Has s walk t → Fits (IsLinkOf count ins) → cost_of walk ≤ greatest
    route_beneath s t [] route fits = omega arith
    route_beneath s t (link ∷ walk) route fits =
        let vertex = vertex_of count states in
        let w = route.is_walk in
        let s_below : s < count + length states = subst (λ y. y < count + length states) w.1 (turned.ends link w.0).0 in
        let below : (x : ℕ) → Among x (vertices_of s (link ∷ walk)) → x < count + length states = λ x m. state_of x m s_below w in
        let apart = apart_map vertex (vertices_of s (link ∷ walk)) (Apart-from_IsWithoutRepeats (vertices_of s (link ∷ walk)) route.loopless)
        (λ x y mx my. vertex_one x y (below x mx) (below y my)) in
        let apart' = subst (λ vs. Apart vs) (vertices_beneath vertex s (link ∷ walk)) apart in
        let t_below : t < count + length states = last_below (link ∷ walk) s w s_below in
        let bound = fits.routes (vertex s) (vertex t) (map (beneath vertex) (link ∷ walk)) (record {
          is_walk = walk_beneath s t (link ∷ walk) w;
          ends_differ = λ e. route.ends_differ (vertex_one s t s_below t_below e);
          loopless = IsWithoutRepeats-from_Apart (vertices_of (vertex s) (map (beneath vertex) (link ∷ walk))) apart';
        }) in
        subst (λ c. c ≤ greatest) (cost_beneath count ins lists (count + length states) vertex (λ x. word lists nodes (node_of count states x)) Has turned (link ∷ walk)) bound
      where
        state_of : (x : ℕ) → Among x (vertices_of s (link ∷ walk)) → s < count + length states → IsWalk Has s (link ∷ walk) t → x < count + length states
        state_of x (inl e) s_below w = subst (λ y. y < count + length states) e s_below
        state_of x (inr h) s_below w = to_below (link ∷ walk) s t x w h

        last_below : (ls : List (LinkOf ℕ)) (u : ℕ) → IsWalk Has u ls t → u < count + length states → t < count + length states
        last_below [] u v h = subst (λ y. y < count + length states) v h
        last_below (l ∷ ls) u v h = last_below ls l.to v.2 (turned.ends l v.0).1

    pub plain_fits : Fits (IsLinkOf count ins) → Fits Has
    plain_fits fits = record {
      links = λ link has. fits.links (beneath (vertex_of count states) link) (link_beneath link has);
      routes = λ s t walk route. route_beneath s t walk route fits;
    }
