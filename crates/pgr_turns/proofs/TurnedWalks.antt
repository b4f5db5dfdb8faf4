-- Walks of states are the walks beneath that meet no restriction, and are in the same order.
use Rattle.std.proofs.Common.{◌≡◌, ◌≢◌, ◌↔◌, ℕ, ℤ, ◌+◌, ◌<◌, List, [], ◌∷◌, map, length, refl, sym, ap, ◌∙◌, subst, arith, ⊎_elim, Ordering, Less, Equal, Greater}
use Rattle.std.specs.Prelude.{Contains}
use Rattle.std.specs.Ordering.{nat_cmp, int_cmp, ordering_then}
use Rattle.std.specs.Cmp.Lexicographic.{slice_cmp}
use Rattle.std.proofs.lemmas.Bool.{cases_lt}
use Rattle.std.proofs.lemmas.List.{length-map}
use Rattle.std.specs.Cmp.{nat_cmp_is}
use Rattle.pgr_walks.specs.declared.link.LinkOf.{LinkOf}
use Rattle.pgr_walks.specs.Link.{step_cmp}
use Rattle.pgr_walks.specs.LinkOrders.{int_tie, nat_tie, then_tie}
use Rattle.pgr_walks.specs.Walk.{IsWalk, cost_of, hops_of}
use Rattle.pgr_walks.specs.Graph.{IsLinkOf}
use Rattle.pgr_walks.specs.Label.{LeadsTo}
use Rattle.pgr_walks.specs.RouteOrder.{route_cmp, IsLeast}
use Rattle.pgr_walks.specs.ListGraphLaws.{Contains-from_holds}
use Rattle.pgr_turns.specs.Restrictions.{edges_of, IsAllowedWalk}
use Rattle.pgr_turns.specs.Fronts.{IsLongest, Avoids}
use Rattle.pgr_turns.specs.Turned.{beneath, IsTurned}
use Rattle.pgr_turns.proofs.FrontLemmas.{longest_step, longest_none, completes_front, completes_edges, Begins-more}
use Rattle.pgr_turns.proofs.AllowedSteps.{avoids_allowed, allowed_avoids}

-- two numbers compare as two others that stand in the same order
same_cmp : (x y u v : ℕ) → (u < v → x < y) → (u ≡ v → x ≡ y) → (v < u → y < x) → nat_cmp x y ≡ nat_cmp u v
same_cmp x y u v less equal greater =
    ⊎_elim (λ h. sym (nat_cmp_is x y Less (less h)) ∙ nat_cmp_is u v Less h)
    (λ h. ⊎_elim (λ k. sym (nat_cmp_is x y Greater (greater k)) ∙ nat_cmp_is u v Greater k)
    (λ k. let e : u ≡ v = omega arith in sym (nat_cmp_is x y Equal (equal e)) ∙ nat_cmp_is u v Equal e) (cases_lt v u)) (cases_lt u v)

-- what follows counts only where the first compare as equal
then_same : (o o' p p' : Ordering) → o ≡ o' → (o ≡ Equal → p ≡ p') → ordering_then o p ≡ ordering_then o' p'
then_same o o' p p' e h = subst (λ z. ordering_then o p ≡ ordering_then z p') e (at o h)
  where
    at : (q : Ordering) → (q ≡ Equal → p ≡ p') → ordering_then q p ≡ ordering_then q p'
    at Less k = refl
    at Equal k = k refl
    at Greater k = refl

-- how two walks compare can be known from what it can't be
stable_less : (o : Ordering) → ((o ≡ Less → ⊥) → ⊥) → o ≡ Less
stable_less Less h = refl
stable_less Equal h = absurd (h (λ e. cc))
stable_less Greater h = absurd (h (λ e. cc))

module _ (count : ℕ) (ins : ℕ → List (LinkOf ℕ)) (rs : List (List ℤ)) (size : ℕ) (vertex : ℕ → ℕ) (front : ℕ → List ℤ) (Has : LinkOf ℕ → Type 0)
    (t : IsTurned count ins rs size vertex front Has) where
  -- the front after a link is the longest
  longest_at : (link : LinkOf ℕ) (h : List ℤ) → Has link → IsLongest rs h (front link.from) → IsLongest rs (link.edge ∷ h) (front link.to)
  longest_at link h has before =
      longest_step rs link.edge h (front link.from) (front link.to) before (record { begins = t.begins link has; longest = t.longest link has })

  -- the link beneath is one of the graph
  pub is_beneath : (link : LinkOf ℕ) → Has link → IsLinkOf count ins (beneath vertex link)
  is_beneath link has = (t.inside link.to (t.ends link has).1, Contains-from_holds (ins (vertex link.to)) (beneath vertex link) (t.passes link has))

  -- a walk of states is beneath a walk that completes no restriction
  pub walk_down : (x y : ℕ) (walk : List (LinkOf ℕ)) (h : List ℤ) → IsLongest rs h (front x) → IsWalk Has x walk y
      → IsWalk (IsLinkOf count ins) (vertex x) (map (beneath vertex) walk) (vertex y) × Avoids rs h (edges_of (map (beneath vertex) walk))
  walk_down x y [] h before w = (ap vertex w, tt)
  walk_down x y (link ∷ walk) h before w =
      let from : IsLongest rs h (front link.from) = subst (λ z. IsLongest rs h (front z)) (sym w.1) before in
      let rest = walk_down link.to y walk (link.edge ∷ h) (longest_at link h w.0 from) w.2 in
      ((is_beneath link w.0, ap vertex w.1, rest.0), (λ done. t.free link w.0 (completes_front rs link.edge h (front link.from) from done), rest.1))

  -- a walk beneath that completes no restriction is beneath a walk of states
  pub walk_up : (x u : ℕ) (walk : List (LinkOf ℕ)) (h : List ℤ) → x < size → IsLongest rs h (front x) → IsWalk (IsLinkOf count ins) (vertex x) walk u → Avoids rs h (edges_of walk)
      → ((above : List (LinkOf ℕ)) (y : ℕ) → IsWalk Has x above y → y < size → vertex y ≡ u → map (beneath vertex) above ≡ walk → ⊥) → ⊥
  walk_up x u [] h below before w a found = found [] x refl below w refl
  walk_up x u (link ∷ walk) h below before w a found =
      t.reaches x link below w.0 w.1 (λ done. a.0 (completes_edges rs (link.edge ∷ h) (link.edge ∷ front x) (Begins-more link.edge link.edge (front x) h refl before.begins) done))
      (λ next has from is.
      let at_next : IsLongest rs h (front next.from) = subst (λ z. IsLongest rs h (front z)) (sym from) before in
      let after : IsLongest rs (link.edge ∷ h) (front next.to) =
      subst (λ (b : LinkOf ℕ). IsLongest rs (b.edge ∷ h) (front next.to)) is (longest_at next h has at_next) in
      let rest : IsWalk (IsLinkOf count ins) (vertex next.to) walk u = subst (λ (b : LinkOf ℕ). IsWalk (IsLinkOf count ins) b.to walk u) (sym is) w.2 in
      walk_up next.to u walk (link.edge ∷ h) (t.ends next has).1 after rest a.1
      (λ above y above_walks y_below y_vertex same. found (next ∷ above) y (has, from, above_walks) y_below y_vertex
      (ap (λ b. b ∷ map (beneath vertex) above) is ∙ ap (λ bs. link ∷ bs) same)))

  -- a walk beneath costs the same
  pub cost_beneath : (walk : List (LinkOf ℕ)) → cost_of (map (beneath vertex) walk) ≡ cost_of walk
  cost_beneath [] = refl
  cost_beneath (link ∷ walk) = ap (λ c. link.cost + c) (cost_beneath walk)

  -- links out of one state compare as the links beneath them
  step_beneath : (a b : LinkOf ℕ) → Has a → Has b → a.from ≡ b.from → step_cmp nat_cmp a b ≡ step_cmp nat_cmp (beneath vertex a) (beneath vertex b)
  step_beneath a b has_a has_b from =
      then_same (int_cmp a.edge b.edge) (int_cmp a.edge b.edge) _ _ refl (λ edges.
      let fronts = t.same a b has_a has_b from (int_tie _ _ edges) in
      let at_a = (t.ends a has_a).1 in
      let at_b = (t.ends b has_b).1 in
      then_same (nat_cmp a.cost b.cost) (nat_cmp a.cost b.cost) _ _ refl (λ costs.
      same_cmp a.to b.to (vertex a.to) (vertex b.to) (λ less. t.rises a.to b.to at_a at_b fronts less) (λ equal. t.one a.to b.to at_a at_b fronts equal)
      (λ more. t.rises b.to a.to at_b at_a (sym fronts) more)))

  -- so do walks from one state
  steps_beneath : (x y z : ℕ) (a b : List (LinkOf ℕ)) → IsWalk Has x a y → IsWalk Has x b z
      → slice_cmp (step_cmp nat_cmp) a b ≡ slice_cmp (step_cmp nat_cmp) (map (beneath vertex) a) (map (beneath vertex) b)
  steps_beneath x y z [] [] v w = refl
  steps_beneath x y z [] (b ∷ bs) v w = refl
  steps_beneath x y z (a ∷ as_) [] v w = refl
  steps_beneath x y z (a ∷ as_) (b ∷ bs) v w =
      then_same (step_cmp nat_cmp a b) (step_cmp nat_cmp (beneath vertex a) (beneath vertex b)) _ _ (step_beneath a b v.0 w.0 (v.1 ∙ sym w.1)) (λ tied.
      let first = then_tie (int_cmp a.edge b.edge) (ordering_then (nat_cmp a.cost b.cost) (nat_cmp a.to b.to)) tied in
      let to : a.to ≡ b.to = nat_tie _ _ (then_tie (nat_cmp a.cost b.cost) (nat_cmp a.to b.to) first.1).1 in
      steps_beneath a.to y z as_ bs v.2 (subst (λ s. IsWalk Has s bs z) (sym to) w.2))

  pub order_beneath : (x y z : ℕ) (a b : List (LinkOf ℕ)) → IsWalk Has x a y → IsWalk Has x b z
      → route_cmp nat_cmp a b ≡ route_cmp nat_cmp (map (beneath vertex) a) (map (beneath vertex) b)
  order_beneath x y z a b v w =
      let costs : nat_cmp (cost_of a) (cost_of b) ≡ nat_cmp (cost_of (map (beneath vertex) a)) (cost_of (map (beneath vertex) b)) =
      ap (λ n. nat_cmp n (cost_of b)) (sym (cost_beneath a)) ∙ ap (nat_cmp (cost_of (map (beneath vertex) a))) (sym (cost_beneath b)) in
      let hops : nat_cmp (hops_of a) (hops_of b) ≡ nat_cmp (hops_of (map (beneath vertex) a)) (hops_of (map (beneath vertex) b)) =
      ap (λ n. nat_cmp n (length b)) (sym (length-map a (beneath vertex))) ∙ ap (nat_cmp (length (map (beneath vertex) a))) (sym (length-map b (beneath vertex))) in
      then_same (nat_cmp (cost_of a) (cost_of b)) _ _ _ costs (λ _. then_same (nat_cmp (hops_of a) (hops_of b)) _ _ _ hops (λ _. steps_beneath x y z a b v w))

  -- the front of a vertex's own state
  start_longest : (s : ℕ) → s < count → IsLongest rs [] (front s)
  start_longest s below = subst (λ (xs : List ℤ). IsLongest rs [] xs) (sym (t.plain_front s below)) (longest_none rs)

  -- the walk beneath the least walk to the states of a vertex is the least that meets no restriction
  pub least_beneath : (s u : ℕ) (targets : List ℕ) (walk : List (LinkOf ℕ)) → s < count → ((y : ℕ) → Contains targets y ↔ ((y < size) × (vertex y ≡ u)))
      → IsLeast nat_cmp (LeadsTo Has targets s) walk → IsLeast nat_cmp (IsAllowedWalk (IsLinkOf count ins) rs s u) (map (beneath vertex) walk)
  least_beneath s u targets walk below are least =
      let leads = least.belongs in
      let down = walk_down s leads.target walk [] (start_longest s below) leads.is_walk in
      let at_start = subst (λ v. IsWalk (IsLinkOf count ins) v (map (beneath vertex) walk) (vertex leads.target)) (t.plain_vertex s below) down.0 in
      let at_end = subst (λ v. IsWalk (IsLinkOf count ins) s (map (beneath vertex) walk) v) ((are leads.target).0 leads.is_target).1 at_start in
      record {
        belongs = record { is_walk = at_end; allowed = avoids_allowed rs (edges_of (map (beneath vertex) walk)) down.1 };
        precedes = λ other allowed differ. stable_less (route_cmp nat_cmp (map (beneath vertex) walk) other) (λ not.
            let begins = subst (λ v. IsWalk (IsLinkOf count ins) v other u) (sym (t.plain_vertex s below)) allowed.is_walk in
            let s_below : s < size = omega (arith, t.large) in
            walk_up s u other [] s_below (start_longest s below) begins (allowed_avoids rs (edges_of other) allowed.allowed)
            (λ above y above_walks y_below y_vertex same. not (
            let apart : above ≢ walk = λ e. differ (sym same ∙ ap (map (beneath vertex)) e) in
            let before = least.precedes above (record { target = y; is_target = (are y).1 (y_below, y_vertex); is_walk = above_walks }) apart in
            ap (route_cmp nat_cmp (map (beneath vertex) walk)) (sym same) ∙ sym (order_beneath s leads.target y walk above leads.is_walk above_walks) ∙ before)));
      }

  -- where no walk of states leads to a vertex, none does that meets no restriction
  pub none_beneath : (s u : ℕ) (targets : List ℕ) → s < count → ((y : ℕ) → Contains targets y ↔ ((y < size) × (vertex y ≡ u)))
      → ((walk : List (LinkOf ℕ)) → LeadsTo Has targets s walk → ⊥) → (walk : List (LinkOf ℕ)) → IsAllowedWalk (IsLinkOf count ins) rs s u walk → ⊥
  none_beneath s u targets below are none walk allowed =
      let begins = subst (λ v. IsWalk (IsLinkOf count ins) v walk u) (sym (t.plain_vertex s below)) allowed.is_walk in
      let s_below : s < size = omega (arith, t.large) in
      walk_up s u walk [] s_below (start_longest s below) begins (allowed_avoids rs (edges_of walk) allowed.allowed)
      (λ above y above_walks y_below y_vertex same. none above (record { target = y; is_target = (are y).1 (y_below, y_vertex); is_walk = above_walks }))
