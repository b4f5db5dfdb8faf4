-- From labels of states to walks beneath: targets, the labels of a search, and the route that they tell.
use Rattle.std.proofs.Common.{◌≡◌, ℕ, ℤ, ◌+◌, ◌<◌, ◌≤◌, List, [], ◌∷◌, ◌++◌, Option, map, sym, ap, ◌∙◌, subst, arith, ⊎_elim}
use Rattle.std.specs.Prelude.{Contains, All}
use Rattle.std.specs.Ordering.{nat_cmp}
use Rattle.std.proofs.lemmas.Bool.{cases_lt}
use Rattle.std.proofs.lemmas.List.Elements.{Contains-push, Contains-push_cases, Contains-append_left}
use Rattle.pgr_walks.specs.declared.link.LinkOf.{LinkOf}
use Rattle.pgr_walks.specs.declared.label.Label.{Label}
use Rattle.pgr_walks.specs.Graph.{IsLinkOf}
use Rattle.pgr_walks.specs.RouteOrder.{IsLeast}
use Rattle.pgr_walks.specs.Label.{LeadsTo}
use Rattle.pgr_search.specs.FinalLabels.{HoldsLabelsUpTo, ReachesWanted, wanted_known}
use Rattle.pgr_route.specs.Least.{IsLeastFrom, LeadsNowhere}
use Rattle.pgr_turns.specs.Allowed.{AreTargets, HoldsAllowed}
use Rattle.pgr_turns.specs.Restrictions.{IsAllowedWalk}
use Rattle.pgr_turns.specs.Turned.{beneath, IsTurned}
use Rattle.pgr_turns.proofs.StateSteps.{all_from}
use Rattle.pgr_turns.proofs.TurnedWalks.{least_beneath, none_beneath}
use Rattle.pgr_turns.proofs.RoutesBeneath.{walk_ends}

-- one state more is looked at
pub targets_hit : (x : ℕ) (vertex : ℕ → ℕ) (to : ℕ) (targets : List ℕ) → AreTargets x vertex to targets → vertex x ≡ to → AreTargets (x + 1) vertex to (targets ++ x ∷ [])
targets_hit x vertex to targets h is y = (
  λ there. ⊎_elim (λ earlier. let r = (h y).0 earlier in (omega (arith, r.0), r.1)) (λ same. (omega (arith, same), ap vertex (sym same) ∙ is))
      (Contains-push_cases targets x y there),
  λ r. ⊎_elim (λ less. Contains-append_left targets (x ∷ []) y ((h y).1 (less, r.1)))
      (λ more. let same : x ≡ y = omega (arith, r.0, more) in subst (λ z. Contains (targets ++ x ∷ []) z) same (Contains-push targets x)) (cases_lt y x),
)

pub targets_miss : (x : ℕ) (vertex : ℕ → ℕ) (to : ℕ) (targets : List ℕ) → AreTargets x vertex to targets → (vertex x ≡ to → ⊥) → AreTargets (x + 1) vertex to targets
targets_miss x vertex to targets h not y = (
  λ there. let r = (h y).0 there in (omega (arith, r.0), r.1),
  λ r. ⊎_elim (λ less. (h y).1 (less, r.1)) (λ more. let same : y ≡ x = omega (arith, r.0, more) in absurd (not (ap vertex (sym same) ∙ r.1))) (cases_lt y x),
)

pub targets_below : (size : ℕ) (vertex : ℕ → ℕ) (to : ℕ) (targets : List ℕ) → AreTargets size vertex to targets → All (λ t. t < size) targets
targets_below size vertex to targets h = all_from (λ t. t < size) targets (λ t there. ((h t).0 there).0)

-- starts are states
pub starts_below : (count size : ℕ) (starts : List ℕ) → count ≤ size → All (λ start. start < count) starts → All (λ start. start < size) starts
starts_below count size starts large h k d inside = omega (arith, h k d inside, large)

-- a search that has reached the starts
pub search_holds : (size : ℕ) (Has : LinkOf ℕ → Type 0) (vertex : ℕ → ℕ) (to : ℕ) (targets starts : List ℕ) (labels : List (Option Label)) → AreTargets size vertex to targets
    → HoldsLabelsUpTo size Has targets labels → ReachesWanted Has targets starts labels → (start : ℕ) → Contains starts start → HoldsAllowed size Has vertex to labels start
search_holds size Has vertex to targets starts labels are holds reaches start there =
    record { targets = targets; are = are; holds = wanted_known size Has targets starts labels holds reaches start there }

module _ (count : ℕ) (ins : ℕ → List (LinkOf ℕ)) (rs : List (List ℤ)) (size : ℕ) (vertex : ℕ → ℕ) (front : ℕ → List ℤ) (Has : LinkOf ℕ → Type 0)
    (t : IsTurned count ins rs size vertex front Has) (labels : List (Option Label)) (from to : ℕ) (from_below : from < count)
    (h : HoldsAllowed size Has vertex to labels from) where
  pub allowed_least : (route : List (LinkOf ℕ)) → IsLeastFrom size Has labels from route → IsLeast nat_cmp (IsAllowedWalk (IsLinkOf count ins) rs from to)
      (map (beneath vertex) route)
  allowed_least route least = least_beneath count ins rs size vertex front Has t from to h.targets route from_below h.are (least h.targets h.holds)

  pub allowed_none : LeadsNowhere size Has labels from → (walk : List (LinkOf ℕ)) → IsAllowedWalk (IsLinkOf count ins) rs from to walk → ⊥
  allowed_none nowhere walk = none_beneath count ins rs size vertex front Has t from to h.targets from_below h.are (nowhere h.targets h.holds) walk

  pub route_ends : (route : List (LinkOf ℕ)) → IsLeastFrom size Has labels from route → All (λ link. (link.from < size) × (link.to < size)) route
  route_ends route least =
      let leads : LeadsTo Has h.targets from route = (least h.targets h.holds).belongs in
      walk_ends size Has t.ends from leads.target route leads.is_walk
