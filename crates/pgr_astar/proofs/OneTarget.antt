-- Walks to the one target t are walks to t.
use Rattle.std.proofs.Common.{◌≡◌, ℕ, zero, suc, ◌<◌, List, [], ◌∷◌, Option, Some, None, Contains, IfSome, IfNone, Result, Ok, Err, IfOk, refl, sym, subst, arith}
use Rattle.std.specs.Ordering.{nat_cmp}
use Rattle.pgr_walks.specs.declared.link.LinkOf.{LinkOf}
use Rattle.pgr_walks.specs.declared.label.Label.{Label}
use Rattle.pgr_walks.specs.Walk.{IsWalk}
use Rattle.pgr_walks.specs.Label.{LeadsTo}
use Rattle.pgr_walks.specs.RouteOrder.{IsLeast}
use Rattle.pgr_search.specs.FinalLabels.{HoldsLabelsFrom}
use Rattle.pgr_route.specs.Least.{IsLeastFrom, LeadsNowhere}

module _ (size : ℕ) (Has : LinkOf ℕ → Type 0) (s t : ℕ) where
  to_target : (walk : List (LinkOf ℕ)) → LeadsTo Has (t ∷ []) s walk → IsWalk Has s walk t
  to_target walk leads = at leads.target leads.is_target leads.is_walk
    where
      at : (u : ℕ) → Contains (t ∷ []) u → IsWalk Has s walk u → IsWalk Has s walk t
      at u (zero, below, is) w = subst (IsWalk Has s walk) (sym is) w
      at u (suc k, below, is) w = absurd (omega arith)

  from_target : (walk : List (LinkOf ℕ)) → IsWalk Has s walk t → LeadsTo Has (t ∷ []) s walk
  from_target walk w = record { target = t; is_target = (0, omega arith, refl); is_walk = w }

  -- labels that are the same hold the same
  pub still_holds : (labels same : List (Option Label)) → labels ≡ same → HoldsLabelsFrom size Has (t ∷ []) labels s → HoldsLabelsFrom size Has (t ∷ []) same s
  still_holds labels same e holds = subst (λ l. HoldsLabelsFrom size Has (t ∷ []) l s) e holds

  -- the least walk that labels of the target t tell is the least to t
  pub least_to_target : (labels : List (Option Label)) → HoldsLabelsFrom size Has (t ∷ []) labels s → (found : Option (List (LinkOf ℕ)))
      → IfSome found (IsLeastFrom size Has labels s) → IfSome found (IsLeast nat_cmp (λ walk. IsWalk Has s walk t))
  least_to_target labels holds None h = tt
  least_to_target labels holds (Some route) h =
      let l = h (t ∷ []) holds in
      record { belongs = to_target route l.belongs; precedes = λ other w differs. l.precedes other (from_target other w) differs }

  -- and where they tell none, no walk leads to t
  pub none_to_target : (labels : List (Option Label)) → HoldsLabelsFrom size Has (t ∷ []) labels s → (found : Option (List (LinkOf ℕ)))
      → IfNone found (LeadsNowhere size Has labels s) → IfNone found ((walk : List (LinkOf ℕ)) → IsWalk Has s walk t → ⊥)
  none_to_target labels holds None h = λ walk w. h (t ∷ []) holds walk (from_target walk w)
  none_to_target labels holds (Some route) h = tt

-- what is said of each value of a result
pub IfOk-each : {X E : Type 0} (P Q : X → Type 0) → ((x : X) → P x → Q x) → (result : Result X E) → IfOk result P → IfOk result Q
IfOk-each P Q each (Ok x) p = each x p
IfOk-each P Q each (Err e) p = tt
