-- Sending flow over a walk of residual links.
use Rattle.std.specs.Prelude.{◌≡◌, ℕ, ◌+◌, ◌<◌, ◌≤◌, Bool, true, cond, List, Option, length, nat_eq}
use Rattle.pgr_walks.specs.declared.link.LinkOf.{LinkOf}
use Rattle.pgr_flow.specs.declared.residual.Step.{Step}
use Rattle.pgr_flow.specs.Flow.{leaving, entering, IsFlow}
use Rattle.pgr_flow.specs.Residual.{IsResidual}
use Rattle.pgr_flow.specs.Levels.{level_at}
use Rattle.pgr_flow.specs.Descent.{step_at}
use Rattle.std.specs.Prelude.{Some}

-- a walk of residual links, none of which stands in it twice
pub record IsResidualWalk (arcs : List (LinkOf ℕ)) (flows : List ℕ) (walk : List Step) : Type 0 where
  pub some : 0 < length walk
  pub residual : (i : ℕ) → i < length walk → IsResidual arcs flows (step_at walk i).arc (step_at walk i).way (step_at walk i).from (step_at walk i).to
  pub joined : (i : ℕ) → i + 1 < length walk → (step_at walk i).to ≡ (step_at walk (i + 1)).from
  pub once : (i j : ℕ) → i < j → j < length walk → (step_at walk i).arc ≡ (step_at walk j).arc → (step_at walk i).way ≡ (step_at walk j).way → ⊥

-- an amount more leads from u to v: for every set of vertices what leaves it less what comes into it is the amount more where it has u, and the amount less where it has v
abbrev pub IsMoved : List (LinkOf ℕ) → ℕ → ℕ → ℕ → List ℕ → List ℕ → Type 0
IsMoved arcs u v amount old new = (inside : ℕ → Bool)
    → leaving inside arcs new + entering inside arcs old + cond (inside v) amount 0 ≡ leaving inside arcs old + entering inside arcs new + cond (inside u) amount 0

-- the value of the second is at least that of the first
abbrev pub RisesTo : List (LinkOf ℕ) → (ℕ → Bool) → List ℕ → List ℕ → Type 0
RisesTo arcs source old new = leaving source arcs old + entering source arcs new ≤ leaving source arcs new + entering source arcs old

-- the value of the second is greater
abbrev pub RisesAbove : List (LinkOf ℕ) → (ℕ → Bool) → List ℕ → List ℕ → Type 0
RisesAbove arcs source old new = leaving source arcs old + entering source arcs new < leaving source arcs new + entering source arcs old

-- level 0 is that of sources
abbrev pub AreRooted : (ℕ → Bool) → List (Option ℕ) → Type 0
AreRooted source levels = (v : ℕ) → level_at levels v ≡ Some 0 → source v ≡ true

-- flows are still within the capacities, and whatever was a flow to such a sink is one, of no lesser value
pub record IsAugmented (arcs : List (LinkOf ℕ)) (levels : List (Option ℕ)) (old new : List ℕ) (source sink : ℕ → Bool) : Type 0 where
  pub flow : IsFlow nat_eq arcs source sink old → IsFlow nat_eq arcs source sink new
  pub rises : RisesTo arcs source old new
