-- Walks from a sink backwards down the levels.
use Rattle.std.specs.Prelude.{◌≡◌, ℕ, ◌+◌, ◌<◌, ◌≤◌, List, Option, Some, cond, nat_lt, length, slice_index, slice_index_or}
use Rattle.pgr_walks.specs.declared.link.LinkOf.{LinkOf}
use Rattle.pgr_flow.specs.declared.residual.Way.TheVariants.{Along}
use Rattle.pgr_flow.specs.declared.residual.Step.{Step}
use Rattle.pgr_flow.specs.declared.incidence.Incident.{Incident}
use Rattle.pgr_flow.specs.Residual.{room, turned, IsResidual}
use Rattle.pgr_flow.specs.Incidence.{incident_at}
use Rattle.pgr_flow.specs.Levels.{level_at}

-- what a list has past its end
abbrev pub no_step : Step
no_step = record { from = 0; to = 0; arc = 0; way = Along }

-- the step at a place
abbrev pub step_at : List Step → ℕ → Step
step_at steps l = slice_index_or steps l no_step

-- for each vertex the place in its part from where a search goes on
pub record ArePointers (size : ℕ) (starts next : List ℕ) : Type 0 where
  pub size_is : length next ≡ length starts
  pub low : (v : ℕ) → v < size → slice_index starts v ≤ slice_index next v
  pub high : (v : ℕ) → v < size → slice_index next v ≤ slice_index starts (v + 1)

-- over this end a residual link leads to its vertex from one of the level
pub record IsOpen (arcs : List (LinkOf ℕ)) (flows : List ℕ) (levels : List (Option ℕ)) (level : ℕ) (i : Incident) : Type 0 where
  pub level_is : level_at levels i.other ≡ Some level
  pub has_room : 0 < room arcs flows i.arc (turned i.out)

-- each vertex above level 0 is still led to from the level below, over an end that was not gone past
abbrev pub IsIntact : List (LinkOf ℕ) → List ℕ → List ℕ → List Incident → List (Option ℕ) → List ℕ → Type 0
IsIntact arcs flows starts list levels next = (v level : ℕ) → level_at levels v ≡ Some (level + 1)
    → (p : ℕ) × (slice_index next v ≤ p) × (p < slice_index starts (v + 1)) × IsOpen arcs flows levels level (incident_at list p)

-- a residual link from a vertex of a level to one of the next
pub record IsFalling (arcs : List (LinkOf ℕ)) (flows : List ℕ) (levels : List (Option ℕ)) (level : ℕ) (step : Step) : Type 0 where
  pub residual : IsResidual arcs flows step.arc step.way step.from step.to
  pub from_level : level_at levels step.from ≡ Some level
  pub to_level : level_at levels step.to ≡ Some (level + 1)

-- the vertex of a level on a walk to t, whose level is `top`
abbrev pub node : List Step → ℕ → ℕ → ℕ → ℕ
node steps t top l = cond (nat_lt l top) (step_at steps l).from t

-- a walk to t down to a vertex of a level: one step for each level between
pub record IsDescent (arcs : List (LinkOf ℕ)) (flows : List ℕ) (levels : List (Option ℕ)) (steps : List Step) (t top level at : ℕ) : Type 0 where
  pub at_level : level_at levels at ≡ Some level
  pub low : level ≤ top
  pub high : top ≤ length steps
  pub falls : (l : ℕ) → level ≤ l → l < top → IsFalling arcs flows levels l (step_at steps l)
  pub ends : (l : ℕ) → level ≤ l → l < top → (step_at steps l).to ≡ node steps t top (l + 1)
  pub here : node steps t top level ≡ at

-- every level that is left was there before
abbrev pub Fades : List (Option ℕ) → List (Option ℕ) → Type 0
Fades old new = (v level : ℕ) → level_at new v ≡ Some level → level_at old v ≡ Some level
