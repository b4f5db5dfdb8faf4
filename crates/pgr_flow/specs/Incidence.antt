-- The two ends of each arc, by the vertex where they are.
use Rattle.std.specs.Prelude.{◌≡◌, ℕ, ◌+◌, ◌<◌, ◌≤◌, List, All, Contains, length, slice_index, slice_index_or}
use Rattle.pgr_walks.specs.declared.link.LinkOf.{LinkOf}
use Rattle.pgr_flow.specs.declared.residual.Way.{Way}
use Rattle.pgr_flow.specs.declared.residual.Way.TheVariants.{Along}
use Rattle.pgr_flow.specs.declared.incidence.Incident.{Incident}
use Rattle.pgr_flow.specs.Residual.{arc_at, start_of, end_of, LeadsOver}

-- what a list has past its end
abbrev pub no_incident : Incident
no_incident = record { vertex = 0; other = 0; arc = 0; out = Along }

-- the end at a place
abbrev pub incident_at : List Incident → ℕ → Incident
incident_at list p = slice_index_or list p no_incident

-- the end of an arc where it begins, taken this way
abbrev pub incident_of : List (LinkOf ℕ) → ℕ → Way → Incident
incident_of arcs k way = record { vertex = start_of way (arc_at arcs k); other = end_of way (arc_at arcs k); arc = k; out = way }

-- each element is an end of an arc
abbrev pub IsEndOf : List (LinkOf ℕ) → Incident → Type 0
IsEndOf arcs i = LeadsOver arcs i.arc i.out i.vertex i.other

-- the ends of the first n arcs, in any order
pub record HoldsEnds (arcs : List (LinkOf ℕ)) (n : ℕ) (list : List Incident) : Type 0 where
  pub each : All (IsEndOf arcs) list
  pub all : (k : ℕ) (way : Way) → k < n → Contains list (incident_of arcs k way)

-- the elements before the place are those at lesser vertices than v
pub record IsBeginning (list : List Incident) (v place : ℕ) : Type 0 where
  pub within : place ≤ length list
  pub before : (p : ℕ) → p < place → (incident_at list p).vertex < v
  pub after : (p : ℕ) → place ≤ p → p < length list → v ≤ (incident_at list p).vertex

-- for each vertex below the size the place where its ends begin, and at last the end of the list
pub record AreBeginnings (size : ℕ) (list : List Incident) (starts : List ℕ) : Type 0 where
  pub size_is : length starts ≡ size + 1
  pub at : (v : ℕ) → v ≤ size → IsBeginning list v (slice_index starts v)

-- every end of every arc stands in the part of its vertex, and nothing else does
pub record HoldsIncidence (size : ℕ) (arcs : List (LinkOf ℕ)) (starts : List ℕ) (list : List Incident) : Type 0 where
  pub count : length starts ≡ size + 1
  pub order : (v : ℕ) → v < size → slice_index starts v ≤ slice_index starts (v + 1)
  pub inside : (v : ℕ) → v ≤ size → slice_index starts v ≤ length list
  pub sound : (v p : ℕ) → v < size → slice_index starts v ≤ p → p < slice_index starts (v + 1)
      → LeadsOver arcs (incident_at list p).arc (incident_at list p).out v (incident_at list p).other
  pub complete : (k : ℕ) (way : Way) → k < length arcs
      → (p : ℕ) × (slice_index starts (start_of way (arc_at arcs k)) ≤ p) × (p < slice_index starts (start_of way (arc_at arcs k) + 1))
      × (incident_at list p ≡ incident_of arcs k way)
