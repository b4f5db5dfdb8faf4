-- A graph whose vertices are states: a vertex of the graph beneath with the longest front of a restriction that the last edges are.
use Rattle.std.specs.Prelude.{◌≡◌, ◌≢◌, ℕ, ℤ, ◌<◌, ◌≤◌, List, [], ◌∷◌, true}
use Rattle.pgr_walks.specs.declared.link.LinkOf.{LinkOf}
use Rattle.pgr_walks.specs.Graph.{IsLinkOf}
use Rattle.pgr_walks.specs.ListGraph.{holds}
use Rattle.pgr_turns.specs.Fronts.{Begins, IsFront, Completes}
use Rattle.pgr_turns.specs.States.{IsHead}

-- the link beneath, between the vertices of the states
abbrev pub beneath : (ℕ → ℕ) → LinkOf ℕ → LinkOf ℕ
beneath vertex link = record { from = vertex link.from; edge = link.edge; cost = link.cost; to = vertex link.to }

-- the states are the vertices with no front, and vertices with a front of a restriction that completes none, where a link with the front's last edge leads;
-- the links of states are those of the graph beneath that complete no restriction, each to the state of the longest front then
pub record IsTurned (count : ℕ) (ins : ℕ → List (LinkOf ℕ)) (restrictions : List (List ℤ)) (size : ℕ) (vertex : ℕ → ℕ) (front : ℕ → List ℤ) (Has : LinkOf ℕ → Type 0) : Type 0 where
  pub large : count ≤ size
  pub plain_vertex : (v : ℕ) → v < count → vertex v ≡ v
  pub plain_front : (v : ℕ) → v < count → front v ≡ []
  pub inside : (x : ℕ) → x < size → vertex x < count
  -- a front that isn't empty is one of a restriction
  pub fronts : (x : ℕ) → x < size → front x ≢ [] → (IsFront restrictions (front x) → ⊥) → ⊥
  -- no front completes a restriction
  pub live : (x : ℕ) → x < size → Completes restrictions (front x) → ⊥
  -- a state with a front stands where a link with the front's last edge leads
  pub heads : (x : ℕ) (edge : ℤ) (before : List ℤ) → x < size → front x ≡ edge ∷ before → (IsHead (IsLinkOf count ins) edge (vertex x) → ⊥) → ⊥
  pub rises : (x y : ℕ) → x < size → y < size → front x ≡ front y → vertex x < vertex y → x < y
  pub one : (x y : ℕ) → x < size → y < size → front x ≡ front y → vertex x ≡ vertex y → x ≡ y
  pub ends : (link : LinkOf ℕ) → Has link → (link.from < size) × (link.to < size)
  pub passes : (link : LinkOf ℕ) → Has link → holds (ins (vertex link.to)) (beneath vertex link) ≡ true
  pub free : (link : LinkOf ℕ) → Has link → Completes restrictions (link.edge ∷ front link.from) → ⊥
  pub begins : (link : LinkOf ℕ) → Has link → Begins (front link.to) (link.edge ∷ front link.from)
  pub longest : (link : LinkOf ℕ) → Has link → (other : List ℤ) → IsFront restrictions other → Begins other (link.edge ∷ front link.from) → Begins other (front link.to)
  pub same : (link other : LinkOf ℕ) → Has link → Has other → link.from ≡ other.from → link.edge ≡ other.edge → front link.to ≡ front other.to
  pub reaches : (x : ℕ) (link : LinkOf ℕ) → x < size → IsLinkOf count ins link → link.from ≡ vertex x → (Completes restrictions (link.edge ∷ front x) → ⊥)
      → ((next : LinkOf ℕ) → Has next → next.from ≡ x → beneath vertex next ≡ link → ⊥) → ⊥
