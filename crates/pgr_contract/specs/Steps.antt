-- One step of a contraction: a vertex that qualifies goes, by one of the two methods.
use Rattle.std.specs.Prelude.{◌≡◌, ◌≢◌, ◌⊎◌, ℕ, ◌+◌, ◌≤◌, ℤ, ◌<ℤ◌, Bool, true, false, List, [], ◌∷◌, ◌++◌, length, Contains, Option, Some, None, if◌then◌else◌}
use Rattle.std.specs.Ordering.{int_eq}
use Rattle.pgr_walks.specs.declared.link.LinkOf.{LinkOf}
use Rattle.pgr_words.specs.declared.method.Method.{Method}
use Rattle.pgr_words.specs.declared.method.Method.TheVariants.{DeadEnd, Linear}
use Rattle.pgr_contract.specs.State.{Made, State, left_of, without_vertex, without_links_at, links_of_made}

-- a neighbour of v is another vertex that shares a link with v, whatever the link's direction
abbrev pub IsNeighbour : (LinkOf ℤ → Type 0) → ℤ → ℤ → Type 0
IsNeighbour Has v x = (x ≢ v) × ((link : LinkOf ℤ) × (Has link × (((link.from ≡ v) × (link.to ≡ x)) ⊎ ((link.from ≡ x) × (link.to ≡ v)))))

-- u is the one neighbour of v
pub record HasOne (Has : LinkOf ℤ → Type 0) (v u : ℤ) : Type 0 where
  pub neighbour : IsNeighbour Has v u
  pub only : (x : ℤ) → IsNeighbour Has v x → x ≡ u

-- the neighbours of v are low and high, of which low is less
pub record HasTwo (Has : LinkOf ℤ → Type 0) (v low high : ℤ) : Type 0 where
  pub less : low <ℤ high
  pub first : IsNeighbour Has v low
  pub second : IsNeighbour Has v high
  pub only : (x : ℤ) → IsNeighbour Has v x → (x ≡ low) ⊎ (x ≡ high)

-- some link leads from a to b
abbrev pub Leads : (LinkOf ℤ → Type 0) → ℤ → ℤ → Type 0
Leads Has a b = (link : LinkOf ℤ) × (Has link × ((link.from ≡ a) × (link.to ≡ b)))

-- there is a way from a over v to b: a link leads from a to v, and one from v to b
abbrev pub IsWay : (LinkOf ℤ → Type 0) → ℤ → ℤ → ℤ → Type 0
IsWay Has a v b = Leads Has a v × Leads Has v b

-- the vertex qualifies for the method: as a dead end with exactly one neighbour, as linear with exactly two and a way from one to the other
abbrev pub Qualifies : Method → (LinkOf ℤ → Type 0) → ℤ → Type 0
Qualifies DeadEnd Has v = (u : ℤ) × HasOne Has v u
Qualifies Linear Has v = (low : ℤ) × ((high : ℤ) × (HasTwo Has v low high × (IsWay Has low v high ⊎ IsWay Has high v low)))

-- the least cost of the links from a to b
pub record IsLeastLink (Has : LinkOf ℤ → Type 0) (a b : ℤ) (cost : ℕ) : Type 0 where
  pub link : LinkOf ℤ
  pub has : Has link
  pub from : link.from ≡ a
  pub to : link.to ≡ b
  pub cost_is : link.cost ≡ cost
  pub least : (other : LinkOf ℤ) → Has other → other.from ≡ a → other.to ≡ b → cost ≤ other.cost

-- the cost of the way from a over v to b, or none where there is no such way: the least cost of a link into v on it, and the least cost of one out of v
abbrev pub IsWayCost : (LinkOf ℤ → Type 0) → ℤ → ℤ → ℤ → Option ℕ → Type 0
IsWayCost Has a v b None = ¬ IsWay Has a v b
IsWayCost Has a v b (Some cost) = (into : ℕ) × ((out : ℕ) × (IsLeastLink Has a v into × (IsLeastLink Has v b out × (cost ≡ into + out))))

-- after a dead end went: its links are gone, and its neighbour holds what is left of it
abbrev pub after_dead_end : ℤ → ℤ → State → State
after_dead_end v u S = record {
  vertices = without_vertex v S.vertices;
  links = without_links_at v S.links;
  inside = λ x. if int_eq x u then S.inside x ++ left_of S v else S.inside x;
  made = S.made;
}

-- the shortcut from a to b that costs so much, where there is a cost
abbrev pub shortcut : ℤ → ℤ → Option ℕ → List ℤ → List Made
shortcut a b None inside = []
shortcut a b (Some cost) inside = record { from = a; to = b; cost = cost; inside = inside } ∷ []

-- the shortcuts between two vertices: in the directed graph one there and then one back, as far as there are costs; in the undirected graph one
abbrev pub shortcuts_between : Bool → ℤ → ℤ → Option ℕ → Option ℕ → List ℤ → List Made
shortcuts_between true low high there back inside = shortcut low high there inside ++ shortcut high low back inside
shortcuts_between false low high there back inside = shortcut low high there inside

-- after a linear vertex went: its links are gone, and shortcuts between its neighbours hold what is left of it
abbrev pub after_linear : Bool → ℤ → ℤ → ℤ → Option ℕ → Option ℕ → State → State
after_linear directed v low high there back S =
    let new = shortcuts_between directed low high there back (left_of S v) in
    record {
      vertices = without_vertex v S.vertices;
      links = without_links_at v S.links ++ links_of_made directed (length S.made) new;
      inside = S.inside;
      made = S.made ++ new;
    }

-- the dead end v goes
pub record IsDeadEndStep (v : ℤ) (S T : State) : Type 0 where
  pub neighbour : ℤ
  pub one : HasOne (Contains S.links) v neighbour
  pub after : T ≡ after_dead_end v neighbour S

-- the linear vertex v goes
pub record IsLinearStep (directed : Bool) (v : ℤ) (S T : State) : Type 0 where
  pub low : ℤ
  pub high : ℤ
  pub there : Option ℕ
  pub back : Option ℕ
  pub two : HasTwo (Contains S.links) v low high
  pub there_is : IsWayCost (Contains S.links) low v high there
  pub back_is : IsWayCost (Contains S.links) high v low back
  pub after : T ≡ after_linear directed v low high there back S

-- the vertex v goes by the method
abbrev pub IsStep : Bool → Method → ℤ → State → State → Type 0
IsStep directed DeadEnd v S T = IsDeadEndStep v S T
IsStep directed Linear v S T = IsLinearStep directed v S T
