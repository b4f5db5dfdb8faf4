-- The run of a contraction: in each phase the least vertex that qualifies and isn't forbidden goes, until there is none.
use Rattle.std.specs.Prelude.{◌≡◌, ℕ, zero, suc, ℤ, ◌≤ℤ◌, Bool, List, [], ◌∷◌, ◌++◌, Contains}
use Rattle.pgr_words.specs.declared.method.Method.{Method}
use Rattle.pgr_contract.specs.State.{State}
use Rattle.pgr_contract.specs.Steps.{Qualifies, IsStep}

-- the vertex may be taken by the method: it stands, isn't forbidden and qualifies
pub record MayGo (method : Method) (forbidden : List ℤ) (S : State) (v : ℤ) : Type 0 where
  pub stands : Contains S.vertices v
  pub allowed : ¬ Contains forbidden v
  pub qualifies : Qualifies method (Contains S.links) v

-- the vertex is the next to go: it may, and each that may is no less
pub record IsNext (method : Method) (forbidden : List ℤ) (S : State) (v : ℤ) : Type 0 where
  pub may : MayGo method forbidden S v
  pub least : (x : ℤ) → MayGo method forbidden S x → v ≤ℤ x

-- the vertices go in turn, each as the next
abbrev pub Takes : Bool → Method → List ℤ → List ℤ → State → State → Type 0
Takes directed method forbidden [] S T = S ≡ T
Takes directed method forbidden (v ∷ more) S T =
    IsNext method forbidden S v × ((R : State) × (IsStep directed method v S R × Takes directed method forbidden more R T))

-- a phase: vertices go in turn until none may
pub record IsPhase (directed : Bool) (method : Method) (forbidden : List ℤ) (S T : State) : Type 0 where
  pub taken : List ℤ
  pub takes : Takes directed method forbidden taken S T
  pub none : (x : ℤ) → ¬ MayGo method forbidden T x

-- a run: a phase for each of the methods, in order
abbrev pub IsRun : Bool → List ℤ → List Method → State → State → Type 0
IsRun directed forbidden [] S T = S ≡ T
IsRun directed forbidden (method ∷ methods) S T = (R : State) × (IsPhase directed method forbidden S R × IsRun directed forbidden methods R T)

-- the methods of the order, so many times over
abbrev pub times_over : ℕ → List Method → List Method
times_over zero order = []
times_over (suc n) order = order ++ times_over n order
