-- A contraction as it runs: the steps so far, and what is kept beside them to find the next.
use Rattle.std.specs.Prelude.{◌≡◌, ◌↔◌, ◌≤◌, ℤ, Bool, true, false, List, [], ◌∷◌, ◌++◌, Contains, Option}
use Rattle.pgr_walks.specs.declared.link.LinkOf.{LinkOf}
use Rattle.pgr_walks.specs.Graph.{greatest}
use Rattle.pgr_words.specs.declared.method.Method.{Method}
use Rattle.pgr_words.specs.declared.method.Method.TheVariants.{DeadEnd, Linear}
use Rattle.pgr_contract.specs.declared.event.Event.{Event}
use Rattle.pgr_contract.specs.declared.running.Task.{Task}
use Rattle.pgr_contract.specs.declared.running.Shrinking.{Shrinking}
use Rattle.pgr_contract.specs.State.{State, first_state}
use Rattle.pgr_contract.specs.Steps.{IsStep}
use Rattle.pgr_contract.specs.Run.{MayGo, IsNext}
use Rattle.pgr_contract.specs.Given.{HaveOpposites}
use Rattle.pgr_contract.specs.Weight.{weight}
use Rattle.pgr_contract.specs.Ways.{AreLow, HoldsWays}
use Rattle.pgr_contract.specs.Candidates.{Among, AreAdded, Covers, IsNextOf}
use Rattle.pgr_contract.specs.Events.{IsEventOf, after, state_of}

-- each event is one of the state that those before it left
abbrev pub IsLogFrom : Bool → State → List Event → Type 0
IsLogFrom directed S [] = Unit {0}
IsLogFrom directed S (event ∷ more) = IsEventOf S.links event × IsLogFrom directed (after directed S event) more

-- what is asked of a task: opposite links in the undirected graph, costs that add up to 2^63 - 1 at most, and the forbidden ids as a set
pub record IsTask (task : Task) : Type 0 where
  pub opposites : task.directed ≡ false → HaveOpposites task.links.now
  pub light : weight task.directed task.links.now ≤ greatest
  pub barred : (x : ℤ) → Among task.barred x ↔ Contains task.forbidden.now x

-- the state that the steps so far left
abbrev pub now_of : Task → Shrinking → State
now_of task shrinking = state_of task.directed task.links.now shrinking.events.items

-- what is kept is that of the state
pub record IsRunning (task : Task) (shrinking : Shrinking) : Type 0 where
  pub log : IsLogFrom task.directed (first_state task.links.now) shrinking.events.items
  pub ways : HoldsWays (now_of task shrinking).links shrinking.ways
  pub low : AreLow shrinking.ways
  pub dead_ends : Covers DeadEnd task.barred (now_of task shrinking) shrinking.dead_ends
  pub linears : Covers Linear task.barred (now_of task shrinking) shrinking.linears

-- one step was done, or there is none to do and nothing changed
abbrev pub IsStepOrEnd : Bool → Method → List ℤ → State → State → Bool → Type 0
IsStepOrEnd directed method forbidden S T true = (v : ℤ) × (IsNext method forbidden S v × IsStep directed method v S T)
IsStepOrEnd directed method forbidden S T false = (S ≡ T) × ((x : ℤ) → ¬ MayGo method forbidden S x)

-- what was kept of the method is that of the next step, and all else stays
abbrev pub IsNextIn : Method → Shrinking → Shrinking → Option Event → Type 0
IsNextIn DeadEnd old new result = (new ≡ record old { dead_ends = new.dead_ends })
    × ((links : List (LinkOf ℤ)) → HoldsWays links old.ways → IsNextOf DeadEnd links old.dead_ends new.dead_ends result)
IsNextIn Linear old new result = (new ≡ record old { linears = new.linears })
    × ((links : List (LinkOf ℤ)) → HoldsWays links old.ways → IsNextOf Linear links old.linears new.linears result)

-- a step was noted
pub record IsNoted (task : Task) (event : Event) (old new : Shrinking) : Type 0 where
  pub events : new.events.items ≡ old.events.items ++ event ∷ []
  pub ways : (S : State) → (task.directed ≡ false → HaveOpposites S.links) → HoldsWays S.links old.ways → IsEventOf S.links event
      → HoldsWays (after task.directed S event).links new.ways
  pub low : AreLow old.ways → AreLow new.ways
  pub dead_ends : AreAdded task.barred event old.dead_ends new.dead_ends
  pub linears : AreAdded task.barred event old.linears new.linears
