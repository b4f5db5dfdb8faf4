-- Steps of a contraction as they are noted: which vertex went, and what took its place.
use Rattle.std.specs.Prelude.{◌≡◌, ◌⊎◌, ℤ, Bool, List, Contains, Option, Some, None, IsSome, fold}
use Rattle.pgr_walks.specs.declared.link.LinkOf.{LinkOf}
use Rattle.pgr_words.specs.declared.method.Method.{Method}
use Rattle.pgr_words.specs.declared.method.Method.TheVariants.{DeadEnd, Linear}
use Rattle.pgr_contract.specs.declared.event.Bypassed.{Bypassed}
use Rattle.pgr_contract.specs.declared.event.Event.{Event}
use Rattle.pgr_contract.specs.declared.event.Event.TheVariants.{End, Pass}
use Rattle.pgr_contract.specs.State.{State, first_state}
use Rattle.pgr_contract.specs.Steps.{HasOne, HasTwo, IsWayCost, Qualifies, after_dead_end, after_linear}

-- the vertex that went
abbrev pub vertex_of : Event → ℤ
vertex_of (End folded) = folded.vertex
vertex_of (Pass passed) = passed.vertex

-- the method by which it went
abbrev pub method_of : Event → Method
method_of (End folded) = DeadEnd
method_of (Pass passed) = Linear

-- the state after it went
abbrev pub after : Bool → State → Event → State
after directed S (End folded) = after_dead_end folded.vertex folded.into S
after directed S (Pass passed) = after_linear directed passed.vertex passed.low passed.high passed.there passed.back S

-- the state after all of them
abbrev pub state_of : Bool → List (LinkOf ℤ) → List Event → State
state_of directed links events = fold (after directed) (first_state links) events

-- the linear vertex of the links, its neighbours, and the costs of the ways between them, of which there is one at least
pub record IsPass (links : List (LinkOf ℤ)) (passed : Bypassed) : Type 0 where
  pub two : HasTwo (Contains links) passed.vertex passed.low passed.high
  pub there_is : IsWayCost (Contains links) passed.low passed.vertex passed.high passed.there
  pub back_is : IsWayCost (Contains links) passed.high passed.vertex passed.low passed.back
  pub some : IsSome passed.there ⊎ IsSome passed.back

-- the event is one of the links
abbrev pub IsEventOf : List (LinkOf ℤ) → Event → Type 0
IsEventOf links (End folded) = HasOne (Contains links) folded.vertex folded.into
IsEventOf links (Pass passed) = IsPass links passed

-- what was found of v: it qualifies, and how it goes, or it doesn't
abbrev pub IsFound : Method → List (LinkOf ℤ) → ℤ → Option Event → Type 0
IsFound method links v None = ¬ Qualifies method (Contains links) v
IsFound method links v (Some event) = IsEventOf links event × ((vertex_of event ≡ v) × (method_of event ≡ method))
