-- Sets of candidates: vertices that may qualify for a method.
use Rattle.std.specs.Prelude.{◌≡◌, ◌≢◌, ◌⊎◌, ℤ, ◌≤ℤ◌, true, List, Contains, Option, Some, None}
use Rattle.std.specs.Ordering.{int_cmp}
use Rattle.std.specs.BTreeSet.{BTreeSet, contains}
use Rattle.pgr_walks.specs.declared.link.LinkOf.{LinkOf}
use Rattle.pgr_words.specs.declared.method.Method.{Method}
use Rattle.pgr_contract.specs.declared.event.Event.{Event}
use Rattle.pgr_contract.specs.declared.event.Event.TheVariants.{End, Pass}
use Rattle.pgr_contract.specs.State.{State, ends_of}
use Rattle.pgr_contract.specs.Steps.{Qualifies}
use Rattle.pgr_contract.specs.Events.{IsEventOf, vertex_of, method_of}

-- the set has the id
abbrev pub Among : BTreeSet ℤ → ℤ → Type 0
Among set x = contains int_cmp set x ≡ true

-- the set has every vertex that stands, isn't barred and qualifies, and none that is barred
pub record Covers (method : Method) (barred : BTreeSet ℤ) (S : State) (set : BTreeSet ℤ) : Type 0 where
  pub all : (x : ℤ) → Contains S.vertices x → ¬ Among barred x → Qualifies method (Contains S.links) x → Among set x
  pub allowed : (x : ℤ) → Among set x → ¬ Among barred x

-- the least of the candidates that qualifies was taken out, and of the others those that don't at most
pub record IsTakenOut (method : Method) (links : List (LinkOf ℤ)) (old new : BTreeSet ℤ) (event : Event) : Type 0 where
  pub event_of : IsEventOf links event
  pub by : method_of event ≡ method
  pub member : Among old (vertex_of event)
  pub least : (x : ℤ) → Among old x → Qualifies method (Contains links) x → vertex_of event ≤ℤ x
  pub left : (x : ℤ) → Among old x → Qualifies method (Contains links) x → x ≢ vertex_of event → Among new x
  pub fewer : (x : ℤ) → Among new x → Among old x

-- none of the candidates qualifies, or the least that does was taken out
abbrev pub IsNextOf : Method → List (LinkOf ℤ) → BTreeSet ℤ → BTreeSet ℤ → Option Event → Type 0
IsNextOf method links old new None = ((x : ℤ) → Among old x → ¬ Qualifies method (Contains links) x) × ((x : ℤ) → Among new x → Among old x)
IsNextOf method links old new (Some event) = IsTakenOut method links old new event

-- the vertex is a neighbour of the one that went
abbrev pub IsBeside : Event → ℤ → Type 0
IsBeside (End folded) x = x ≡ folded.into
IsBeside (Pass passed) x = (x ≡ passed.low) ⊎ (x ≡ passed.high)

-- an id was added, unless it is barred
pub record IsAdded (barred : BTreeSet ℤ) (id : ℤ) (old new : BTreeSet ℤ) : Type 0 where
  pub kept : (x : ℤ) → Among old x → Among new x
  pub added : ¬ Among barred id → Among new id
  pub allowed : (x : ℤ) → Among new x → Among old x ⊎ ¬ Among barred x

-- the neighbours of the vertex that went were added, unless they are barred
pub record AreAdded (barred : BTreeSet ℤ) (event : Event) (old new : BTreeSet ℤ) : Type 0 where
  pub kept : (x : ℤ) → Among old x → Among new x
  pub added : (x : ℤ) → IsBeside event x → ¬ Among barred x → Among new x
  pub allowed : (x : ℤ) → Among new x → Among old x ⊎ ¬ Among barred x

-- all ends so far that aren't barred are candidates, and none that is
pub record AreEndsIn (links : List (LinkOf ℤ)) (barred set : BTreeSet ℤ) : Type 0 where
  pub all : (x : ℤ) → Contains (ends_of links) x → ¬ Among barred x → Among set x
  pub allowed : (x : ℤ) → Among set x → ¬ Among barred x
