-- Where what a vertex held comes to rest: at a vertex, or at the shortcuts that took a vertex's place.
use Rattle.std.specs.Prelude.{ℕ, suc, ℤ, Bool, true, false, ◌||◌, nat_le, List, [], ◌∷◌, ◌++◌, flat_map, fold, Option, Some, None, if◌then◌else◌}
use Rattle.std.specs.Option.{option_map}
use Rattle.std.specs.Ordering.{int_eq}
use Rattle.pgr_contract.specs.declared.event.Bypassed.{Bypassed}
use Rattle.pgr_contract.specs.declared.event.Event.{Event}
use Rattle.pgr_contract.specs.declared.event.Event.TheVariants.{End, Pass}
use Rattle.pgr_contract.specs.declared.held.Span.{Span}
use Rattle.pgr_contract.specs.declared.held.Holder.{Holder}
use Rattle.pgr_contract.specs.declared.held.Holder.TheVariants.{At, Over}
use Rattle.pgr_contract.specs.declared.held.Gone.{Gone}
use Rattle.pgr_contract.specs.Events.{vertex_of}

-- what the shortcuts between two vertices are known by: the vertex whose place they took
abbrev pub span_of : Bypassed → Span
span_of passed = record { vertex = passed.vertex; low = passed.low; high = passed.high }

-- where what is left of a vertex goes
abbrev pub holder_of : Event → Holder
holder_of (End folded) = At folded.into
holder_of (Pass passed) = Over (span_of passed)

-- the holder goes where the vertex goes: it is the vertex, or shortcuts that end there
abbrev pub goes_with : Holder → ℤ → Bool
goes_with (At z) v = int_eq z v
goes_with (Over span) v = int_eq span.low v || int_eq span.high v

-- where the holder's things are after the event
abbrev pub moved : Holder → Event → Holder
moved holder event = if goes_with holder (vertex_of event) then holder_of event else holder

-- where they are after all the events
abbrev pub settled : List Event → Holder → Holder
settled events holder = fold moved holder events

-- where x rests after an event: nowhere while it stands
abbrev pub rest_after : ℤ → Option Holder → Event → Option Holder
rest_after x rest event = if int_eq x (vertex_of event) then Some (holder_of event) else option_map (λ holder. moved holder event) rest

-- where x rests after the events
abbrev pub rest_of : List Event → ℤ → Option Holder
rest_of events x = fold (rest_after x) None events

-- the earlier of two that went, if one did, and else the holder itself
abbrev pub earlier : Holder → Option Gone → Option Gone → Holder
earlier holder None None = holder
earlier holder (Some gone) None = gone.holder
earlier holder None (Some other) = other.holder
earlier holder (Some gone) (Some other) = if nat_le gone.place other.place then gone.holder else other.holder

-- where the holder's things rest, by where things of the vertices that go rest
abbrev pub resolved : (ℤ → Option Gone) → Holder → Holder
resolved gone (At z) = earlier (At z) (gone z) None
resolved gone (Over span) = earlier (Over span) (gone span.low) (gone span.high)

-- of each vertex that goes the place of the event, the first being n, and where what it held rests in the end: found from the last event to the first
abbrev pub gone_from : ℕ → List Event → ℤ → Option Gone
gone_from n [] x = None
gone_from n (event ∷ more) x =
    if int_eq x (vertex_of event) then Some (record { place = n; holder = resolved (gone_from (suc n) more) (holder_of event) }) else gone_from (suc n) more x

-- the things are at the vertex z
abbrev pub holds_at : ℤ → Holder → Bool
holds_at z (At y) = int_eq z y
holds_at z (Over span) = false

-- the things are at the shortcuts that took the place of v
abbrev pub holds_over : ℤ → Holder → Bool
holds_over v (At y) = false
holds_over v (Over span) = int_eq v span.vertex

-- the vertex went, and rests where the test says
abbrev pub rests : (Holder → Bool) → Option Gone → Bool
rests test None = false
rests test (Some gone) = test gone.holder

-- a shortcut as it is made, without what it holds, and what it is known by
pub record Tag : Type 0 where
  pub from : ℤ
  pub to : ℤ
  pub cost : ℕ
  pub span : Span

-- the shortcut from a to b that costs so much, where there is a cost
abbrev pub tag : ℤ → ℤ → Option ℕ → Span → List Tag
tag a b None span = []
tag a b (Some cost) span = record { from = a; to = b; cost = cost; span = span } ∷ []

-- the shortcuts that an event makes
abbrev pub tags_at : Bool → Event → List Tag
tags_at directed (End folded) = []
tags_at true (Pass passed) = tag passed.low passed.high passed.there (span_of passed) ++ tag passed.high passed.low passed.back (span_of passed)
tags_at false (Pass passed) = tag passed.low passed.high passed.there (span_of passed)

-- the shortcuts that the events make, in order
abbrev pub tags_of : Bool → List Event → List Tag
tags_of directed events = flat_map (tags_at directed) events
