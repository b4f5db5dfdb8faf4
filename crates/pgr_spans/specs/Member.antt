-- Spans with their blocks, as they are found by the tops of their far ends.
use Rattle.std.specs.Prelude.{◌≡◌, ◌↔◌, ℕ, ◌<◌, List, [], ◌∷◌, length, map, Option, Some, None, true, not, ◌&&◌, ◌==◌, if◌then◌else◌, Contains, slice_index, slice_index_or, ℤ}
use Rattle.std.specs.List.{flat_map}
use Rattle.std.specs.Ordering.{int_cmp}
use Rattle.pgr_outside.specs.Lists.{IsStrictlyRising}
use Rattle.pgr_numbers.specs.Names.{id_at}
use Rattle.pgr_spans.specs.declared.segment.Segment.{Segment}
use Rattle.pgr_spans.specs.declared.member.Member.{Member}
use Rattle.pgr_spans.specs.declared.classed.Classed.{Classed}
use Rattle.pgr_spans.specs.declared.seen.Entry.{Entry}
use Rattle.pgr_spans.specs.declared.seen.Seen.{Seen}
use Rattle.pgr_spans.specs.Forest.{AreLowPoints, AreTops}
use Rattle.pgr_spans.specs.Seen.{AreSeen, parts}

-- the edge of a segment under the top of its far end, or nothing for a loop
abbrev pub entry_of : List ℕ → Segment → List Entry
entry_of tops segment = if segment.near == segment.far then [] else (record { key = slice_index tops segment.far; value = segment.edge } ∷ [])

-- a segment with what is known of the edges of its block, or alone
abbrev pub member_seen : Segment → Option Seen → Member
member_seen segment None = record { edge = segment.edge; from = segment.from; to = segment.to; component = segment.edge; alone = true }
member_seen segment (Some seen) = record { edge = segment.edge; from = segment.from; to = segment.to; component = seen.first; alone = seen.same }

-- a segment with what was found under the top of its far end; a loop is alone
abbrev pub member_of : List ℕ → List (Option Seen) → Segment → Member
member_of tops found segment = member_seen segment (if segment.near == segment.far then None else slice_index_or found (slice_index tops segment.far) None)

-- the members are the segments with what was found under the tops of their far ends
pub record AreFound (parents : List (Option ℕ)) (segments : List Segment) (members : List Member) : Type 0 where
  pub lows : List ℕ
  pub tops : List ℕ
  pub found : List (Option Seen)
  pub are_lows : AreLowPoints parents segments lows
  pub are_tops : AreTops parents lows tops
  pub are_found : AreSeen (length parents) (flat_map (entry_of tops) segments) found
  pub members_are : members ≡ map (member_of tops found) segments

-- the edge of a member with its component
abbrev pub classed_of : Member → Classed
classed_of member = record { component = member.component; edge = member.edge }

-- the edge of a member that is no loop and alone
abbrev pub bridge_of : Member → List ℤ
bridge_of member = if member.alone && not (member.from == member.to) then (member.edge ∷ []) else []

-- the component of a member that is no loop, under each of its ends
abbrev pub corners_of : Member → List Entry
corners_of member = if member.from == member.to then [] else (record { key = member.from; value = member.component } ∷ record { key = member.to; value = member.component } ∷ [])

-- the ids of the places with values that differ, rising
pub record ArePointsAt (names : List ℤ) (found : List (Option Seen)) (points : List ℤ) : Type 0 where
  pub rise : IsStrictlyRising int_cmp points
  pub each : (id : ℤ) → Contains points id ↔ ((v : ℕ) × (v < length names) × (parts (slice_index_or found v None) ≡ true) × (id_at names v ≡ id))
