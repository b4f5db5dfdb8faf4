-- Residual links: what may still be sent along an arc, and what may be taken back against it.
use Rattle.std.specs.Prelude.{◌≡◌, ℕ, pos, ◌+◌, ◌-◌, ◌<◌, List, length, slice_index, slice_index_or}
use Rattle.pgr_walks.specs.declared.link.LinkOf.{LinkOf}
use Rattle.pgr_flow.specs.declared.residual.Way.{Way}
use Rattle.pgr_flow.specs.declared.residual.Way.TheVariants.{Along, Against}

-- what a list has past its end
abbrev pub no_arc : LinkOf ℕ
no_arc = record { from = 0; edge = pos 0; cost = 0; to = 0 }

-- the arc at a place
abbrev pub arc_at : List (LinkOf ℕ) → ℕ → LinkOf ℕ
arc_at arcs k = slice_index_or arcs k no_arc

-- where an arc begins, taken this way
abbrev pub start_of : Way → LinkOf ℕ → ℕ
start_of Along arc = arc.from
start_of Against arc = arc.to

-- where an arc leads, taken this way
abbrev pub end_of : Way → LinkOf ℕ → ℕ
end_of Along arc = arc.to
end_of Against arc = arc.from

-- the other way
abbrev pub turned : Way → Way
turned Along = Against
turned Against = Along

-- what may be sent over an arc of a capacity that carries a flow: along it what is left, against it what it carries
abbrev pub room_of : Way → ℕ → ℕ → ℕ
room_of Along capacity flow = capacity - flow
room_of Against capacity flow = flow

-- what may be sent over the arc at a place
abbrev pub room : List (LinkOf ℕ) → List ℕ → ℕ → Way → ℕ
room arcs flows k way = room_of way (arc_at arcs k).cost (slice_index flows k)

-- the flow of an arc once an amount was sent over it
abbrev pub flow_after : Way → ℕ → ℕ → ℕ
flow_after Along flow amount = flow + amount
flow_after Against flow amount = flow - amount

-- the arc at a place, taken this way, leads from u to v
pub record LeadsOver (arcs : List (LinkOf ℕ)) (k : ℕ) (way : Way) (u v : ℕ) : Type 0 where
  pub inside : k < length arcs
  pub start : start_of way (arc_at arcs k) ≡ u
  pub end : end_of way (arc_at arcs k) ≡ v

-- a residual link from u to v: something may be sent
pub record IsResidual (arcs : List (LinkOf ℕ)) (flows : List ℕ) (k : ℕ) (way : Way) (u v : ℕ) : Type 0 where
  pub leads : LeadsOver arcs k way u v
  pub has_room : 0 < room arcs flows k way
