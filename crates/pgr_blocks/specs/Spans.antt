-- The spans of an edge table: its rows that have a direction, as edges without one.
use Rattle.std.specs.Prelude.{◌≡◌, ◌⊎◌, ◌↔◌, pos, ◌≤ℤ◌, List, Any, Contains}
use Rattle.pgr_spans.specs.declared.span.Span.{Span}
use Rattle.pgr_spans.specs.Lists.{HaveRisingEdges}
use Rattle.pgr_table.specs.declared.row.EdgeRow.{EdgeRow}

-- the row has a direction: its cost or its reverse cost is not negative
abbrev pub HasDirection : EdgeRow → Type 0
HasDirection row = (pos 0 ≤ℤ row.cost) ⊎ (pos 0 ≤ℤ row.reverse_cost)

-- the row as an edge, from its source to its target
abbrev pub span_of : EdgeRow → Span
span_of row = record { edge = row.id; a = row.source; b = row.target }

-- some row of the table has a direction, and is the span
abbrev pub IsSpanOfTable : List EdgeRow → Span → Type 0
IsSpanOfTable rows span = Any (λ row. HasDirection row × (span_of row ≡ span)) rows

-- exactly the spans of the table, each once, rising by edge
pub record AreSpansOf (rows : List EdgeRow) (spans : List Span) : Type 0 where
  pub rise : HaveRisingEdges spans
  pub each : (span : Span) → Contains spans span ↔ IsSpanOfTable rows span
