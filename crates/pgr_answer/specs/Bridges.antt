-- The tables that `pgr_bridges` may answer with: the edges without which their own ends are no longer joined.
use Rattle.std.specs.Prelude.{◌≡◌, ℤ, List}
use Rattle.pgr_spans.specs.declared.span.Span.{Span}
use Rattle.pgr_blocks.specs.Lists.{AreBridges}
use Rattle.pgr_blocks.specs.Spans.{AreSpansOf}
use Rattle.pgr_rows.specs.declared.rows.Rows.{Rows}
use Rattle.pgr_rows.specs.declared.rows.Rows.TheVariants.{Edges}
use Rattle.pgr_answer.specs.declared.tables.Tables.{Tables}

-- over the spans of the edges, the edges of the bridges, rising
abbrev pub IsBridges : Tables → Rows → Type 0
IsBridges tables rows = (spans : List Span) × (bridges : List ℤ) × AreSpansOf tables.edges spans × AreBridges spans bridges × (rows ≡ Edges bridges)
