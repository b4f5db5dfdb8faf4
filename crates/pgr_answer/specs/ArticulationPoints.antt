-- The tables that `pgr_articulationPoints` may answer with: the vertices without which two others are no longer joined.
use Rattle.std.specs.Prelude.{◌≡◌, ℤ, List}
use Rattle.pgr_spans.specs.declared.span.Span.{Span}
use Rattle.pgr_blocks.specs.Lists.{ArePoints}
use Rattle.pgr_blocks.specs.Spans.{AreSpansOf}
use Rattle.pgr_rows.specs.declared.rows.Rows.{Rows}
use Rattle.pgr_rows.specs.declared.rows.Rows.TheVariants.{Nodes}
use Rattle.pgr_answer.specs.declared.tables.Tables.{Tables}

-- over the spans of the edges, the articulation points, each once and rising
abbrev pub IsArticulationPoints : Tables → Rows → Type 0
IsArticulationPoints tables rows = (spans : List Span) × (points : List ℤ) × AreSpansOf tables.edges spans × ArePoints spans points × (rows ≡ Nodes points)
