-- The tables that `pgr_biconnectedComponents` may answer with: each edge with the name of its block.
use Rattle.std.specs.Prelude.{◌≡◌, ℕ, ◌+◌, List, [], ◌∷◌}
use Rattle.pgr_spans.specs.declared.span.Span.{Span}
use Rattle.pgr_spans.specs.declared.classed.Classed.{Classed}
use Rattle.pgr_blocks.specs.Lists.{AreClasses}
use Rattle.pgr_blocks.specs.Spans.{AreSpansOf}
use Rattle.pgr_rows.specs.declared.rows.ClassRow.{ClassRow}
use Rattle.pgr_rows.specs.declared.rows.Rows.{Rows}
use Rattle.pgr_rows.specs.declared.rows.Rows.TheVariants.{Classes}
use Rattle.pgr_answer.specs.declared.tables.Tables.{Tables}

-- the rows of classes, numbered from n on
abbrev pub class_rows : ℕ → List Classed → List ClassRow
class_rows n [] = []
class_rows n (c ∷ classes) = record { seq = n; component = c.component; edge = c.edge } ∷ class_rows (n + 1) classes

-- over the spans of the edges, a row for each span with the name of its block, by name and then by edge, numbered from 1
abbrev pub IsBiconnectedComponents : Tables → Rows → Type 0
IsBiconnectedComponents tables rows =
    (spans : List Span) × (classes : List Classed) × AreSpansOf tables.edges spans × AreClasses spans classes × (rows ≡ Classes (class_rows 1 classes))
