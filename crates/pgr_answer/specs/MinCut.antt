-- The tables that `minCut` may answer with: the arcs that lead out of the least source side of a least cut.
use Rattle.std.specs.Prelude.{◌≡◌, Bool, ℕ, ℤ, List, [], filter}
use Rattle.pgr_words.specs.declared.command.Command.{Command}
use Rattle.pgr_walks.specs.declared.link.LinkOf.{LinkOf}
use Rattle.pgr_flow.specs.Cut.{leads_out}
use Rattle.pgr_rows.specs.declared.rows.CutRow.{CutRow}
use Rattle.pgr_rows.specs.declared.rows.Rows.{Rows}
use Rattle.pgr_rows.specs.declared.rows.Rows.TheVariants.{Cuts}
use Rattle.pgr_answer.specs.Flows.{AreArcsOf, WhereShared, IsLeastSideBetween, rows_from}
use Rattle.pgr_answer.specs.declared.tables.Tables.{Tables}

-- the row with this number of an arc
abbrev pub cut_row : ℕ → LinkOf ℤ → CutRow
cut_row n arc = record { seq = n; edge = arc.edge; start_vid = arc.from; end_vid = arc.to; capacity = arc.cost }

-- a row for each arc that leads out of the least source side, numbered from 1; where some vertex is both source and sink there is none
abbrev pub AreCutRows : List (LinkOf ℤ) → List ℤ → List ℤ → List CutRow → Type 0
AreCutRows arcs starts ends rows =
    WhereShared arcs starts ends (rows ≡ []) ((side : ℤ → Bool) × IsLeastSideBetween arcs starts ends side × (rows ≡ rows_from cut_row 1 (filter (leads_out side) arcs)))

-- over the arcs of the capacities, the least cut between the starts and the ends
abbrev pub IsMinCut : Command → Tables → Rows → Type 0
IsMinCut command tables rows =
    (arcs : List (LinkOf ℤ)) × (list : List CutRow) × AreArcsOf tables.capacities arcs × AreCutRows arcs command.starts command.ends list × (rows ≡ Cuts list)
