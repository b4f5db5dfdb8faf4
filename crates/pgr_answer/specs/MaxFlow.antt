-- The tables that `pgr_maxFlow` may answer with: the value of a greatest flow.
use Rattle.std.specs.Prelude.{◌≡◌, ℕ, ℤ, List}
use Rattle.pgr_words.specs.declared.command.Command.{Command}
use Rattle.pgr_walks.specs.declared.link.LinkOf.{LinkOf}
use Rattle.pgr_rows.specs.declared.rows.Rows.{Rows}
use Rattle.pgr_rows.specs.declared.rows.Rows.TheVariants.{Value}
use Rattle.pgr_answer.specs.Flows.{AreArcsOf, WhereShared, IsGreatestBetween}
use Rattle.pgr_answer.specs.declared.tables.Tables.{Tables}

-- some greatest flow has the value; where some vertex is both source and sink it is 0
abbrev pub IsFlowValue : List (LinkOf ℤ) → List ℤ → List ℤ → ℕ → Type 0
IsFlowValue arcs starts ends value = WhereShared arcs starts ends (value ≡ 0) ((flows : List ℕ) × IsGreatestBetween arcs starts ends flows value)

-- over the arcs of the capacities, the value of a greatest flow from the starts to the ends
abbrev pub IsMaxFlow : Command → Tables → Rows → Type 0
IsMaxFlow command tables rows =
    (arcs : List (LinkOf ℤ)) × (value : ℕ) × AreArcsOf tables.capacities arcs × IsFlowValue arcs command.starts command.ends value × (rows ≡ Value value)
