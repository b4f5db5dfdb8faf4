-- The tables that `pgr_edmondsKarp` may answer with: the arcs that carry flow in some greatest flow, whichever it is.
use Rattle.std.specs.Prelude.{◌≡◌, ℕ, ◌-◌, nat_lt, ℤ, List, [], ◌∷◌, filter}
use Rattle.pgr_words.specs.declared.command.Command.{Command}
use Rattle.pgr_walks.specs.declared.link.LinkOf.{LinkOf}
use Rattle.pgr_rows.specs.declared.rows.FlowRow.{FlowRow}
use Rattle.pgr_rows.specs.declared.rows.Rows.{Rows}
use Rattle.pgr_rows.specs.declared.rows.Rows.TheVariants.{Flows}
use Rattle.pgr_answer.specs.Flows.{AreArcsOf, WhereShared, IsGreatestBetween, rows_from}
use Rattle.pgr_answer.specs.declared.tables.Tables.{Tables}

-- an arc with its flow
pub record Carrier : Type 0 where
  pub arc : LinkOf ℤ
  pub flow : ℕ

-- arcs with their flows, which stand in the same order
abbrev pub with_flows : List (LinkOf ℤ) → List ℕ → List Carrier
with_flows [] flows = []
with_flows (arc ∷ arcs) [] = []
with_flows (arc ∷ arcs) (flow ∷ flows) = record { arc = arc; flow = flow } ∷ with_flows arcs flows

-- the arcs that carry flow, each with its flow
abbrev pub carriers : List (LinkOf ℤ) → List ℕ → List Carrier
carriers arcs flows = filter (λ carrier. nat_lt 0 carrier.flow) (with_flows arcs flows)

-- the row with this number of a carrier
abbrev pub flow_row : ℕ → Carrier → FlowRow
flow_row n c = record { seq = n; edge = c.arc.edge; start_vid = c.arc.from; end_vid = c.arc.to; flow = c.flow; residual_capacity = c.arc.cost - c.flow }

-- a row for each arc that carries flow in some greatest flow, numbered from 1; where some vertex is both source and sink there is none
abbrev pub AreFlowRows : List (LinkOf ℤ) → List ℤ → List ℤ → List FlowRow → Type 0
AreFlowRows arcs starts ends rows =
    WhereShared arcs starts ends (rows ≡ []) ((flows : List ℕ) × (value : ℕ) × IsGreatestBetween arcs starts ends flows value × (rows ≡ rows_from flow_row 1 (carriers arcs flows)))

-- over the arcs of the capacities, a greatest flow from the starts to the ends
abbrev pub IsEdmondsKarp : Command → Tables → Rows → Type 0
IsEdmondsKarp command tables rows =
    (arcs : List (LinkOf ℤ)) × (list : List FlowRow) × AreArcsOf tables.capacities arcs × AreFlowRows arcs command.starts command.ends list × (rows ≡ Flows list)
