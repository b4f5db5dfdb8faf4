-- The tables that `pgr_dijkstraCostMatrix` may answer with.
use Rattle.pgr_words.specs.declared.command.Command.{Command}
use Rattle.pgr_graph.specs.Links.{IsLinkOfTable}
use Rattle.pgr_rows.specs.declared.rows.Rows.{Rows}
use Rattle.pgr_answer.specs.Pairs.{IsAskedOfMatrix}
use Rattle.pgr_answer.specs.CostTables.{IsCostTable}
use Rattle.pgr_answer.specs.declared.tables.Tables.{Tables}

-- the costs between all pairs of different vertices of the matrix, over the links of the edges
abbrev pub IsDijkstraCostMatrix : Command → Tables → Rows → Type 0
IsDijkstraCostMatrix command tables = IsCostTable (IsLinkOfTable tables.edges command.directed) (IsAskedOfMatrix command.vids)
