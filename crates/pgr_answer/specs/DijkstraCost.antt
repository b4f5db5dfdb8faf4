-- The tables that `pgr_dijkstraCost` may answer with.
use Rattle.pgr_words.specs.declared.command.Command.{Command}
use Rattle.pgr_graph.specs.Links.{IsLinkOfTable}
use Rattle.pgr_rows.specs.declared.rows.Rows.{Rows}
use Rattle.pgr_answer.specs.Pairs.{IsAsked}
use Rattle.pgr_answer.specs.CostTables.{IsCostTable}
use Rattle.pgr_answer.specs.declared.tables.Tables.{Tables}

-- the costs between the pairs of the starts and ends and the combinations, over the links of the edges
abbrev pub IsDijkstraCost : Command → Tables → Rows → Type 0
IsDijkstraCost command tables = IsCostTable (IsLinkOfTable tables.edges command.directed) (IsAsked command.starts command.ends tables.combinations)
