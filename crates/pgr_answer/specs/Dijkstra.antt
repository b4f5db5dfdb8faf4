-- The tables that `pgr_dijkstra` may answer with.
use Rattle.pgr_words.specs.declared.command.Command.{Command}
use Rattle.pgr_graph.specs.Links.{IsLinkOfTable}
use Rattle.pgr_rows.specs.declared.rows.Rows.{Rows}
use Rattle.pgr_answer.specs.Pairs.{IsAsked}
use Rattle.pgr_answer.specs.Paths.{IsPathTable}
use Rattle.pgr_answer.specs.declared.tables.Tables.{Tables}

-- the paths between the pairs of the starts and ends and the combinations, over the links of the edges
abbrev pub IsDijkstra : Command → Tables → Rows → Type 0
IsDijkstra command tables = IsPathTable (IsLinkOfTable tables.edges command.directed) (IsAsked command.starts command.ends tables.combinations)
