-- The tables that `pgr_aStar` may answer with, and the notes that belong to them.
use Rattle.std.specs.Prelude.{List}
use Rattle.pgr_words.specs.declared.command.Command.{Command}
use Rattle.pgr_graph.specs.Links.{IsLinkOfTable}
use Rattle.pgr_rows.specs.declared.rows.Rows.{Rows}
use Rattle.pgr_answer.specs.Pairs.{IsAsked}
use Rattle.pgr_answer.specs.Dijkstra.{IsDijkstra}
use Rattle.pgr_answer.specs.Notes.{BreaksEstimate, AreNotes}
use Rattle.pgr_answer.specs.declared.answered.Note.{Note}
use Rattle.pgr_answer.specs.declared.tables.Tables.{Tables}

-- the tables of `pgr_dijkstra`, whatever the heuristic and the factor
abbrev pub IsAStar : Command → Tables → Rows → Type 0
IsAStar command tables rows = IsDijkstra command tables rows

-- the notes of the starts of the asked pairs, over the links of the edges
abbrev pub AreAStarNotes : Command → Tables → List Note → Type 0
AreAStarNotes command tables notes =
    AreNotes (IsLinkOfTable tables.edges command.directed) (IsAsked command.starts command.ends tables.combinations)
    (BreaksEstimate tables.edges command.heuristic command.factor) notes
