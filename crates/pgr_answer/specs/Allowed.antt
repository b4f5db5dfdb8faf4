-- The rows that a command may be answered with: one case for each function.
use Rattle.std.specs.Prelude.{◌≡◌, ℕ, List, [], Option, None}
use Rattle.pgr_words.specs.declared.function.Function.{Function}
use Rattle.pgr_words.specs.declared.function.Function.TheVariants as function
use Rattle.pgr_words.specs.declared.command.Command.{Command}
use Rattle.pgr_rows.specs.declared.rows.Rows.{Rows}
use Rattle.pgr_answer.specs.declared.tables.Tables.{Tables}
use Rattle.pgr_answer.specs.Files.{Content, files_of, AreAccepted}
use Rattle.pgr_answer.specs.Contents.{tables_of}
use Rattle.pgr_answer.specs.Together.{refusal_together}
use Rattle.pgr_answer.specs.Components.{IsConnectedComponents, IsStrongComponents}
use Rattle.pgr_answer.specs.BiconnectedComponents.{IsBiconnectedComponents}
use Rattle.pgr_answer.specs.ArticulationPoints.{IsArticulationPoints}
use Rattle.pgr_answer.specs.Bridges.{IsBridges}
use Rattle.pgr_answer.specs.Dijkstra.{IsDijkstra}
use Rattle.pgr_answer.specs.DijkstraCost.{IsDijkstraCost}
use Rattle.pgr_answer.specs.DijkstraCostMatrix.{IsDijkstraCostMatrix}
use Rattle.pgr_answer.specs.DrivingDistance.{IsDrivingDistance}
use Rattle.pgr_answer.specs.WithPoints.{IsWithPoints}
use Rattle.pgr_answer.specs.Trsp.{IsTrsp}
use Rattle.pgr_answer.specs.Ksp.{IsKsp}
use Rattle.pgr_answer.specs.Contraction.{IsContraction}
use Rattle.pgr_answer.specs.MaxFlow.{IsMaxFlow}
use Rattle.pgr_answer.specs.EdmondsKarp.{IsEdmondsKarp}
use Rattle.pgr_answer.specs.MinCut.{IsMinCut}
use Rattle.pgr_answer.specs.AStar.{IsAStar, AreAStarNotes}
use Rattle.pgr_answer.specs.declared.answered.Note.{Note}

-- the rows are allowed for a command of this function over these tables
abbrev pub IsAllowedFor : Function → Command → Tables → Rows → Type 0
IsAllowedFor function.ConnectedComponents command tables rows = IsConnectedComponents tables rows
IsAllowedFor function.StrongComponents command tables rows = IsStrongComponents tables rows
IsAllowedFor function.BiconnectedComponents command tables rows = IsBiconnectedComponents tables rows
IsAllowedFor function.ArticulationPoints command tables rows = IsArticulationPoints tables rows
IsAllowedFor function.Bridges command tables rows = IsBridges tables rows
IsAllowedFor function.Dijkstra command tables rows = IsDijkstra command tables rows
IsAllowedFor function.DijkstraCost command tables rows = IsDijkstraCost command tables rows
IsAllowedFor function.DijkstraCostMatrix command tables rows = IsDijkstraCostMatrix command tables rows
IsAllowedFor function.DrivingDistance command tables rows = IsDrivingDistance command tables rows
IsAllowedFor function.WithPoints command tables rows = IsWithPoints command tables rows
IsAllowedFor function.Trsp command tables rows = IsTrsp command tables rows
IsAllowedFor function.Ksp command tables rows = IsKsp command tables rows
IsAllowedFor function.Contraction command tables rows = IsContraction command tables rows
IsAllowedFor function.AStar command tables rows = IsAStar command tables rows
IsAllowedFor function.MaxFlow command tables rows = IsMaxFlow command tables rows
IsAllowedFor function.EdmondsKarp command tables rows = IsEdmondsKarp command tables rows
IsAllowedFor function.MinCut command tables rows = IsMinCut command tables rows

-- the rows are allowed for a command over these tables
abbrev pub IsAllowed : Command → Tables → Rows → Type 0
IsAllowed command tables rows = IsAllowedFor command.function command tables rows

-- the notes for a command of this function over these tables: only one function has any
abbrev pub AreNotesFor : Function → Command → Tables → List Note → Type 0
AreNotesFor function.AStar command tables notes = AreAStarNotes command tables notes
AreNotesFor f command tables notes = notes ≡ []

-- the notes for a command over these tables
abbrev pub AreNotesOver : Command → Tables → List Note → Type 0
AreNotesOver command tables notes = AreNotesFor command.function command tables notes

-- rows and notes that answer a command: its files have contents, the known ones where they are known, each of them an accepted table of its role, the
-- tables that they are aren't refused together, the rows are allowed over them, and the notes are those over them
pub record AnswersCommand (command : Command) (known : List ℕ → Option (List ℕ)) (rows : Rows) (notes : List Note) : Type 0 where
  pub contents : List Content
  pub accepted : AreAccepted known (files_of command) contents
  pub together : refusal_together command (tables_of contents) ≡ None
  pub allowed : IsAllowed command (tables_of contents) rows
  pub noted : AreNotesOver command (tables_of contents) notes
