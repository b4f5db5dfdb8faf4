-- The tables that `pgr_withPoints` may answer with.
use Rattle.std.specs.Prelude.{◌≡◌, Bool, true, false, ℤ, List, flat_map}
use Rattle.pgr_words.specs.declared.command.Command.{Command}
use Rattle.pgr_walks.specs.declared.link.LinkOf.{LinkOf}
use Rattle.pgr_route.specs.declared.step.Step.{Step}
use Rattle.pgr_route.specs.Steps.{steps_of}
use Rattle.pgr_points.specs.Pointed.{IsPointed}
use Rattle.pgr_points.specs.Collapsed.{collapsed}
use Rattle.pgr_rows.specs.declared.rows.PathRow.{PathRow}
use Rattle.pgr_rows.specs.declared.rows.Rows.{Rows}
use Rattle.pgr_rows.specs.declared.rows.Rows.TheVariants.{Paths}
use Rattle.pgr_answer.specs.Pairs.{IsAsked}
use Rattle.pgr_answer.specs.Answers.{Answer, AreAnswers}
use Rattle.pgr_answer.specs.Paths.{path_rows, numbered_from, IsLeastBetween}
use Rattle.pgr_answer.specs.declared.tables.Tables.{Tables}

-- the steps of a walk that are shown: all of them with details, and else those that stay without inner points
abbrev pub shown_steps : Bool → List Step → List Step
shown_steps true steps = steps
shown_steps false steps = collapsed steps

-- the rows of the walk that answers a pair: one for each step that is shown, numbered in the path from 1
abbrev pub rows_shown : Bool → Answer (List (LinkOf ℤ)) → List PathRow
rows_shown details answer = path_rows answer.start answer.end 1 (shown_steps details (steps_of answer.shown))

-- the rows of the walks that answer pairs, one walk after the other, numbered over the whole table from 1
abbrev pub shown_table : Bool → List (Answer (List (LinkOf ℤ))) → List PathRow
shown_table details answers = numbered_from 1 (flat_map (rows_shown details) answers)

-- a table of the paths between asked pairs: the rows of the least walk of each asked pair that can be answered and has a walk
abbrev pub IsShownTable : (LinkOf ℤ → Type 0) → (ℤ → ℤ → Type 0) → Bool → Rows → Type 0
IsShownTable Has Asked details rows =
    (answers : List (Answer (List (LinkOf ℤ)))) × AreAnswers Has Asked (IsLeastBetween Has) answers × (rows ≡ Paths (shown_table details answers))

-- the paths between the pairs of the starts and ends and the combinations, over the pointed links of the edges and the points
abbrev pub IsWithPoints : Command → Tables → Rows → Type 0
IsWithPoints command tables =
    IsShownTable (IsPointed tables.edges tables.points command.driving_side command.directed) (IsAsked command.starts command.ends tables.combinations) command.details
