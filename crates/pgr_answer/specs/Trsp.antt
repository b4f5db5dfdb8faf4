-- The tables that `pgr_trsp` may answer with: the rows of least allowed walks, one walk after the other.
use Rattle.std.specs.Prelude.{◌≡◌, List, ℤ}
use Rattle.std.specs.Ordering.{int_cmp}
use Rattle.pgr_words.specs.declared.command.Command.{Command}
use Rattle.pgr_walks.specs.declared.link.LinkOf.{LinkOf}
use Rattle.pgr_walks.specs.RouteOrder.{IsLeast}
use Rattle.pgr_turns.specs.Restrictions.{IsAllowedWalk}
use Rattle.pgr_graph.specs.Links.{IsLinkOfTable}
use Rattle.pgr_rows.specs.declared.rows.Rows.{Rows}
use Rattle.pgr_rows.specs.declared.rows.Rows.TheVariants.{Paths}
use Rattle.pgr_answer.specs.Pairs.{IsAsked}
use Rattle.pgr_answer.specs.Answers.{Answer, AreAnswersBy}
use Rattle.pgr_answer.specs.Paths.{path_table}
use Rattle.pgr_answer.specs.declared.tables.Tables.{Tables}

-- a walk that is least between its ends among those that meet no restriction: it precedes every other such walk over the links from s to t. It may come to a
-- vertex more than once
abbrev pub IsLeastAllowed : (LinkOf ℤ → Type 0) → List (List ℤ) → ℤ → ℤ → List (LinkOf ℤ) → Type 0
IsLeastAllowed Has restrictions s t walk = IsLeast int_cmp (IsAllowedWalk Has restrictions s t) walk

-- a table of the paths between asked pairs that meet no restriction: the rows of the least allowed walk of each asked pair that can be answered and has one
abbrev pub IsAllowedTable : (LinkOf ℤ → Type 0) → List (List ℤ) → (ℤ → ℤ → Type 0) → Rows → Type 0
IsAllowedTable Has restrictions Asked rows =
    (answers : List (Answer (List (LinkOf ℤ)))) × AreAnswersBy Has (IsAllowedWalk Has restrictions) Asked (IsLeastAllowed Has restrictions) answers
    × (rows ≡ Paths (path_table answers))

-- the paths between the pairs of the starts and ends and the combinations that meet no restriction, over the links of the edges
abbrev pub IsTrsp : Command → Tables → Rows → Type 0
IsTrsp command tables = IsAllowedTable (IsLinkOfTable tables.edges command.directed) tables.restrictions (IsAsked command.starts command.ends tables.combinations)
