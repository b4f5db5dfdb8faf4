-- The tables that `pgr_KSP` may answer with: the first K loopless routes of each pair, one route after the other.
use Rattle.std.specs.Prelude.{◌≡◌, ℕ, ◌+◌, ℤ, List, [], ◌∷◌, All, Any, flat_map}
use Rattle.std.specs.Ordering.{int_cmp}
use Rattle.pgr_outside.specs.Lists.{IsStrictlyRising}
use Rattle.pgr_walks.specs.declared.link.LinkOf.{LinkOf}
use Rattle.pgr_route.specs.declared.step.Step.{Step}
use Rattle.pgr_route.specs.Steps.{steps_of}
use Rattle.pgr_ksp.specs.Routes.{AreFirstK}
use Rattle.pgr_words.specs.declared.command.Command.{Command}
use Rattle.pgr_graph.specs.Links.{IsLinkOfTable}
use Rattle.pgr_rows.specs.declared.rows.KspRow.{KspRow}
use Rattle.pgr_rows.specs.declared.rows.Rows.{Rows}
use Rattle.pgr_rows.specs.declared.rows.Rows.TheVariants.{Ksp}
use Rattle.pgr_answer.specs.Answers.{Answer, answer_cmp}
use Rattle.pgr_answer.specs.Pairs.{IsAnswerable, IsAsked}
use Rattle.pgr_answer.specs.declared.tables.Tables.{Tables}

-- one of the paths of a pair, with its number among them
pub record NumberedPath : Type 0 where
  pub start : ℤ
  pub end : ℤ
  pub id : ℕ
  pub walk : List (LinkOf ℤ)

-- the row of the nth step of a path; it has the number 0 until the rows of its table are numbered
abbrev pub ksp_row : NumberedPath → ℕ → Step → KspRow
ksp_row path n step = record {
  seq = 0;
  path_id = path.id;
  path_seq = n;
  start_vid = path.start;
  end_vid = path.end;
  node = step.node;
  edge = step.edge;
  cost = step.cost;
  agg_cost = step.agg;
}

-- the rows of the steps of a path, from the nth on
abbrev pub ksp_rows : NumberedPath → ℕ → List Step → List KspRow
ksp_rows path n [] = []
ksp_rows path n (step ∷ steps) = ksp_row path n step ∷ ksp_rows path (n + 1) steps

-- the rows of a path: one for each step, numbered in the path from 1
abbrev pub rows_of_path : NumberedPath → List KspRow
rows_of_path path = ksp_rows path 1 (steps_of path.walk)

-- walks as the paths of a pair, with the numbers from n on
abbrev pub numbered_paths : ℤ → ℤ → ℕ → List (List (LinkOf ℤ)) → List NumberedPath
numbered_paths start end n [] = []
numbered_paths start end n (walk ∷ walks) = record { start = start; end = end; id = n; walk = walk } ∷ numbered_paths start end (n + 1) walks

-- the paths of a pair, numbered from 1
abbrev pub paths_of : Answer (List (List (LinkOf ℤ))) → List NumberedPath
paths_of answer = numbered_paths answer.start answer.end 1 answer.shown

-- rows with the numbers from n on
abbrev pub ksp_numbered_from : ℕ → List KspRow → List KspRow
ksp_numbered_from n [] = []
ksp_numbered_from n (row ∷ rows) = record row { seq = n } ∷ ksp_numbered_from (n + 1) rows

-- the rows of the paths of pairs, one path after the other, numbered over the whole table from 1
abbrev pub ksp_table : List (Answer (List (List (LinkOf ℤ)))) → List KspRow
ksp_table answers = ksp_numbered_from 1 (flat_map rows_of_path (flat_map paths_of answers))

-- the first K loopless routes of pairs over a set of links: one list for each asked pair that can be answered, by rising start and then by rising end, so no pair has two
pub record AreFirstRoutes (Has : LinkOf ℤ → Type 0) (Asked : ℤ → ℤ → Type 0) (k : ℕ) (answers : List (Answer (List (List (LinkOf ℤ))))) : Type 0 where
  pub asked : All (λ answer. Asked answer.start answer.end) answers
  pub answerable : All (λ answer. IsAnswerable Has answer.start answer.end) answers
  pub first : All (λ answer. AreFirstK int_cmp Has answer.start answer.end k answer.shown) answers
  pub every : (start end : ℤ) → Asked start end → IsAnswerable Has start end → Any (λ answer. (answer.start ≡ start) × (answer.end ≡ end)) answers
  pub rise : IsStrictlyRising answer_cmp answers

-- a table of the first K routes between asked pairs
abbrev pub IsKspTable : (LinkOf ℤ → Type 0) → (ℤ → ℤ → Type 0) → ℕ → Rows → Type 0
IsKspTable Has Asked k rows = (answers : List (Answer (List (List (LinkOf ℤ))))) × AreFirstRoutes Has Asked k answers × (rows ≡ Ksp (ksp_table answers))

-- the first K routes between the pairs of the starts and ends and the combinations, over the links of the edges
abbrev pub IsKsp : Command → Tables → Rows → Type 0
IsKsp command tables = IsKspTable (IsLinkOfTable tables.edges command.directed) (IsAsked command.starts command.ends tables.combinations) command.k
