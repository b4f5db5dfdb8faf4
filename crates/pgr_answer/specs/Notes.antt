-- Notes: which starts have one, and which link each names.
use Rattle.std.specs.Prelude.{◌≡◌, ℕ, ◌+◌, ◌<◌, ℤ, List, All, Any}
use Rattle.std.specs.declared.cmp.Ordering.{Ordering}
use Rattle.std.specs.Ordering.{int_cmp}
use Rattle.pgr_outside.specs.Lists.{IsStrictlyRising}
use Rattle.pgr_walks.specs.declared.link.LinkOf.{LinkOf}
use Rattle.pgr_walks.specs.Walk.{IsVertex}
use Rattle.pgr_table.specs.declared.row.EdgeRow.{EdgeRow}
use Rattle.pgr_words.specs.declared.estimate.Heuristic.{Heuristic}
use Rattle.pgr_words.specs.declared.estimate.Factor.{Factor}
use Rattle.pgr_astar.specs.Estimate.{IsEstimate}
use Rattle.pgr_astar.specs.Breaking.{IsFirstBreaking}
use Rattle.pgr_answer.specs.declared.answered.Note.{Note}

-- a vertex from which pairs are asked for, whether they can be answered or not
pub record IsAskedStart (Has : LinkOf ℤ → Type 0) (Asked : ℤ → ℤ → Type 0) (start : ℤ) : Type 0 where
  pub end : ℤ
  pub asked : Asked start end
  pub vertex : IsVertex Has start

-- along the link the estimate for a start, by where the rows of a table put vertices, rises by more than the link costs
pub record BreaksEstimate (rows : List EdgeRow) (heuristic : Heuristic) (factor : Factor) (start : ℤ) (link : LinkOf ℤ) : Type 0 where
  pub here : ℕ
  pub there : ℕ
  pub from_is : IsEstimate rows start heuristic factor link.from here
  pub to_is : IsEstimate rows start heuristic factor link.to there
  pub breaks : here + link.cost < there

-- the order of notes: by start
abbrev pub note_cmp : Note → Note → Ordering
note_cmp a b = int_cmp a.start b.start

-- the notes over a set of links: each is for a vertex from which pairs are asked for, and names the first of all links that break the estimate for it;
-- each such vertex whose estimate a link breaks has one; they rise by start, so no start has two
pub record AreNotes (Has : LinkOf ℤ → Type 0) (Asked : ℤ → ℤ → Type 0) (Broken : ℤ → LinkOf ℤ → Type 0) (notes : List Note) : Type 0 where
  pub asked : All (λ note. IsAskedStart Has Asked note.start) notes
  pub first : All (λ note. IsFirstBreaking int_cmp Has (Broken note.start) note.link) notes
  pub every : (start : ℤ) (link : LinkOf ℤ) → IsAskedStart Has Asked start → Has link → Broken start link → Any (λ note. note.start ≡ start) notes
  pub rise : IsStrictlyRising note_cmp notes
