-- How the points of names are noted, row by row, and estimates point by point.
use Rattle.std.specs.Prelude.{◌≡◌, ℕ, ◌<◌, ℤ, List, Option, Some, None, length, slice_index_or, if◌then◌else◌}
use Rattle.std.specs.Option.{option_or}
use Rattle.pgr_numbers.specs.Names.{id_at}
use Rattle.pgr_table.specs.declared.row.EdgeRow.{EdgeRow}
use Rattle.pgr_astar.specs.declared.point.Point.{Point}
use Rattle.pgr_words.specs.declared.estimate.Heuristic.{Heuristic}
use Rattle.pgr_words.specs.declared.estimate.Factor.{Factor}
use Rattle.pgr_astar.specs.Estimate.{IsEstimateBetween}
use Rattle.pgr_astar.specs.Points.{names_vertex, point_in, point_of}

-- the point that a row has for a vertex, if it names it
abbrev pub point_by : EdgeRow → ℤ → Option Point
point_by row v = if names_vertex v row then point_in v row else None

-- each name keeps its point, and one without gains the one that is given for its id, if any
abbrev pub Notes : List ℤ → (ℤ → Option Point) → List (Option Point) → List (Option Point) → Type 0
Notes names given old new = (v : ℕ) → v < length names → slice_index_or new v None ≡ option_or (slice_index_or old v None) (given (id_at names v))

-- each name has the point that some rows have for it
pub record ArePoints (rows : List EdgeRow) (names : List ℤ) (points : List (Option Point)) : Type 0 where
  pub size : length points ≡ length names
  pub point : (v : ℕ) → v < length names → slice_index_or points v None ≡ point_of rows (id_at names v)

-- each point has its estimate from the one
pub record AreEstimates (heuristic : Heuristic) (factor : Factor) (from : Point) (points : List (Option Point)) (values : List ℕ) : Type 0 where
  pub size : length values ≡ length points
  pub estimate : (v : ℕ) (to : Point) → v < length points → slice_index_or points v None ≡ Some to → IsEstimateBetween heuristic factor from to (slice_index_or values v 0)
