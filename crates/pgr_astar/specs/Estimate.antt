-- Estimates of what a walk from a start costs, by how far apart the points of vertices are.
use Rattle.std.specs.Prelude.{◌≡◌, ℕ, ◌+◌, ◌-ℤ◌, ◌*◌, ◌/◌, ◌<◌, ◌≤◌, min, max, ℤ, List, Some, unsigned_abs}
use Rattle.pgr_table.specs.declared.row.EdgeRow.{EdgeRow}
use Rattle.pgr_words.specs.declared.estimate.Heuristic.{Heuristic}
use Rattle.pgr_words.specs.declared.estimate.Heuristic.TheVariants.{H0, H1, H2, H3, H4, H5}
use Rattle.pgr_words.specs.declared.estimate.Factor.{Factor}
use Rattle.pgr_astar.specs.declared.point.Point.{Point}
use Rattle.pgr_astar.specs.Points.{point_of}

-- how far apart two coordinates are
abbrev pub apart : ℤ → ℤ → ℕ
apart a b = unsigned_abs (a -ℤ b)

-- the square root, rounded down: the greatest whole number whose square is at most n
abbrev pub IsRoot : ℕ → ℕ → Type 0
IsRoot n root = (root * root ≤ n) × (n < (root + 1) * (root + 1))

-- a distance by a heuristic, where the coordinates are dx and dy apart: nothing, the greater, the lesser, the sum of the squares, the root of that, the sum
abbrev pub IsDistance : Heuristic → ℕ → ℕ → ℕ → Type 0
IsDistance H0 dx dy distance = distance ≡ 0
IsDistance H1 dx dy distance = distance ≡ max dx dy
IsDistance H2 dx dy distance = distance ≡ min dx dy
IsDistance H3 dx dy distance = distance ≡ dx * dx + dy * dy
IsDistance H4 dx dy distance = IsRoot (dx * dx + dy * dy) distance
IsDistance H5 dx dy distance = distance ≡ dx + dy

-- an estimate between two points: the distance times the factor, and then rounded down
abbrev pub IsEstimateBetween : Heuristic → Factor → Point → Point → ℕ → Type 0
IsEstimateBetween heuristic factor from to estimate =
    (distance : ℕ) × IsDistance heuristic (apart from.x to.x) (apart from.y to.y) distance × (estimate ≡ distance * factor.over / factor.under)

-- the estimate of a vertex for a start, by where the rows of a table put both
pub record IsEstimate (rows : List EdgeRow) (start : ℤ) (heuristic : Heuristic) (factor : Factor) (v : ℤ) (estimate : ℕ) : Type 0 where
  pub from : Point
  pub to : Point
  pub from_is : point_of rows start ≡ Some from
  pub to_is : point_of rows v ≡ Some to
  pub between : IsEstimateBetween heuristic factor from to estimate
