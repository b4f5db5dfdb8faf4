-- A forest of numbered vertices by the parent of each, and spans that join vertices of which one is an ancestor of the other.
use Rattle.std.specs.Prelude.{◌≡◌, ℕ, zero, suc, ◌<◌, ◌≤◌, ◌⊎◌, min, max, List, length, Option, Some, None, ℤ, Contains, slice_index_or}
use Rattle.pgr_spans.specs.declared.span.Span.{Span}
use Rattle.pgr_spans.specs.declared.segment.Segment.{Segment}
use Rattle.pgr_spans.specs.Linked.{IsEndOf}

-- the parent of a number, if it has one
abbrev pub parent_of : List (Option ℕ) → ℕ → Option ℕ
parent_of parents j = slice_index_or parents j None

-- so many steps from j, each to the parent, lead to a
abbrev pub Climbs : List (Option ℕ) → ℕ → ℕ → ℕ → Type 0
Climbs parents zero a j = a ≡ j
Climbs parents (suc steps) a j = (q : ℕ) × (parent_of parents j ≡ Some q) × Climbs parents steps a q

-- a is an ancestor of j, or j itself
abbrev pub IsAncestor : List (Option ℕ) → ℕ → ℕ → Type 0
IsAncestor parents a j = (steps : ℕ) × Climbs parents steps a j

-- each parent is less than its child
abbrev pub ParentsFall : List (Option ℕ) → Type 0
ParentsFall parents = (j p : ℕ) → parent_of parents j ≡ Some p → p < j

-- the lesser and the greater number of a span's ends
pub record Rung : Type 0 where
  pub near : ℕ
  pub far : ℕ

-- those of a span by a numbering of the vertices
abbrev pub rung_of : (ℤ → ℕ) → Span → Rung
rung_of number span = record { near = min (number span.a) (number span.b); far = max (number span.a) (number span.b) }

-- a forest whose edges are spans and whose ancestors are near: each span's lesser end is an ancestor of its greater one
pub record IsForest (spans : List Span) (number : ℤ → ℕ) (parents : List (Option ℕ)) : Type 0 where
  pub one : (y z : ℤ) → IsEndOf spans y → IsEndOf spans z → number y ≡ number z → y ≡ z
  pub below : (span : Span) → Contains spans span → (rung_of number span).far < length parents
  pub falls : ParentsFall parents
  pub tree : (j p : ℕ) → parent_of parents j ≡ Some p → (span : Span) × Contains spans span × (rung_of number span ≡ record { near = p; far = j })
  pub near : (span : Span) → Contains spans span → IsAncestor parents (rung_of number span).near (rung_of number span).far

-- each number is the vertex itself, or the lesser end of a segment from the vertex or from below it, and none is greater than the vertex
pub record AreReached (parents : List (Option ℕ)) (segments : List Segment) (lows : List ℕ) : Type 0 where
  pub size : length lows ≡ length parents
  pub itself : (v : ℕ) → v < length parents → slice_index_or lows v 0 ≤ v
  pub reached : (v : ℕ) → v < length parents → (slice_index_or lows v 0 ≡ v)
      ⊎ ((segment : Segment) × Contains segments segment × (segment.near ≡ slice_index_or lows v 0) × IsAncestor parents v segment.far)

-- the low point of each vertex: the least number that a segment from the vertex or from below it leads to, or the vertex itself
pub record AreLowPoints (parents : List (Option ℕ)) (segments : List Segment) (lows : List ℕ) : Type 0 where
  pub are_reached : AreReached parents segments lows
  pub least : (v : ℕ) (segment : Segment) → Contains segments segment → IsAncestor parents v segment.far → slice_index_or lows v 0 ≤ segment.near

-- the top of a vertex: that of its parent where its low point is less than its parent, and else itself
abbrev pub IsTop : List (Option ℕ) → List ℕ → List ℕ → ℕ → Type 0
IsTop parents lows tops v =
    ((p : ℕ) × (parent_of parents v ≡ Some p) × (slice_index_or lows v 0 < p) × (slice_index_or tops v 0 ≡ slice_index_or tops p 0))
    ⊎ ((slice_index_or tops v 0 ≡ v) × ((p : ℕ) → parent_of parents v ≡ Some p → p ≤ slice_index_or lows v 0))

-- the top of each vertex
pub record AreTops (parents : List (Option ℕ)) (lows tops : List ℕ) : Type 0 where
  pub size : length tops ≡ length parents
  pub each : (v : ℕ) → v < length parents → IsTop parents lows tops v
  pub no_greater : (v : ℕ) → v < length parents → slice_index_or tops v 0 ≤ v
