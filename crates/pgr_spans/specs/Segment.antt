-- Spans by the numbers of their ends, and low points and tops as they are computed.
use Rattle.std.specs.Prelude.{◌≡◌, ℕ, ◌<◌, ◌≤◌, min, max, List, length, Option, Some, None, unwrap_or, Contains, slice_index, slice_index_or, slice_set, if◌then◌else◌, nat_lt}
use Rattle.pgr_walks.specs.declared.link.LinkOf.{LinkOf}
use Rattle.pgr_spans.specs.declared.segment.Segment.{Segment}

-- the number of a vertex, or 0
abbrev pub number_of : List (Option ℕ) → ℕ → ℕ
number_of numbers v = unwrap_or (slice_index_or numbers v None) 0

-- a link with the lesser and the greater number of its ends
abbrev pub segment_by : List (Option ℕ) → LinkOf ℕ → Segment
segment_by numbers link = record {
  edge = link.edge;
  from = link.from;
  to = link.to;
  near = min (number_of numbers link.from) (number_of numbers link.to);
  far = max (number_of numbers link.from) (number_of numbers link.to);
}

-- the numbers of a segment are below the size, the near one no greater than the far one
abbrev pub IsSegmentBelow : ℕ → Segment → Type 0
IsSegmentBelow size segment = (segment.near ≤ segment.far) × (segment.far < size)

-- each number stands at its own place
pub record AreItself (size : ℕ) (lows : List ℕ) : Type 0 where
  pub size_is : length lows ≡ size
  pub each : (v : ℕ) → v < size → slice_index_or lows v 0 ≡ v

-- the far end of each segment is at most as low as its near end
abbrev pub ReachesNear : List Segment → List ℕ → Type 0
ReachesNear segments lows = (segment : Segment) → Contains segments segment → slice_index_or lows segment.far 0 ≤ segment.near

-- the numbers with the one at a place lowered to another, if that is less
abbrev pub lowered : List ℕ → ℕ → ℕ → List ℕ
lowered lows v low = slice_set lows v (min (slice_index lows v) low)

-- the numbers with that of a parent lowered to what its child has
abbrev pub parent_lowered : List ℕ → Option ℕ → ℕ → List ℕ
parent_lowered lows None v = lows
parent_lowered lows (Some p) v = lowered lows p (slice_index lows v)

-- the top of a number with this parent and low point, by the tops of lesser numbers
abbrev pub top_by : List ℕ → ℕ → Option ℕ → ℕ → ℕ
top_by tops v None low = v
top_by tops v (Some parent) low = if nat_lt low parent then slice_index tops parent else v
