-- Levels: how many residual links a search from the sources took to a vertex.
use Rattle.std.specs.Prelude.{◌≡◌, ℕ, ◌+◌, ◌<◌, ◌≤◌, ◌⊎◌, Bool, true, false, List, Option, None, Some, is_some, length, sum_by, slice_index, slice_index_or}
use Rattle.pgr_walks.specs.declared.link.LinkOf.{LinkOf}
use Rattle.pgr_flow.specs.declared.residual.Way.{Way}
use Rattle.pgr_flow.specs.Residual.{IsResidual}

-- the level of a vertex, if it has one
abbrev pub level_at : List (Option ℕ) → ℕ → Option ℕ
level_at levels v = slice_index_or levels v None

-- whether a vertex has a level
abbrev pub labelled : List (Option ℕ) → ℕ → Bool
labelled levels v = is_some (level_at levels v)

-- a residual link leads to v from a vertex of the level
pub record IsFedFrom (arcs : List (LinkOf ℕ)) (flows : List ℕ) (levels : List (Option ℕ)) (level v : ℕ) : Type 0 where
  pub start : ℕ
  pub arc : ℕ
  pub way : Way
  pub residual : IsResidual arcs flows arc way start v
  pub level_is : level_at levels start ≡ Some level

-- level 0 is that of sources, and a vertex of another level is led to from the level below
abbrev pub IsGrounded : List (LinkOf ℕ) → List ℕ → (ℕ → Bool) → List (Option ℕ) → ℕ → ℕ → Type 0
IsGrounded arcs flows source levels v level = ((level ≡ 0) × (source v ≡ true)) ⊎ ((below : ℕ) × (level ≡ below + 1) × IsFedFrom arcs flows levels below v)

-- every residual link out of the vertex leads to one with a level
abbrev pub IsPassed : List (LinkOf ℕ) → List ℕ → List (Option ℕ) → ℕ → Type 0
IsPassed arcs flows levels v = (k : ℕ) (way : Way) (w : ℕ) → IsResidual arcs flows k way v w → labelled levels w ≡ true

-- each vertex with a level had one that is the same
abbrev pub Grows : List (Option ℕ) → List (Option ℕ) → Type 0
Grows old new = (v : ℕ) (level : ℕ) → level_at old v ≡ Some level → level_at new v ≡ Some level

-- one for a vertex without a level
abbrev pub one_if_none : Option ℕ → ℕ
one_if_none None = 1
one_if_none (Some level) = 0

-- one for a vertex with a level
abbrev pub one_if_some : Option ℕ → ℕ
one_if_some None = 0
one_if_some (Some level) = 1

-- a search in its course: the vertices with a level stand in the queue, and those before `head` were passed; no level is above the bound
pub record IsSearched (arcs : List (LinkOf ℕ)) (flows : List ℕ) (source : ℕ → Bool) (size : ℕ) (levels : List (Option ℕ)) (queue : List ℕ) (head bound : ℕ) : Type 0 where
  pub size_is : length levels ≡ size
  pub counted : length queue + sum_by one_if_none levels ≡ size
  pub queued : (i : ℕ) → i < length queue → labelled levels (slice_index queue i) ≡ true
  pub listed : (v level : ℕ) → level_at levels v ≡ Some level → (i : ℕ) × (i < length queue) × (slice_index queue i ≡ v)
  pub passed : (i : ℕ) → i < head → IsPassed arcs flows levels (slice_index queue i)
  pub grounded : (v level : ℕ) → level_at levels v ≡ Some level → IsGrounded arcs flows source levels v level
  pub low : (v level : ℕ) → level_at levels v ≡ Some level → level ≤ bound

-- the levels that a search gives: each is grounded and at most the size, and each source has one
pub record AreLevels (arcs : List (LinkOf ℕ)) (flows : List ℕ) (source : ℕ → Bool) (size : ℕ) (levels : List (Option ℕ)) : Type 0 where
  pub size_is : length levels ≡ size
  pub grounded : (v level : ℕ) → level_at levels v ≡ Some level → IsGrounded arcs flows source levels v level
  pub low : (v level : ℕ) → level_at levels v ≡ Some level → level ≤ size
  pub sources : (v : ℕ) → source v ≡ true → labelled levels v ≡ true

-- the first n vertices of a list have levels
abbrev pub AreLabelledUpTo : List ℕ → List (Option ℕ) → ℕ → Type 0
AreLabelledUpTo list levels n = (k : ℕ) → k < n → labelled levels (slice_index list k) ≡ true

-- no vertex of a list has a level
abbrev pub NoneIsLabelled : List ℕ → List (Option ℕ) → Type 0
NoneIsLabelled list levels = (k : ℕ) → k < length list → labelled levels (slice_index list k) ≡ false

-- every vertex with a level was passed
abbrev pub AreClosed : List (LinkOf ℕ) → List ℕ → List (Option ℕ) → Type 0
AreClosed arcs flows levels = (v : ℕ) → labelled levels v ≡ true → IsPassed arcs flows levels v
