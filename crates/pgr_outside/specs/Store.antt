-- What a store gives when it is read in pieces.
use Rattle.std.specs.Prelude.{◌≡◌, ℕ, ◌-◌, ◌<◌, ◌≤◌, List, ◌++◌, length, take, drop}

-- count bytes were read at a place of the content into the front of a buffer, and none of a buffer that isn't empty only at the content's end
pub record ReadsAt (content : List ℕ) (at : ℕ) (buffer : List ℕ) (count : ℕ) : Type 0 where
  pub within : count ≤ length content - at
  pub bytes : take count buffer ≡ take count (drop at content)
  pub ended : count ≡ 0 → 0 < length buffer → length content ≤ at

-- the next count bytes of the content were added to bytes that were read before, from the front of the content on
pub record AddsPiece (content : List ℕ) (before : List ℕ) (after : List ℕ) (count : ℕ) : Type 0 where
  pub within : count ≤ length content - length before
  pub added : after ≡ before ++ take count (drop (length before) content)
