-- A file that is read in pieces: what was read so far is a front of the content.
use Rattle.std.proofs.Common.{◌≡◌, ℕ, ◌+◌, ◌≤◌, List, length, take, drop, Option, Some, None, IfSome, arith, ap, length-append, length-drop}
use Rattle.std.proofs.lemmas.List.{length-take}
use Rattle.std.proofs.Math.Seq.{take-add}
use Rattle.pgr_outside.specs.Store.{AddsPiece}

-- the bytes are a front of the content
pub record IsFront (content bytes : List ℕ) : Type 0 where
  pub front : bytes ≡ take (length bytes) content
  pub inside : length bytes ≤ length content

-- a front with its next piece is a longer front
pub IsFront-more : (content before after : List ℕ) (count : ℕ) → IsFront content before → AddsPiece content before after count → IsFront content after
IsFront-more content before after count is_front adds =
    let piece = take count (drop (length before) content) in
    let piece_len : length piece ≡ count = simp (length-take, length-drop) (omega arith) in
    let len : length after ≡ length before + count = omega (arith, ap length adds.added, length-append before piece) in
    let parts = take-add (length before) count content in
    record {
      front = cc;
      inside = omega arith;
    }

-- the same, where the content may be untold
pub IsFront_told-more : (o : Option (List ℕ)) (before after : List ℕ) (count : ℕ) → IfSome o (λ told. IsFront told before)
    → IfSome o (λ told. AddsPiece told before after count) → IfSome o (λ told. IsFront told after)
IsFront_told-more None before after count is_front adds = is_front
IsFront_told-more (Some told) before after count is_front adds = IsFront-more told before after count is_front adds
