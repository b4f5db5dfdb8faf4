-- Bytes that are written in pieces: what was added so far and what is left are the whole.
use Rattle.std.proofs.Common.{◌≡◌, ℕ, List, [], ◌++◌, take, drop, Option, append_assoc, append-nil, ap, ◌∙◌}
use Rattle.std.proofs.lemmas.List.{take-append-drop}
use Rattle.pgr_outside.specs.Sink.{with_added, AddsPrefix, HasGained, with_added-twice}

-- the next piece was added
pub HasGained-more : (before now after : Option (List ℕ)) (bytes rest left : List ℕ) (count : ℕ) → HasGained before now bytes rest → after ≡ with_added now (take count rest)
    → left ≡ drop count rest → HasGained before after bytes left
HasGained-more before now after bytes rest left count has_gained added is_left =
    let front = has_gained.front in
    let piece = take count rest in
    let parts = take-append-drop count rest in
    let joined = append_assoc front piece (drop count rest) in
    let split = has_gained.split in
    record {
      front = front ++ piece;
      split = cc;
      gained = added ∙ ap (λ written. with_added written piece) has_gained.gained ∙ with_added-twice before front piece;
    }

-- all was added
pub all_added : (before after : Option (List ℕ)) (bytes rest : List ℕ) → HasGained before after bytes rest → rest ≡ [] → after ≡ with_added before bytes
all_added before after bytes rest has_gained empty =
    let split = has_gained.split in
    let whole = append-nil has_gained.front in
    let is_front : has_gained.front ≡ bytes = cc in
    has_gained.gained ∙ ap (λ added. with_added before added) is_front

-- a front was added
pub front_added : (before after : Option (List ℕ)) (bytes rest : List ℕ) → HasGained before after bytes rest → AddsPrefix before after bytes
front_added before after bytes rest has_gained = (has_gained.front, rest, has_gained.split, has_gained.gained)
