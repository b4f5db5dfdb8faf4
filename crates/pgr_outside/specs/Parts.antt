-- Texts as lists of parts.
use Rattle.std.specs.Prelude.{◌≡◌, ℕ, ◌+◌, ◌<◌, ◌≤◌, List, ◌∷◌, ◌++◌, length, drop, slice_index_or, flat_map, decimal}
use Rattle.std.specs.Fmt.{signed_decimal}
use Rattle.std.proofs.Common.{ap, sym, ◌∙◌, add-one, append-nil, drop-cons}
use Rattle.std.proofs.lemmas.List.{drop_all}
use Rattle.pgr_outside.specs.declared.part.Part.{Part}
use Rattle.pgr_outside.specs.declared.part.Part.TheVariants.{Words, Number, Signed}

-- the bytes of a part
abbrev pub part_text : Part → List ℕ
part_text (Words words) = words.now
part_text (Number number) = decimal number
part_text (Signed number) = signed_decimal number

-- the bytes of parts, one behind the other
abbrev pub parts_text : List Part → List ℕ
parts_text = flat_map part_text

-- the text of what is left is that of the next and of those behind it
pub texts_next : {X : Type 0} (text : X → List ℕ) (xs : List X) (i : ℕ) (x : X) → i < length xs
    → flat_map text (drop i xs) ≡ text (slice_index_or xs i x) ++ flat_map text (drop (i + 1) xs)
texts_next text xs i x within = ap (flat_map text) (drop-cons xs i x within ∙ ap (λ next. slice_index_or xs i x ∷ drop next xs) (sym (add-one i)))

-- behind the last nothing is left
pub texts_end : {X : Type 0} (text : X → List ℕ) (xs : List X) (i : ℕ) (before : List ℕ) → length xs ≤ i → before ++ flat_map text (drop i xs) ≡ before
texts_end text xs i before past = ap (λ left. before ++ flat_map text left) (drop_all i xs past) ∙ append-nil before
