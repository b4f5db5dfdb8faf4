-- A line field by field.
use Rattle.std.proofs.Common.{◌≡◌, ◌≤◌, ◌-◌, ℕ, List, [], ◌∷◌, ◌++◌, take, drop, get_or, length, map, append_assoc, arith, sym, ap, ◌∙◌}
use Rattle.std.proofs.lemmas.List.{take_all}
use Rattle.pgr_outside.specs.declared.part.Part.{Part}
use Rattle.pgr_outside.specs.Parts.{part_text}
use Rattle.pgr_rows.specs.Layout.{end_before, line_of}

-- behind what is gathered a line is its first field, what ends that, and the line of the fields behind it
pub next_field : (gathered ending : List ℕ) (rest behind : List Part) (x : Part) → 1 ≤ length rest → behind ≡ take (length rest - 1) (drop 1 rest)
    → ending ≡ end_before (map part_text behind)
    → gathered ++ line_of (map part_text rest) ≡ gathered ++ ((part_text (get_or rest 0 x) ++ ending) ++ line_of (map part_text behind))
next_field gathered ending [] behind x some is_behind is_ending = absurd (omega (arith, some))
next_field gathered ending (part ∷ rest) behind x some is_behind is_ending =
    let all : behind ≡ rest = is_behind ∙ take_all (length (part ∷ rest) - 1) rest (omega arith) in
    let ends : end_before (map part_text rest) ≡ ending = ap (λ fields. end_before (map part_text fields)) (sym all) ∙ sym is_ending in
    ap (λ line. gathered ++ line)
    (ap (λ end. part_text part ++ (end ++ line_of (map part_text rest))) ends
    ∙ sym (append_assoc (part_text part) ending (line_of (map part_text rest)))
    ∙ ap (λ fields. (part_text part ++ ending) ++ line_of (map part_text fields)) (sym all))
