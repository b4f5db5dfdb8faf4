-- Lists of vertices, a vertex at a time, and texts that are added one after another.
use Rattle.std.proofs.Common.{◌≡◌, ◌≤◌, ◌-◌, ℕ, ℤ, List, [], ◌∷◌, ◌++◌, take, drop, get_or, length, Option, append_assoc, arith, refl, sym, ap, subst, ◌∙◌}
use Rattle.std.proofs.lemmas.List.{take_all}
use Rattle.std.specs.Fmt.{signed_decimal}
use Rattle.pgr_outside.specs.Sink.{AddsPrefix, HasGained, HasGained-none, HasGained-step, HasGained-stop, HasGained-then, HasGained-prefix}
use Rattle.pgr_rows.specs.ListText.{end_of, closed}

-- behind what is gathered a list is its first vertex, what ends that, and the list of the vertices behind it
pub next_vertex : (gathered ending : List ℕ) (rest behind : List ℤ) (x : ℤ) → 1 ≤ length rest → behind ≡ take (length rest - 1) (drop 1 rest) → ending ≡ end_of behind
    → gathered ++ closed rest ≡ gathered ++ ((signed_decimal (get_or rest 0 x) ++ ending) ++ closed behind)
next_vertex gathered ending [] behind x some is_behind is_ending = absurd (omega (arith, some))
next_vertex gathered ending (id ∷ rest) behind x some is_behind is_ending =
    let all : behind ≡ rest = is_behind ∙ take_all (length (id ∷ rest) - 1) rest (omega arith) in
    let ends : end_of rest ≡ ending = ap end_of (sym all) ∙ sym is_ending in
    ap (λ text. gathered ++ text)
    (ap (λ end. signed_decimal id ++ (end ++ closed rest)) ends
    ∙ sym (append_assoc (signed_decimal id) ending (closed rest))
    ∙ ap (λ ids. (signed_decimal id ++ ending) ++ closed ids) (sym all))

-- of two texts the first was added
pub first_added : (before after : Option (List ℕ)) (gathered text more now : List ℕ) → HasGained before after (gathered ++ text) now
    → HasGained before after (gathered ++ (text ++ more)) (now ++ more)
first_added before after gathered text more now added =
    HasGained-step before before after (gathered ++ (text ++ more)) (gathered ++ (text ++ more)) gathered text more now (HasGained-none before _) refl added

-- of the first of two texts a front was added
pub first_front : (before after : Option (List ℕ)) (gathered text more : List ℕ) → AddsPrefix before after (gathered ++ text) → AddsPrefix before after (gathered ++ (text ++ more))
first_front before after gathered text more front =
    HasGained-stop before before after (gathered ++ (text ++ more)) (gathered ++ (text ++ more)) gathered text more (HasGained-none before _) refl front

-- both were added
pub second_added : (before between after : Option (List ℕ)) (gathered text more now last : List ℕ) → HasGained before between (gathered ++ text) now
    → HasGained between after (now ++ more) last → HasGained before after (gathered ++ (text ++ more)) last
second_added before between after gathered text more now last first second =
    HasGained-then before between after (gathered ++ (text ++ more)) (now ++ more) last (first_added before between gathered text more now first) second

-- the first was added, and a front of the second
pub second_front : (before between after : Option (List ℕ)) (gathered text more now : List ℕ) → HasGained before between (gathered ++ text) now
    → AddsPrefix between after (now ++ more) → AddsPrefix before after (gathered ++ (text ++ more))
second_front before between after gathered text more now first second =
    HasGained-prefix before between after (gathered ++ (text ++ more)) (now ++ more) (first_added before between gathered text more now first) second

-- two fields with what ends them, and more behind them
pub two_fields : (first second end more : List ℕ) → (first ++ end) ++ ((second ++ end) ++ more) ≡ first ++ (end ++ (second ++ (end ++ more)))
two_fields first second end more =
    append_assoc first end ((second ++ end) ++ more) ∙ ap (λ rest. first ++ (end ++ rest)) (append_assoc second end more)

-- what was added of a text was added of one that is the same
pub as_whole : (before after : Option (List ℕ)) (gathered part whole now : List ℕ) → part ≡ whole → HasGained before after (gathered ++ part) now
    → HasGained before after (gathered ++ whole) now
as_whole before after gathered part whole now same = subst (λ text. HasGained before after (gathered ++ text) now) same

pub as_whole_front : (before after : Option (List ℕ)) (gathered part whole : List ℕ) → part ≡ whole → AddsPrefix before after (gathered ++ part)
    → AddsPrefix before after (gathered ++ whole)
as_whole_front before after gathered part whole same = subst (λ text. AddsPrefix before after (gathered ++ text)) same
