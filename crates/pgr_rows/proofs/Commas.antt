-- Which lists of vertices hold a comma: those of two or more, so exactly those that stand between quotes.
use Rattle.std.proofs.Common.{◌≡◌, ◌<◌, ◌^◌, ℕ, suc, ℤ, pos, negsuc, Bool, true, false, ◌||◌, ◌==◌, if◌then◌else◌, List, [], ◌∷◌, ◌++◌, codes, decimal, length, arith, refl, ◌∙◌}
use Rattle.std.proofs.lemmas.Bool.{ne_eqb, lt-ltb}
use Rattle.std.proofs.lemmas.Fmt.{decimal_is_IsNumeral}
use Rattle.std.proofs.lemmas.List.Elements.{All-head}
use Rattle.std.proofs.lemmas.List.Folds.{list_any-append}
use Rattle.std.proofs.lemmas.Str.Parse.{digit_at}
use Rattle.std.specs.List.{list_any, All}
use Rattle.std.specs.Fmt.{signed_decimal}
use Rattle.std.specs.Str.Parse.{AllDigits}
use Rattle.std.specs.Int.Signed.{mag}
use Rattle.pgr_rows.specs.ListText.{braced, closed, quote}

-- the text holds a comma
abbrev has_comma : List ℕ → Bool
has_comma text = list_any (λ byte. byte == 44) text

or_true : (b : Bool) → (b || true) ≡ true
or_true true = refl
or_true false = refl

-- digits are no comma
digits_have_none : (ds : List ℕ) → AllDigits 10 ds → has_comma ds ≡ false
digits_have_none [] h = refl
digits_have_none (d ∷ ds) h =
    let first = digit_at (d ∷ ds) 0 h (omega arith) in
    rw (ne_eqb d 44 (λ e. omega (arith, first.0, e)), digits_have_none ds h.1) refl

number_has_none : (n : ℕ) → n < 2 ^ 64 → has_comma (decimal n) ≡ false
number_has_none n h = digits_have_none (decimal n) (decimal_is_IsNumeral n h).0.1

id_has_none : (id : ℤ) → mag id < 2 ^ 63 → has_comma (signed_decimal id) ≡ false
id_has_none (pos n) h = number_has_none n (omega arith)
id_has_none (negsuc n) h = number_has_none (suc n) (omega arith)

-- a list of one vertex holds none
one_has_none : (id : ℤ) → mag id < 2 ^ 63 → has_comma (braced (id ∷ [])) ≡ false
one_has_none id h = list_any-append (λ byte. byte == 44) (signed_decimal id) (codes "}" ++ []) ∙ rw (id_has_none id h) refl

-- a list of two or more does
two_have_one : (first second : ℤ) (ids : List ℤ) → has_comma (braced (first ∷ second ∷ ids)) ≡ true
two_have_one first second ids =
    list_any-append (λ byte. byte == 44) (signed_decimal first) (codes "," ++ closed (second ∷ ids)) ∙ or_true (has_comma (signed_decimal first))

-- a list of ids is quoted exactly where it holds a comma
pub quoted_at_a_comma : (ids : List ℤ) → All (λ id. mag id < 2 ^ 63) ids → quote ids ≡ (if has_comma (braced ids) then codes "\"" else codes "")
quoted_at_a_comma [] small = refl
quoted_at_a_comma (id ∷ []) small = rw (one_has_none id (All-head (λ id. mag id < 2 ^ 63) id [] small)) refl
quoted_at_a_comma (first ∷ second ∷ ids) small = rw (lt-ltb 1 (length (first ∷ second ∷ ids)) (omega arith), two_have_one first second ids) refl
