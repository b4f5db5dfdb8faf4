-- A word's name and value: what a search for its equals sign says.
use Rattle.std.proofs.Common.{◌≡◌, ℕ, ◌+◌, ◌<◌, Bool, true, false, cond, List, [], ◌∷◌, length, refl, arith, not, ◌||◌, Option, Some, None, MatchOption, Bor, drop, sym, ap}
use Rattle.std.specs.List.{list_any, position_or_len, before_first, after_first}
use Rattle.std.specs.Option.{option_map}
use Rattle.pgr_words.specs.Forms.{parts_round}
use Rattle.pgr_words.specs.Words.{setting_of, setting_in}

-- where the search ends at the end of the text, no byte passes
pub none_passes : (p : ℕ → Bool) (text : List ℕ) → position_or_len p text ≡ length text → list_any p text ≡ false
none_passes p [] e = refl
none_passes p (byte ∷ text) e = by (p byte) (none_passes p text) e
  where
    by : (b : Bool)
        → (position_or_len p text ≡ length text → list_any p text ≡ false)
        → cond (not b) (1 + position_or_len p text) 0 ≡ length (byte ∷ text)
        → (b || list_any p text) ≡ false
    by true later at_end = absurd (omega arith)
    by false later at_end = later (omega arith)

-- where it ends before, one does
pub one_passes : (p : ℕ → Bool) (text : List ℕ) → position_or_len p text < length text → list_any p text ≡ true
one_passes p [] h = absurd (omega arith)
one_passes p (byte ∷ text) h = by (p byte) (one_passes p text) h
  where
    by : (b : Bool)
        → (position_or_len p text < length text → list_any p text ≡ true)
        → cond (not b) (1 + position_or_len p text) 0 < length (byte ∷ text)
        → (b || list_any p text) ≡ true
    by true later before_end = refl
    by false later before_end = later (omega arith)

-- the parts round the first byte of a text that passes
pub parts_round-is : (p : ℕ → Bool) (text : List ℕ) (found : Option (Bor (List ℕ) × Bor (List ℕ)))
    → MatchOption found (position_or_len p text ≡ length text) (λ x.
    (position_or_len p text < length text) × (x.0.now ≡ before_first p text) × (x.1.now ≡ after_first p text))
    → option_map (λ x. (x.0.now, x.1.now)) found ≡ parts_round p text
parts_round-is p text None at_end = rw (none_passes p text at_end) refl
parts_round-is p text (Some x) parts = rw (one_passes p text parts.0, parts.1, parts.2) refl

-- behind two hyphens stands a name and a value, where anything does
pub setting_in-behind : (word text : List ℕ) (n : ℕ) → word ≡ 45 ∷ 45 ∷ drop n word → text ≡ drop n word → setting_of text ≡ setting_in word
setting_in-behind word text n begins rest =
    let whole : word ≡ 45 ∷ 45 ∷ text = cc in
    sym (ap setting_in whole)
