-- A text that is a number with no full stop: no byte of it is one, so it is the same whole number.
use Rattle.std.proofs.Common.{◌≡◌, ℕ, ◌+◌, ◌-◌, ◌^◌, Bool, true, false, List, [], ◌∷◌, length, Option, Some, None, refl, ap, ◌∙◌, arith, if◌then◌else◌, ℤ, pos}
use Rattle.std.specs.Prelude.{◌==◌, not, cond, neg_ℤ, option_map, position}
use Rattle.std.specs.List.{list_all, prefix_len}
use Rattle.std.proofs.lemmas.Bool.{le-ltb}
use Rattle.std.proofs.lemmas.Bool.Decides.{nat_tests}
use Rattle.pgr_numerals.specs.Numeral.{is_digit, digits_up_to, i64_of, whole_of}
use Rattle.pgr_numerals.proofs.Digits.{both, are_digits}

-- a digit is no full stop
digit-no_stop : (byte : ℕ) → is_digit byte ≡ true → not (byte == 46) ≡ true
digit-no_stop byte e = grind (arith, nat_tests)

-- a hyphen is no full stop
hyphen-no_stop : (byte : ℕ) → (byte == 45) ≡ true → not (byte == 46) ≡ true
hyphen-no_stop byte e = grind (arith, nat_tests)

-- one more byte that is no full stop
more-no_stop : (byte : ℕ) (bytes : List ℕ) → not (byte == 46) ≡ true → prefix_len (λ b. not (b == 46)) bytes ≡ length bytes
    → prefix_len (λ b. not (b == 46)) (byte ∷ bytes) ≡ length (byte ∷ bytes)
more-no_stop byte bytes e rest = ap (λ t. cond t (1 + prefix_len (λ b. not (b == 46)) bytes) 0) e ∙ omega (arith, rest)

-- digits have no full stop
digits-no_stop : (bytes : List ℕ) → list_all is_digit bytes ≡ true → prefix_len (λ b. not (b == 46)) bytes ≡ length bytes
digits-no_stop [] e = refl
digits-no_stop (byte ∷ bytes) e =
    let each = both (is_digit byte) (list_all is_digit bytes) e in
    more-no_stop byte bytes (digit-no_stop byte each.0) (digits-no_stop bytes each.1)

-- so they have none where they are read as a number, whatever is made of it
read-no_stop : (most : ℕ) (bytes : List ℕ) (f : ℕ → ℤ) (number : ℤ) → option_map f (digits_up_to most bytes) ≡ Some number
    → prefix_len (λ b. not (b == 46)) bytes ≡ length bytes
read-no_stop most bytes f number = by (digits_up_to most bytes) refl
  where
    by : (read : Option ℕ) → digits_up_to most bytes ≡ read → option_map f read ≡ Some number → prefix_len (λ b. not (b == 46)) bytes ≡ length bytes
    by None is e = cc
    by (Some value) is e = digits-no_stop bytes (are_digits most value bytes is)

-- a number with an optional hyphen has no full stop
number-no_stop : (bytes : List ℕ) (number : ℤ) → i64_of bytes ≡ Some number → prefix_len (λ b. not (b == 46)) bytes ≡ length bytes
number-no_stop [] number e = refl
number-no_stop (byte ∷ bytes) number e = by (byte == 45) refl e
  where
    by : (hyphen : Bool) → (byte == 45) ≡ hyphen
        → (if hyphen then option_map (λ n. neg_ℤ (pos n)) (digits_up_to (2 ^ 63) bytes) else option_map pos (digits_up_to (2 ^ 63 - 1) (byte ∷ bytes))) ≡ Some number
        → prefix_len (λ b. not (b == 46)) (byte ∷ bytes) ≡ length (byte ∷ bytes)
    by true is e = more-no_stop byte bytes (hyphen-no_stop byte is) (read-no_stop (2 ^ 63) bytes (λ n. neg_ℤ (pos n)) number e)
    by false is e = read-no_stop (2 ^ 63 - 1) (byte ∷ bytes) pos number e

-- where no byte is a full stop, none has a place
nowhere : (bytes : List ℕ) → prefix_len (λ b. not (b == 46)) bytes ≡ length bytes → position (λ b. b == 46) bytes ≡ None
nowhere bytes e = rw (e, le-ltb (length bytes) (length bytes) (omega arith)) refl

-- a text that is a number is the same whole number
pub whole-read : (bytes : List ℕ) (number : ℤ) → i64_of bytes ≡ Some number → whole_of bytes ≡ Some number
whole-read bytes number e = rw (nowhere bytes (number-no_stop bytes number e)) e
