-- Digits read from the front: what one more byte does.
use Rattle.std.proofs.Common.{◌≡◌, ℕ, ◌+◌, ◌*◌, ◌-◌, ◌^◌, ◌<◌, ◌≤◌, Bool, true, false, ◌&&◌, List, [], ◌∷◌, length, get_or, take, Option, Some, None, refl, sym, ◌∙◌, arith, if◌then◌else◌, ◌⊎◌, inl, inr}
use Rattle.std.specs.Prelude.{nat_le}
use Rattle.std.specs.List.{list_all}
use Rattle.std.specs.Str.Parse.{AllDigits, digits_value}
use Rattle.std.specs.Char.{digit_value}
use Rattle.std.proofs.lemmas.Bool.{leb-true, leb-false, lt-leb, le-leb}
use Rattle.std.proofs.lemmas.Bool.Decides.{nat_tests}
use Rattle.std.proofs.Math.Nat.{pow-le-pow_right}
use Rattle.std.proofs.lemmas.List.{length-take}
use Rattle.std.proofs.lemmas.Str.Parse.{digits_value-take-le}
use Rattle.std.proofs.lemmas.Int.Digits.{digits_value-lt, digits_value_more}
use Rattle.std.proofs.lemmas.List.Folds.{list_all_at, list_all_more}
use Rattle.pgr_numerals.specs.Numeral.{is_digit, digits_up_to}

-- the bytes are digits, if there are any, and write this value; where there are none, it is 0
pub record Writes (bytes : List ℕ) (value : ℕ) : Type 0 where
  pub digits : list_all is_digit bytes ≡ true
  pub value_is : value ≡ digits_value 10 bytes

-- the same of a value within the limit
pub record Wrote (most : ℕ) (bytes : List ℕ) (value : ℕ) : Type 0 where
  pub writes : Writes bytes value
  pub within : value ≤ most

-- the number with the byte as one more digit
abbrev pub grown : ℕ → ℕ → ℕ → Option ℕ
grown most value byte = if is_digit byte && nat_le (value * 10 + (byte - 48)) most then Some (value * 10 + (byte - 48)) else None

-- a digit's value is its distance from `0`
pub digit_value-digit : (byte : ℕ) → is_digit byte ≡ true → digit_value byte ≡ byte - 48
digit_value-digit byte h = grind (arith, nat_tests)

-- a digit's value is below ten
digit_value-below : (byte : ℕ) → is_digit byte ≡ true → digit_value byte < 10
digit_value-below byte h = grind (arith, nat_tests)

-- where the number grew, the byte is a digit and the new number is within the limit
grew : (most value byte next : ℕ) → grown most value byte ≡ Some next → (is_digit byte ≡ true) × (value * 10 + (byte - 48) ≤ most) × (next ≡ value * 10 + (byte - 48))
grew most value byte next = by (is_digit byte) (nat_le (value * 10 + (byte - 48)) most) (leb-true _ _)
  where
    by : (d w : Bool) → (w ≡ true → value * 10 + (byte - 48) ≤ most) → (if d && w then Some (value * 10 + (byte - 48)) else None) ≡ Some next
        → (d ≡ true) × (value * 10 + (byte - 48) ≤ most) × (next ≡ value * 10 + (byte - 48))
    by true true w e = (refl, w refl, cc)
    by true false w e = cc
    by false true w e = cc
    by false false w e = cc

-- where it did not, the byte is no digit, or it is one and the new number is above the limit
stopped : (most value byte : ℕ) → grown most value byte ≡ None → (is_digit byte ≡ false) ⊎ ((is_digit byte ≡ true) × (most < value * 10 + (byte - 48)))
stopped most value byte = by (is_digit byte) (nat_le (value * 10 + (byte - 48)) most) (leb-false _ _)
  where
    by : (d w : Bool) → (w ≡ false → most < value * 10 + (byte - 48)) → (if d && w then Some (value * 10 + (byte - 48)) else None) ≡ None
        → (d ≡ false) ⊎ ((d ≡ true) × (most < value * 10 + (byte - 48)))
    by true true w e = cc
    by true false w e = inr (refl, w refl)
    by false true w e = inl refl
    by false false w e = inl refl

-- the value with one more digit
value_more : (value : ℕ) (bytes : List ℕ) (i : ℕ) → i < length bytes → Writes (take i bytes) value → is_digit (get_or bytes i 0) ≡ true
    → digits_value 10 (take (i + 1) bytes) ≡ value * 10 + (get_or bytes i 0 - 48)
value_more value bytes i h writes digit = rw (digits_value_more 10 bytes i h, digit_value-digit (get_or bytes i 0) digit, ← writes.value_is) refl

-- one more digit
pub digit_more : (value : ℕ) (bytes : List ℕ) (i : ℕ) → i < length bytes → Writes (take i bytes) value → is_digit (get_or bytes i 0) ≡ true
    → Writes (take (i + 1) bytes) (value * 10 + (get_or bytes i 0 - 48))
digit_more value bytes i h writes digit = record {
  digits = list_all_more is_digit bytes i 0 h ∙ rw (writes.digits, digit) refl;
  value_is = sym (value_more value bytes i h writes digit);
}

-- one more digit within the limit
pub more : (most value next : ℕ) (bytes : List ℕ) (i : ℕ) → i < length bytes → Wrote most (take i bytes) value → grown most value (get_or bytes i 0) ≡ Some next
    → Wrote most (take (i + 1) bytes) next
more most value next bytes i h wrote e =
    let g = grew most value (get_or bytes i 0) next e in
    record {
      writes = rw g.2 (digit_more value bytes i h wrote.writes g.0);
      within = rw g.2 g.1;
    }

-- both of two tests
pub both : (a b : Bool) → (a && b) ≡ true → (a ≡ true) × (b ≡ true)
both true true e = (refl, refl)
both true false e = cc
both false true e = cc
both false false e = cc

-- digits are digits in the radix ten
all_digits : (bytes : List ℕ) → list_all is_digit bytes ≡ true → AllDigits 10 bytes
all_digits [] e = tt
all_digits (byte ∷ bytes) e =
    let each = both (is_digit byte) (list_all is_digit bytes) e in
    (digit_value-below byte each.0, all_digits bytes each.1)

-- what digits write is below the power of ten of their number
writes-below : (value : ℕ) (bytes : List ℕ) (count : ℕ) → Writes bytes value → length bytes ≤ count → value < 10 ^ count
writes-below value bytes count writes few =
    let all_are = all_digits bytes writes.digits in
    omega (arith, writes.value_is, digits_value-lt 10 bytes all_are, pow-le-pow_right {n = 10} (omega arith) few)

-- with one more digit the value of fewer than eighteen is still below 10^18
pub fits_more : (value : ℕ) (bytes : List ℕ) (i : ℕ) → i < length bytes → length bytes ≤ 18 → Writes (take i bytes) value → is_digit (get_or bytes i 0) ≡ true
    → value * 10 + (get_or bytes i 0 - 48) < 10 ^ 18
fits_more value bytes i h few writes digit = writes-below _ (take (i + 1) bytes) 18 (digit_more value bytes i h writes digit) (omega (arith, length-take (i + 1) bytes))

-- bytes that aren't all digits, or write a number above the limit, write no number up to it
refused : (most : ℕ) (bytes : List ℕ) → (list_all is_digit bytes ≡ false) ⊎ (most < digits_value 10 bytes) → digits_up_to most bytes ≡ None
refused most [] e = refl
refused most (byte ∷ bytes) (inl e) = rw e refl
refused most (byte ∷ bytes) (inr e) = by (list_all is_digit (byte ∷ bytes)) (nat_le (digits_value 10 (byte ∷ bytes)) most) (lt-leb _ _ e)
  where
    by : (d w : Bool) → w ≡ false → (if d && w then Some (digits_value 10 (byte ∷ bytes)) else None) ≡ None
    by true true w = cc
    by true false w = refl
    by false true w = refl
    by false false w = refl

-- a byte that is no digit, or that takes the number above the limit, leaves no number
pub none : (most value : ℕ) (bytes : List ℕ) (i : ℕ) → i < length bytes → Wrote most (take i bytes) value → grown most value (get_or bytes i 0) ≡ None
    → digits_up_to most bytes ≡ None
none most value bytes i h wrote e = elim (stopped most value (get_or bytes i 0) e) [
  | inl odd ↦ refused most bytes (inl (list_all_at is_digit bytes i 0 h odd))
  | inr above ↦ refused most bytes (inr (omega (arith, above.1, value_more value bytes i h wrote.writes above.0, digits_value-take-le 10 bytes (i + 1) (omega arith))))
]

-- all bytes
pub all : (most value : ℕ) (bytes : List ℕ) → 0 < length bytes → Wrote most bytes value → digits_up_to most bytes ≡ Some value
all most value [] h wrote = absurd (omega arith)
all most value (byte ∷ bytes) h wrote = rw (wrote.writes.digits, ← wrote.writes.value_is, le-leb value most wrote.within) refl

-- where digits up to a limit are read, all bytes are digits
pub are_digits : (most value : ℕ) (bytes : List ℕ) → digits_up_to most bytes ≡ Some value → list_all is_digit bytes ≡ true
are_digits most value bytes e = by (list_all is_digit bytes) refl
  where
    by : (d : Bool) → list_all is_digit bytes ≡ d → d ≡ true
    by true is = refl
    by false is = let none = refused most bytes (inl is) in cc
