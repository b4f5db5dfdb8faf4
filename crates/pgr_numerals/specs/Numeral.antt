-- Numerals: what digits, and digits with a sign, write. Zeros may stand in front; nothing is trimmed, and no plus sign is read.
use Rattle.std.specs.Prelude.{ℕ, ◌+◌, ◌-◌, ◌^◌, ◌&&◌, Bool, not, List, [], ◌∷◌, if◌then◌else◌, nat_le, ◌==◌, ℤ, pos, negsuc, neg_ℤ, Option, Some, None, option_map, option_and_then, unsigned_abs, position, take, drop, length}
use Rattle.std.specs.List.{list_all}
use Rattle.std.specs.Str.Parse.{digits_value}

-- a byte is a decimal digit
abbrev pub is_digit : ℕ → Bool
is_digit byte = nat_le 48 byte && nat_le byte 57

-- the number that the bytes write: one digit or more and nothing else, with a value of at most this
abbrev pub digits_up_to : ℕ → List ℕ → Option ℕ
digits_up_to most [] = None
digits_up_to most (byte ∷ bytes) = if list_all is_digit (byte ∷ bytes) && nat_le (digits_value 10 (byte ∷ bytes)) most then Some (digits_value 10 (byte ∷ bytes)) else None

-- the number that the bytes write: an optional hyphen and digits, in the range of i64
abbrev pub i64_of : List ℕ → Option ℤ
i64_of [] = None
i64_of (byte ∷ bytes) = if byte == 45 then option_map (λ n. neg_ℤ (pos n)) (digits_up_to (2 ^ 63) bytes) else option_map pos (digits_up_to (2 ^ 63 - 1) (byte ∷ bytes))

-- the id or vertex that the bytes write: digits, from 0 to 2^63 - 1
abbrev pub id_of : List ℕ → Option ℤ
id_of bytes = option_map pos (digits_up_to (2 ^ 63 - 1) bytes)

-- an id from 1 on that the bytes write: digits, from 1 to 2^63 - 1
abbrev pub positive_of : List ℕ → Option ℤ
positive_of bytes = option_and_then (λ n. if n == 0 then None else Some (pos n)) (digits_up_to (2 ^ 63 - 1) bytes)

-- one zero or more, and nothing else
abbrev pub are_zeros : List ℕ → Bool
are_zeros bytes = not (length bytes == 0) && list_all (λ b. b == 48) bytes

-- the number that the bytes write around their first full stop, where it has a place: with zeros alone behind it, the number before it
abbrev pub whole_around : List ℕ → Option ℕ → Option ℤ
whole_around bytes None = i64_of bytes
whole_around bytes (Some stop) = if are_zeros (drop (stop + 1) bytes) then i64_of (take stop bytes) else None

-- the whole number that the bytes write: an optional hyphen, digits, and if wanted a full stop and one zero or more, in the range of i64
abbrev pub whole_of : List ℕ → Option ℤ
whole_of bytes = whole_around bytes (position (λ b. b == 46) bytes)

-- the whole number that the bytes write, or -1 where there are none
abbrev pub whole_or_empty : List ℕ → Option ℤ
whole_or_empty [] = Some (negsuc 0)
whole_or_empty (byte ∷ bytes) = whole_of (byte ∷ bytes)

-- the whole number that the bytes write, with an absolute value of at most this
abbrev pub whole_within : ℕ → List ℕ → Option ℤ
whole_within most bytes = option_and_then (λ z. if nat_le (unsigned_abs z) most then Some z else None) (whole_of bytes)
