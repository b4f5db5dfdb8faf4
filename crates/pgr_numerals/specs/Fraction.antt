-- Fractions: what a decimal number between 0 and 1, or two numbers around a slash, write. Nothing is reduced.
use Rattle.std.specs.Prelude.{ℕ, ◌+◌, ◌^◌, ◌&&◌, List, if◌then◌else◌, nat_lt, ◌==◌, Option, Some, None, option_and_then, position, take, drop, length}
use Rattle.std.specs.List.{list_all}
use Rattle.pgr_numerals.specs.declared.fraction.Fraction.{Fraction}
use Rattle.pgr_numerals.specs.Numeral.{is_digit, are_zeros, digits_up_to}

-- the fraction of two numbers, which is above 0 and below 1
abbrev pub proper : ℕ → ℕ → Option Fraction
proper over under = if nat_lt 0 over && nat_lt over under then Some (record { over = over; under = under }) else None

-- the fraction that digits behind a full stop write: all of them over the power of ten of their number
abbrev pub tenths_of : List ℕ → Option Fraction
tenths_of digits = option_and_then (λ over. proper over (10 ^ length digits)) (digits_up_to (10 ^ 19) digits)

-- the fraction that is written as zeros, a full stop and digits; the digits after the nineteenth are dropped
abbrev pub decimal_of : List ℕ → List ℕ → Option Fraction
decimal_of zeros digits = if are_zeros zeros && list_all is_digit digits then tenths_of (take 19 digits) else None

-- the fraction that is written as digits, a slash and digits, both with a value of at most 10^19
abbrev pub slashed_of : List ℕ → List ℕ → Option Fraction
slashed_of over under = option_and_then (λ o. option_and_then (proper o) (digits_up_to (10 ^ 19) under)) (digits_up_to (10 ^ 19) over)

-- the fraction that the bytes write around their first slash, where it has a place
abbrev pub fraction_at_slash : List ℕ → Option ℕ → Option Fraction
fraction_at_slash bytes None = None
fraction_at_slash bytes (Some slash) = slashed_of (take slash bytes) (drop (slash + 1) bytes)

-- the fraction that the bytes write around their first full stop, where it has a place, and else around their first slash
abbrev pub fraction_around : List ℕ → Option ℕ → Option Fraction
fraction_around bytes None = fraction_at_slash bytes (position (λ b. b == 47) bytes)
fraction_around bytes (Some stop) = decimal_of (take stop bytes) (drop (stop + 1) bytes)

-- the fraction that the bytes write, between 0 and 1
abbrev pub fraction_of : List ℕ → Option Fraction
fraction_of bytes = fraction_around bytes (position (λ b. b == 46) bytes)
