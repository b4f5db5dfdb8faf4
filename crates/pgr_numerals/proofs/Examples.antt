-- Small numerals and what they write.
use Rattle.std.proofs.Common.{◌≡◌, ◌-◌, ◌^◌, pos, negsuc, Some, None, [], ◌∷◌, refl}
use Rattle.std.specs.Prelude.{codes}
use Rattle.pgr_numerals.specs.Numeral.{digits_up_to, i64_of, id_of, positive_of, whole_of, whole_or_empty, whole_within}
use Rattle.pgr_numerals.specs.NumeralList.{braced_list_of}
use Rattle.pgr_numerals.specs.Fraction.{fraction_of}

-- zeros may stand in front
pub zeros_in_front : digits_up_to 9 (codes "007") ≡ Some 7
zeros_in_front = refl

-- a number at the limit, and one above it
pub at_the_limit : digits_up_to 9 (codes "9") ≡ Some 9
at_the_limit = refl

pub above_the_limit : digits_up_to (2 ^ 63 - 1) (codes "9223372036854775808") ≡ None
above_the_limit = refl

-- the bytes before `0` and behind `9` are no digits
pub slash : digits_up_to 99 (codes "1/") ≡ None
slash = refl

pub colon : digits_up_to 99 (codes "1:") ≡ None
colon = refl

-- a blank is not trimmed
pub blank : digits_up_to 99 (codes " 1") ≡ None
blank = refl

-- no bytes are no number
pub no_digits : digits_up_to 9 [] ≡ None
no_digits = refl

pub no_bytes : i64_of [] ≡ None
no_bytes = refl

-- the least and the greatest, and those beyond
pub least : i64_of (codes "-9223372036854775808") ≡ Some (negsuc (2 ^ 63 - 1))
least = refl

pub below_the_least : i64_of (codes "-9223372036854775809") ≡ None
below_the_least = refl

pub greatest : i64_of (codes "9223372036854775807") ≡ Some (pos (2 ^ 63 - 1))
greatest = refl

pub above_the_greatest : i64_of (codes "9223372036854775808") ≡ None
above_the_greatest = refl

-- a hyphen before a zero, a plus sign, a hyphen alone, two hyphens
pub minus_zero : i64_of (codes "-0") ≡ Some (pos 0)
minus_zero = refl

pub plus_one : i64_of (codes "+1") ≡ None
plus_one = refl

pub hyphen_alone : i64_of (codes "-") ≡ None
hyphen_alone = refl

pub two_hyphens : i64_of (codes "--1") ≡ None
two_hyphens = refl

-- an id has no sign, and no full stop
pub negative_id : id_of (codes "-1") ≡ None
negative_id = refl

pub stopped_id : id_of (codes "1.0") ≡ None
stopped_id = refl

pub greatest_id : id_of (codes "9223372036854775807") ≡ Some (pos (2 ^ 63 - 1))
greatest_id = refl

-- zeros behind a full stop, as many as wanted
pub seven : whole_of (codes "7.000") ≡ Some (pos 7)
seven = refl

pub whole_minus_zero : whole_of (codes "-0.0") ≡ Some (pos 0)
whole_minus_zero = refl

pub whole_least : whole_of (codes "-9223372036854775808.0") ≡ Some (negsuc (2 ^ 63 - 1))
whole_least = refl

pub whole_above : whole_of (codes "9223372036854775808") ≡ None
whole_above = refl

-- a full stop needs digits before it and zeros alone behind it
pub nothing_behind : whole_of (codes "7.") ≡ None
nothing_behind = refl

pub nothing_before : whole_of (codes ".0") ≡ None
nothing_before = refl

pub hyphen_before : whole_of (codes "-.0") ≡ None
hyphen_before = refl

pub a_half : whole_of (codes "7.5") ≡ None
a_half = refl

pub two_stops : whole_of (codes "7.0.0") ≡ None
two_stops = refl

-- no exponent, no plus sign, no words
pub exponent : whole_of (codes "1e3") ≡ None
exponent = refl

pub whole_plus : whole_of (codes "+7.0") ≡ None
whole_plus = refl

pub not_a_number : whole_of (codes "NaN") ≡ None
not_a_number = refl

pub infinity : whole_of (codes "Infinity") ≡ None
infinity = refl

-- the empty field
pub empty_is_minus_one : whole_or_empty [] ≡ Some (negsuc 0)
empty_is_minus_one = refl

pub empty_is_no_number : whole_of [] ≡ None
empty_is_no_number = refl

pub not_empty : whole_or_empty (codes "0.0") ≡ Some (pos 0)
not_empty = refl

-- an id from 1 on
pub positive_one : positive_of (codes "001") ≡ Some (pos 1)
positive_one = refl

pub positive_zero : positive_of (codes "0") ≡ None
positive_zero = refl

pub positive_above : positive_of (codes "9223372036854775808") ≡ None
positive_above = refl

-- a whole number within a limit, on both sides
pub within_both : whole_within 10 (codes "-10.0") ≡ Some (negsuc 9)
within_both = refl

pub not_within : whole_within 10 (codes "-11") ≡ None
not_within = refl

pub not_above : whole_within 10 (codes "11.0") ≡ None
not_above = refl

-- a decimal fraction: zeros, a full stop, digits
pub a_decimal_half : fraction_of (codes "0.5") ≡ Some (record { over = 5; under = 10 })
a_decimal_half = refl

pub zeros_count : fraction_of (codes "00.050") ≡ Some (record { over = 50; under = 1000 })
zeros_count = refl

pub nineteen : fraction_of (codes "0.1234567890123456789") ≡ Some (record { over = 1234567890123456789; under = 10 ^ 19 })
nineteen = refl

pub later_are_dropped : fraction_of (codes "0.123456789012345678999") ≡ Some (record { over = 1234567890123456789; under = 10 ^ 19 })
later_are_dropped = refl

pub only_a_dropped_digit : fraction_of (codes "0.00000000000000000005") ≡ None
only_a_dropped_digit = refl

pub dropped_but_no_digit : fraction_of (codes "0.1234567890123456789x") ≡ None
dropped_but_no_digit = refl

pub decimal_zero : fraction_of (codes "0.0") ≡ None
decimal_zero = refl

pub decimal_one : fraction_of (codes "1.0") ≡ None
decimal_one = refl

pub no_zero_before : fraction_of (codes ".5") ≡ None
no_zero_before = refl

pub no_digit_behind : fraction_of (codes "0.") ≡ None
no_digit_behind = refl

-- a fraction with a slash, which isn't reduced
pub two_quarters : fraction_of (codes "2/04") ≡ Some (record { over = 2; under = 4 })
two_quarters = refl

pub greatest_under : fraction_of (codes "1/10000000000000000000") ≡ Some (record { over = 1; under = 10 ^ 19 })
greatest_under = refl

pub above_greatest_under : fraction_of (codes "1/10000000000000000001") ≡ None
above_greatest_under = refl

pub a_whole : fraction_of (codes "2/2") ≡ None
a_whole = refl

pub nothing_over : fraction_of (codes "0/2") ≡ None
nothing_over = refl

pub no_form : fraction_of (codes "5") ≡ None
no_form = refl

pub both_forms : fraction_of (codes "1/2.0") ≡ None
both_forms = refl

pub empty_fraction : fraction_of [] ≡ None
empty_fraction = refl

-- lists between braces
pub two_numbers : braced_list_of (codes "{1,-2}") ≡ Some (pos 1 ∷ negsuc 1 ∷ [])
two_numbers = refl

pub empty_list : braced_list_of (codes "{}") ≡ Some []
empty_list = refl

pub empty_field : braced_list_of [] ≡ Some []
empty_field = refl

pub one_brace : braced_list_of (codes "{") ≡ None
one_brace = refl

pub no_braces : braced_list_of (codes "1,2") ≡ None
no_braces = refl

pub comma_at_the_end : braced_list_of (codes "{1,}") ≡ None
comma_at_the_end = refl

pub blank_behind_a_comma : braced_list_of (codes "{1, 2}") ≡ None
blank_behind_a_comma = refl

pub stopped_number : braced_list_of (codes "{1.0}") ≡ None
stopped_number = refl
