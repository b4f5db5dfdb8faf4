-- The forms of values: what the text behind an option's equals sign stands for, if it is in the form, and what a reader of a form answers.
use Rattle.std.specs.Prelude.{◌≡◌, ℕ, Bool, true, false, ◌&&◌, if◌then◌else◌, ◌==◌, nat_lt, nat_le, List, [], ◌∷◌, length, map, codes, ℤ, Option, Some, None}
use Rattle.std.specs.Prelude.{option_map, option_and_then, Result, Ok, Err}
use Rattle.std.specs.List.{slice_split, list_any, before_first, after_first}
use Rattle.std.specs.Map.{lookup}
use Rattle.std.specs.Str.{bytes_eq}
use Rattle.pgr_outside.specs.declared.side.Side.{Side}
use Rattle.pgr_outside.specs.declared.side.Side.TheVariants.{B, R, L}
use Rattle.pgr_numerals.specs.Numeral.{digits_up_to}
use Rattle.pgr_numerals.specs.NumeralList.{is_comma, all_of, i64_list_of}
use Rattle.pgr_words.specs.declared.method.Method.{Method}
use Rattle.pgr_words.specs.declared.method.Method.TheVariants.{DeadEnd, Linear}
use Rattle.pgr_words.specs.declared.estimate.Heuristic.{Heuristic}
use Rattle.pgr_words.specs.declared.estimate.Heuristic.TheVariants.{H0, H1, H2, H3, H4, H5}
use Rattle.pgr_words.specs.declared.estimate.Factor.{Factor}
use Rattle.pgr_words.specs.declared.value.ValueRefused.{ValueRefused}
use Rattle.pgr_words.specs.declared.value.ValueRefused.TheVariants.{Form, Memory}
use Rattle.pgr_words.specs.Factors.{most_of_factor}
use Rattle.pgr_words.specs.Rising.{rising}

-- the most bytes of a file name
abbrev pub most_name_bytes : ℕ
most_name_bytes = 4096

-- the most ids in a list
abbrev pub most_ids : ℕ
most_ids = 65536

-- the greatest distance
abbrev pub most_distance : ℕ
most_distance = 9223372036854775807

-- a file name: 1 to 4,096 bytes, as they stand
abbrev pub file_name : List ℕ → Option (List ℕ)
file_name text = if nat_lt 0 (length text) && nat_le (length text) most_name_bytes then Some text else None

-- a list of ids: 1 to 65,536 numbers joined by commas, as the strictly rising list of them
abbrev pub ids : List ℕ → Option (List ℤ)
ids text = option_map rising (i64_list_of most_ids text)

-- a flag: `true` or `false`
abbrev pub flag : List ℕ → Option Bool
flag text = if bytes_eq text (codes "true") then Some true else (if bytes_eq text (codes "false") then Some false else None)

-- a side: `b`, `r` or `l`
abbrev pub side : List ℕ → Option Side
side text =
    if bytes_eq text (codes "b") then Some B
    else (if bytes_eq text (codes "r") then Some R else (if bytes_eq text (codes "l") then Some L else None))

-- a distance: digits alone, from 0 to 2^63 - 1
abbrev pub distance : List ℕ → Option ℕ
distance text = digits_up_to most_distance text

-- the greatest count
abbrev pub most_count : ℕ
most_count = 1000000

-- the number where it isn't 0
abbrev pub from_one : Option ℕ → Option ℕ
from_one None = None
from_one (Some number) = if nat_lt 0 number then Some number else None

-- a count: digits alone, from 1 to 1,000,000
abbrev pub count : List ℕ → Option ℕ
count text = from_one (digits_up_to most_count text)

-- the most methods in an order
abbrev pub most_methods : ℕ
most_methods = 64

-- a method: `1` for dead ends, `2` for linear vertices
abbrev pub method : List ℕ → Option Method
method text = if bytes_eq text (codes "1") then Some DeadEnd else (if bytes_eq text (codes "2") then Some Linear else None)

-- an order: 1 to 64 methods joined by commas, as they stand
abbrev pub order : List ℕ → Option (List Method)
order text = if nat_le (length (slice_split is_comma text)) most_methods then all_of (map method (slice_split is_comma text)) else None

-- a heuristic: one digit from 0 to 5
abbrev pub heuristic : List ℕ → Option Heuristic
heuristic text = lookup (bytes_eq text) ((codes "0", H0) ∷ (codes "1", H1) ∷ (codes "2", H2) ∷ (codes "3", H3) ∷ (codes "4", H4) ∷ (codes "5", H5) ∷ [])

-- a part of a factor: digits alone, from 1 to 1,000,000
abbrev pub part_of_factor : List ℕ → Option ℕ
part_of_factor text = option_and_then (λ n. if nat_lt 0 n then Some n else None) (digits_up_to most_of_factor text)

-- a byte is a slash
abbrev pub is_slash : ℕ → Bool
is_slash byte = byte == 47

-- a factor of two parts
abbrev pub factor_of : Option ℕ → Option ℕ → Option Factor
factor_of over under = option_and_then (λ n. option_map (λ d. record { over = n; under = d }) under) over

-- what stands before the first byte that passes, and what behind it, if one does
abbrev pub parts_round : (ℕ → Bool) → List ℕ → Option (List ℕ × List ℕ)
parts_round passes text = if list_any passes text then Some (before_first passes text, after_first passes text) else None

-- a factor of a text with these parts round its first slash
abbrev pub factor_in : List ℕ → Option (List ℕ × List ℕ) → Option Factor
factor_in text None = factor_of (part_of_factor text) (Some 1)
factor_in text (Some parts) = factor_of (part_of_factor parts.0) (part_of_factor parts.1)

-- a factor: a numerator, or a numerator, a slash and a denominator, which is 1 where it is absent
abbrev pub factor : List ℕ → Option Factor
factor text = factor_in text (parts_round is_slash text)

-- the answer of a reader is what the text stands for, or that it isn't in the form, unless memory was wanting
abbrev pub Reads : {X Y : Type 0} → (X → Y) → Option Y → Result X ValueRefused → Type 0
Reads view value (Ok x) = value ≡ Some (view x)
Reads view value (Err Form) = value ≡ None
Reads view value (Err Memory) = Unit {0}
