-- Lists of numerals: numbers joined by commas. Nothing stands between a number and a comma, and no comma at either end.
use Rattle.std.specs.Prelude.{ℕ, ◌-◌, ◌&&◌, Bool, List, [], ◌∷◌, length, map, if◌then◌else◌, nat_le, ◌==◌, ℤ, Option, Some, None, option_map, slice_index_or, slice_range}
use Rattle.std.specs.List.{slice_split}
use Rattle.pgr_numerals.specs.Numeral.{i64_of}

-- a byte is a comma
abbrev pub is_comma : ℕ → Bool
is_comma byte = byte == 44

-- the values of all of them, where each has one
abbrev pub all_of : {X : Type 0} → List (Option X) → Option (List X)
all_of [] = Some []
all_of (None ∷ rest) = None
all_of (Some x ∷ rest) = option_map (λ xs. x ∷ xs) (all_of rest)

-- the numbers that the bytes write, joined by commas: every part between commas is a number, and there are at most so many
abbrev pub i64_list_of : ℕ → List ℕ → Option (List ℤ)
i64_list_of most bytes = if nat_le (length (slice_split is_comma bytes)) most then all_of (map i64_of (slice_split is_comma bytes)) else None

-- the bytes begin with an opening brace and end with a closing one behind it
abbrev pub is_braced : List ℕ → Bool
is_braced bytes = nat_le 2 (length bytes) && (slice_index_or bytes 0 0 == 123) && (slice_index_or bytes (length bytes - 1) 0 == 125)

-- the numbers that the bytes write, joined by commas; no bytes are no numbers
abbrev pub numbers_of : List ℕ → Option (List ℤ)
numbers_of [] = Some []
numbers_of (byte ∷ bytes) = all_of (map i64_of (slice_split is_comma (byte ∷ bytes)))

-- the numbers that the bytes write, joined by commas between braces; no bytes are no numbers
abbrev pub braced_list_of : List ℕ → Option (List ℤ)
braced_list_of [] = Some []
braced_list_of (byte ∷ bytes) = if is_braced (byte ∷ bytes) then numbers_of (slice_range (byte ∷ bytes) 1 (length (byte ∷ bytes) - 1)) else None
