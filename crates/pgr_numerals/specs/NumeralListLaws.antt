-- What is known of a list of numerals that is one: how many numbers it has.
use Rattle.std.specs.Prelude.{◌≡◌, ℕ, ◌<◌, ◌≤◌, Bool, true, false, nat_le, if◌then◌else◌, List, [], ◌∷◌, length, map, ℤ, Option, Some, None, option_map, refl}
use Rattle.std.specs.List.{slice_split}
use Rattle.std.proofs.Common.{arith}
use Rattle.std.proofs.lemmas.Bool.{leb-true}
use Rattle.std.proofs.lemmas.List.{length-map}
use Rattle.std.proofs.lemmas.List.Splits.{length-slice_split}
use Rattle.pgr_numerals.specs.Numeral.{i64_of}
use Rattle.pgr_numerals.specs.NumeralList.{is_comma, all_of, i64_list_of}

-- as many values as there are places
pub length-all_of : {X : Type 0} (os : List (Option X)) (xs : List X) → all_of os ≡ Some xs → length xs ≡ length os
length-all_of [] xs e = let same : xs ≡ [] = cc in rw same refl
length-all_of (None ∷ os) xs e = cc
length-all_of {X} (Some x ∷ os) xs e = by (all_of os) (length-all_of os) refl e
  where
    by : (rest : Option (List X)) → ((ys : List X) → all_of os ≡ Some ys → length ys ≡ length os) → all_of os ≡ rest → option_map (λ ys. x ∷ ys) rest ≡ Some xs
        → length xs ≡ length (Some x ∷ os)
    by None later is f = cc
    by (Some ys) later is f = let more = later ys is in let same : xs ≡ x ∷ ys = cc in rw same (omega (arith, more))

-- a list has at least one number, and at most as many as may be
pub length-i64_list_of : (most : ℕ) (bytes : List ℕ) (numbers : List ℤ) → i64_list_of most bytes ≡ Some numbers → (0 < length numbers) × (length numbers ≤ most)
length-i64_list_of most bytes numbers = by (nat_le (length (slice_split is_comma bytes)) most) (leb-true (length (slice_split is_comma bytes)) most)
  where
    by : (b : Bool) → (b ≡ true → length (slice_split is_comma bytes) ≤ most)
        → (if b then all_of (map i64_of (slice_split is_comma bytes)) else None) ≡ Some numbers → (0 < length numbers) × (length numbers ≤ most)
    by true within e =
        let count = length-all_of (map i64_of (slice_split is_comma bytes)) numbers e in
        let places = length-map (slice_split is_comma bytes) i64_of in
        let some = length-slice_split is_comma bytes in
        let fits = within refl in
        (omega arith, omega arith)
    by false within e = cc
