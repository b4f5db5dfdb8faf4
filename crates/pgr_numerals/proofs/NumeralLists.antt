-- Lists of numbers read part by part: what one more part does.
use Rattle.std.proofs.Common.{◌≡◌, ℕ, ◌+◌, ◌<◌, ◌≤◌, Bool, true, false, List, [], ◌∷◌, ◌++◌, length, get_or, take, map, Option, Some, None, refl, sym, ap, ◌∙◌, arith, if◌then◌else◌, zero, suc, ℤ}
use Rattle.std.specs.Prelude.{nat_le, option_map, ◌==◌}
use Rattle.std.specs.List.{slice_split}
use Rattle.std.proofs.lemmas.Bool.{lt-leb, le-leb}
use Rattle.std.proofs.lemmas.List.{take_more, map-append, take_all, length_push}
use Rattle.pgr_numerals.specs.Numeral.{i64_of}
use Rattle.std.proofs.lemmas.List.Splits.{length-slice_split}
use Rattle.std.proofs.lemmas.List.Sums.{count_by-le-length}
use Rattle.pgr_numerals.specs.NumeralList.{is_comma, all_of, i64_list_of, numbers_of}

-- one more value
all_of-push : {X : Type 0} (os : List (Option X)) (xs : List X) (x : X) → all_of os ≡ Some xs → all_of (os ++ Some x ∷ []) ≡ Some (xs ++ x ∷ [])
all_of-push [] xs x e = let same : xs ≡ [] = cc in ap (λ ys. Some (ys ++ x ∷ [])) (sym same)
all_of-push (None ∷ os) xs x e = cc
all_of-push {X} (Some y ∷ os) xs x e = by (all_of os) (λ ys. all_of-push os ys x) refl e
  where
    by : (r : Option (List X)) → ((ys : List X) → all_of os ≡ Some ys → all_of (os ++ Some x ∷ []) ≡ Some (ys ++ x ∷ [])) → all_of os ≡ r
        → option_map (λ ys. y ∷ ys) r ≡ Some xs → option_map (λ ys. y ∷ ys) (all_of (os ++ Some x ∷ [])) ≡ Some (xs ++ x ∷ [])
    by None later is f = cc
    by (Some ys) later is f = let more = later ys is in let same : xs ≡ y ∷ ys = cc in rw (more, same) refl

-- a part without a value leaves none
all_of-none : {X Y : Type 0} (f : X → Option Y) (xs : List X) (n : ℕ) (d : X) → n < length xs → f (get_or xs n d) ≡ None → all_of (map f xs) ≡ None
all_of-none f [] n d h e = absurd (omega arith)
all_of-none {X} {Y} f (x ∷ xs) zero d h e = by (f x) e
  where
    by : (r : Option Y) → r ≡ None → all_of (r ∷ map f xs) ≡ None
    by None is = refl
    by (Some y) is = cc
all_of-none {X} {Y} f (x ∷ xs) (suc n) d h e = by (f x) (all_of-none f xs n d (omega arith) e)
  where
    by : (r : Option Y) → all_of (map f xs) ≡ None → all_of (r ∷ map f xs) ≡ None
    by None rest = refl
    by (Some y) rest = rw rest refl

-- the first parts are numbers, and no more than may be
pub record AreRead (most n : ℕ) (bytes : List ℕ) (numbers : List ℤ) : Type 0 where
  pub so_far : all_of (map i64_of (take n (slice_split is_comma bytes))) ≡ Some numbers
  pub count : length numbers ≡ n
  pub within : n ≤ most

-- none yet
pub none_read : (most : ℕ) (bytes : List ℕ) → AreRead most 0 bytes []
none_read most bytes = record { so_far = refl; count = refl; within = omega arith }

-- one more part
pub more_read : (most n : ℕ) (bytes : List ℕ) (numbers after : List ℤ) (part : List ℕ) (number : ℤ) → AreRead most n bytes numbers → n < most
    → (n < length (slice_split is_comma bytes)) × (part ≡ get_or (slice_split is_comma bytes) n part) → i64_of part ≡ Some number
    → after ≡ numbers ++ number ∷ [] → AreRead most (n + 1) bytes after
more_read most n bytes numbers after part number read room here is added =
    let parts = slice_split is_comma bytes in
    let is_read : i64_of (get_or parts n part) ≡ Some number = ap i64_of (sym here.1) ∙ is in
    let pieces = ap (map i64_of) (take_more parts n part here.0) ∙ map-append i64_of (take n parts) (get_or parts n part ∷ []) in
    record {
      so_far = ap all_of pieces ∙ rw (is_read, all_of-push (map i64_of (take n parts)) numbers number read.so_far, added) refl;
      count = omega (arith, read.count, ap length added, length_push numbers number);
      within = omega arith;
    }

-- a part that is no number
pub part_refused : (most n : ℕ) (bytes part : List ℕ) → (n < length (slice_split is_comma bytes)) × (part ≡ get_or (slice_split is_comma bytes) n part)
    → i64_of part ≡ None → i64_list_of most bytes ≡ None
part_refused most n bytes part here is = by (nat_le (length parts) most) (all_of-none i64_of parts n part here.0 (ap i64_of (sym here.1) ∙ is))
  where
    parts : List (List ℕ)
    parts = slice_split is_comma bytes

    by : (b : Bool) → all_of (map i64_of (slice_split is_comma bytes)) ≡ None → (if b then all_of (map i64_of (slice_split is_comma bytes)) else None) ≡ None
    by true none = none
    by false none = refl

-- a part beyond as many as may be
pub too_many : (most n : ℕ) (bytes : List ℕ) → n < length (slice_split is_comma bytes) → n ≡ most → i64_list_of most bytes ≡ None
too_many most n bytes inside full = rw (lt-leb (length (slice_split is_comma bytes)) most (omega arith)) refl

-- all parts
pub all_read : (most n : ℕ) (bytes : List ℕ) (numbers : List ℤ) → AreRead most n bytes numbers → n ≡ length (slice_split is_comma bytes) → i64_list_of most bytes ≡ Some numbers
all_read most n bytes numbers read whole =
    let parts = slice_split is_comma bytes in
    let fits = le-leb (length parts) most (omega (arith, read.within)) in
    let every = take_all n parts (omega arith) in
    rw fits (ap (λ ps. all_of (map i64_of ps)) (sym every) ∙ read.so_far)

-- a list never has more parts than bytes and one, so this many bound nothing
pub numbers-bounded : (bytes : List ℕ) → length bytes == 0 ≡ false → i64_list_of (length bytes + 1) bytes ≡ numbers_of bytes
numbers-bounded [] some = cc some
numbers-bounded (byte ∷ bytes) some =
    let parts = length-slice_split is_comma (byte ∷ bytes) in
    let few = count_by-le-length is_comma (byte ∷ bytes) in
    rw (le-leb (length (slice_split is_comma (byte ∷ bytes))) (length (byte ∷ bytes) + 1) (omega arith)) refl
