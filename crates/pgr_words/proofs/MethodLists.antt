-- Orders read part by part: what one more part does.
use Rattle.std.proofs.Common.{◌≡◌, ℕ, ◌+◌, ◌<◌, ◌≤◌, Bool, true, false, List, [], ◌∷◌, ◌++◌, length, get_or, take, map, Option, Some, None, refl, sym, ap, ◌∙◌, arith, if◌then◌else◌, zero, suc}
use Rattle.std.specs.Prelude.{nat_le, option_map}
use Rattle.std.specs.List.{slice_split}
use Rattle.std.proofs.lemmas.Bool.{lt-leb, le-leb}
use Rattle.std.proofs.lemmas.List.{take_more, map-append, take_all, length_push}
use Rattle.pgr_numerals.specs.NumeralList.{is_comma, all_of}
use Rattle.pgr_words.specs.declared.method.Method.{Method}
use Rattle.pgr_words.specs.Forms.{method, order}

-- one more value
all_of-push : {X : Type 0} (os : List (Option X)) (xs : List X) (x : X) → all_of os ≡ Some xs → all_of (os ++ Some x ∷ []) ≡ Some (xs ++ x ∷ [])
all_of-push [] xs x e = let same : xs ≡ [] = cc in ap (λ ys. Some (ys ++ x ∷ [])) (sym same)
all_of-push (None ∷ os) xs x e = cc
all_of-push {X} (Some y ∷ os) xs x e = by (all_of os) (λ ys. all_of-push os ys x) refl e
  where
    by : (r : Option (List X)) → ((ys : List X) → all_of os ≡ Some ys → all_of (os ++ Some x ∷ []) ≡ Some (ys ++ x ∷ [])) → all_of os ≡ r
        → option_map (λ ys. y ∷ ys) r ≡ Some xs → option_map (λ ys. y ∷ ys) (all_of (os ++ Some x ∷ [])) ≡ Some (xs ++ x ∷ [])
    by None later is f = cc
    by (Some ys) later is f = let more = later ys is in let same : xs ≡ y ∷ ys = cc in rw (more, same) refl

-- a part without a value leaves none
all_of-none : {X Y : Type 0} (f : X → Option Y) (xs : List X) (n : ℕ) (d : X) → n < length xs → f (get_or xs n d) ≡ None → all_of (map f xs) ≡ None
all_of-none f [] n d h e = absurd (omega arith)
all_of-none {X} {Y} f (x ∷ xs) zero d h e = by (f x) e
  where
    by : (r : Option Y) → r ≡ None → all_of (r ∷ map f xs) ≡ None
    by None is = refl
    by (Some y) is = cc
all_of-none {X} {Y} f (x ∷ xs) (suc n) d h e = by (f x) (all_of-none f xs n d (omega arith) e)
  where
    by : (r : Option Y) → all_of (map f xs) ≡ None → all_of (r ∷ map f xs) ≡ None
    by None rest = refl
    by (Some y) rest = rw rest refl

-- the first parts are methods, and no more than may be
pub record AreRead (n : ℕ) (text : List ℕ) (methods : List Method) : Type 0 where
  pub so_far : all_of (map method (take n (slice_split is_comma text))) ≡ Some methods
  pub count : length methods ≡ n
  pub within : n ≤ 64

-- none yet
pub none_read : (text : List ℕ) → AreRead 0 text []
none_read text = record { so_far = refl; count = refl; within = omega arith }

-- one more part
pub more_read : (n : ℕ) (text : List ℕ) (methods after : List Method) (part : List ℕ) (next : Method) → AreRead n text methods → n < 64
    → (n < length (slice_split is_comma text)) × (part ≡ get_or (slice_split is_comma text) n part) → method part ≡ Some next
    → after ≡ methods ++ next ∷ [] → AreRead (n + 1) text after
more_read n text methods after part next read room here is added =
    let parts = slice_split is_comma text in
    let is_read : method (get_or parts n part) ≡ Some next = ap method (sym here.1) ∙ is in
    let pieces = ap (map method) (take_more parts n part here.0) ∙ map-append method (take n parts) (get_or parts n part ∷ []) in
    record {
      so_far = ap all_of pieces ∙ rw (is_read, all_of-push (map method (take n parts)) methods next read.so_far, added) refl;
      count = omega (arith, read.count, ap length added, length_push methods next);
      within = omega arith;
    }

-- a part that is no method
pub part_refused : (n : ℕ) (text part : List ℕ) → (n < length (slice_split is_comma text)) × (part ≡ get_or (slice_split is_comma text) n part)
    → method part ≡ None → order text ≡ None
part_refused n text part here is =
    by (nat_le (length (slice_split is_comma text)) 64) (all_of-none method (slice_split is_comma text) n part here.0 (ap method (sym here.1) ∙ is))
  where
    by : (b : Bool) → all_of (map method (slice_split is_comma text)) ≡ None → (if b then all_of (map method (slice_split is_comma text)) else None) ≡ None
    by true none = none
    by false none = refl

-- a part beyond as many as may be
pub too_many : (n : ℕ) (text : List ℕ) → n < length (slice_split is_comma text) → n ≡ 64 → order text ≡ None
too_many n text inside full = rw (lt-leb (length (slice_split is_comma text)) 64 (omega arith)) refl

-- all parts
pub all_read : (n : ℕ) (text : List ℕ) (methods : List Method) → AreRead n text methods → n ≡ length (slice_split is_comma text) → order text ≡ Some methods
all_read n text methods read whole =
    let parts = slice_split is_comma text in
    let fits = le-leb (length parts) 64 (omega (arith, read.within)) in
    let every = take_all n parts (omega arith) in
    rw fits (ap (λ ps. all_of (map method ps)) (sym every) ∙ read.so_far)
