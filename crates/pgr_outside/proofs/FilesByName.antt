-- Files by their names: what a look-up gives, and what a read gives of a file.
use Rattle.std.proofs.Common.{◌≡◌, ◌≢◌, ℕ, suc, zero, ◌-◌, ◌≤◌, ◌<◌, min, true, false, List, [], ◌∷◌, length, take, drop, map, Contains, Option, Some, None, IfSome, arith, ap, sym, refl, ◌∙◌}
use Rattle.std.specs.Str.{bytes_eq}
use Rattle.std.proofs.lemmas.Bool.{false_from_ne_true}
use Rattle.std.proofs.lemmas.Slice.Eq.{bytes_eq-Decides}
use Rattle.pgr_outside.specs.Files.{File, HasDistinctNames, content_of}
use Rattle.pgr_outside.specs.Store.{ReadsAt}

-- the first file has the name
content_of-here : (file : File) (files : List File) (name : List ℕ) → file.0 ≡ name → content_of (file ∷ files) name ≡ Some file.1
content_of-here file files name same =
    let found : bytes_eq file.0 name ≡ true = (bytes_eq-Decides file.0 name).1 same in
    rw found

-- the first file has another name
content_of-past : (file : File) (files : List File) (name : List ℕ) → file.0 ≢ name → content_of (file ∷ files) name ≡ content_of files name
content_of-past file files name other =
    let passed : bytes_eq file.0 name ≡ false = false_from_ne_true _ (λ found. other ((bytes_eq-Decides file.0 name).0 found)) in
    rw passed

-- each file is found under its name
pub content_of-Contains : (files : List File) (name bytes : List ℕ) → HasDistinctNames files → Contains files (name, bytes) → content_of files name ≡ Some bytes
content_of-Contains [] name bytes distinct (k, within, _) = absurd (omega (arith, within))
content_of-Contains (file ∷ files) name bytes distinct (zero, _, is) =
    content_of-here file files name (ap (λ f. f.0) is) ∙ ap (λ f. Some f.1) is
content_of-Contains (file ∷ files) name bytes distinct (suc k, within, is) =
    let later : k < length files = omega (arith, within) in
    let other : file.0 ≢ name = λ same. distinct 0 (suc k) (name, bytes) (omega arith) within (same ∙ ap (λ f. f.0) (sym is)) in
    content_of-past file files name other
    ∙ content_of-Contains files name bytes (λ i j d before inside. distinct (suc i) (suc j) d (omega (arith, before)) (omega (arith, inside))) (k, later, is)

-- no other name is found
pub content_of-absent : (files : List File) (name : List ℕ) → (¬ Contains (map (λ file. file.0) files) name) → content_of files name ≡ None
content_of-absent [] name absent = refl
content_of-absent (file ∷ files) name absent =
    content_of-past file files name (λ same. absent (0, omega arith, same))
    ∙ content_of-absent files name (λ later. absent (suc later.0, omega (arith, later.1), later.2))

-- a copy of as many bytes as there are, as the buffer takes and as may be, is a read at the place
pub ReadsAt-copy : (found : Option (List ℕ)) (content before after : List ℕ) (at most count : ℕ) → found ≡ Some content → 1 ≤ most
    → count ≡ min most (min (length before) (length content - at)) → take count after ≡ take count (drop at content) → length after ≡ length before
    → IfSome found (λ told. ReadsAt told at after count)
ReadsAt-copy found content before after at most count is_found some is_count copied same_len =
    rw is_found
    (record {
      within = omega arith;
      bytes = copied;
      ended = λ none room. omega arith;
    })
