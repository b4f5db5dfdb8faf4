-- The columns of a header: where they stand, and the value that a record has there.
use Rattle.std.proofs.Common.{◌≡◌, ℕ, zero, suc, ◌+◌, ◌<◌, Bool, true, false, List, [], ◌∷◌, ◌++◌, length, map, drop, Option, Some, None, refl, sym, ap, ◌∙◌, arith, slice_get, append-nil}
use Rattle.std.specs.Prelude.{bytes_eq, is_none, is_some, option_and_then, not}
use Rattle.std.specs.Option.{option_map_or, option_to_list}
use Rattle.csv.specs.Records.{field_at}
use Rattle.pgr_table.specs.declared.kind.Rule.{Rule}
use Rattle.pgr_table.specs.declared.found.Found.{Found}
use Rattle.pgr_table.specs.declared.fault.TableFault.TheVariants.{MissingColumn, RepeatedColumn}
use Rattle.pgr_table.specs.Kinds.{value_of}
use Rattle.pgr_table.specs.Judging.{places_from, fault_at, value_at, value_in, rules_of, found_in}

-- the field at a place, in the words of std
pub field_at-slice_get : (fields : List (List ℕ)) (place : ℕ) → field_at fields place ≡ slice_get fields place
unfolding field_at
field_at-slice_get [] place = refl
field_at-slice_get (field ∷ fields) zero = refl
field_at-slice_get (field ∷ fields) (suc place) = field_at-slice_get fields place

-- the value of a column that stands at a place is that of the field there
pub value_in-found : (fields : List (List ℕ)) (column : Found) (place : ℕ) (field : Option (List ℕ)) → column.place ≡ Some place → field_at fields place ≡ field
    → value_in fields column ≡ option_and_then (value_of column.rule.grammar) field
value_in-found fields column place field e f = ap (value_at column.rule fields) e ∙ ap (option_and_then (value_of column.rule.grammar)) (sym (field_at-slice_get fields place) ∙ f)

-- whether the field at a place is there and is this
abbrev pub is_field : List (List ℕ) → ℕ → List ℕ → Bool
is_field fields place name = option_map_or (λ field. bytes_eq field name) (field_at fields place) false

-- the places from a field on that has the name, and from one that hasn't
places-named : (name : List ℕ) (header : List (List ℕ)) (start place : ℕ) → place < length header → is_field header place name ≡ true
    → places_from start name (drop place header) ≡ start ∷ places_from (start + 1) name (drop (suc place) header)
unfolding field_at
places-named name [] start place h e = absurd (omega arith)
places-named name (field ∷ header) start zero h e = rw e refl
places-named name (field ∷ header) start (suc place) h e = places-named name header start place (omega arith) e

places-other : (name : List ℕ) (header : List (List ℕ)) (start place : ℕ) → place < length header → is_field header place name ≡ false
    → places_from start name (drop place header) ≡ places_from (start + 1) name (drop (suc place) header)
unfolding field_at
places-other name [] start place h e = absurd (omega arith)
places-other name (field ∷ header) start zero h e = rw e refl
places-other name (field ∷ header) start (suc place) h e = places-other name header start place (omega arith) e

-- the places of a name are the one found so far, and those from a place on
abbrev pub AreFound : List ℕ → List (List ℕ) → Option ℕ → ℕ → Type 0
AreFound name header found place = places_from 0 name header ≡ option_to_list found ++ places_from place name (drop place header)

-- one more place
pub found-first : (name : List ℕ) (header : List (List ℕ)) (found : Option ℕ) (place : ℕ) → place < length header → is_field header place name ≡ true
    → is_some found ≡ false → AreFound name header found place → AreFound name header (Some place) (place + 1)
found-first name header None place h e n found = let one : suc place ≡ place + 1 = omega arith in found ∙ (places-named name header place place h e ∙ ap
    (λ (n : ℕ). place ∷ places_from (place + 1) name (drop n header)) one)
found-first name header (Some first) place h e n found = cc n

pub found-other : (name : List ℕ) (header : List (List ℕ)) (found : Option ℕ) (place : ℕ) → place < length header → is_field header place name ≡ false
    → AreFound name header found place → AreFound name header found (place + 1)
found-other name header found place h e so_far = let one : suc place ≡ place + 1 = omega arith in so_far ∙ (ap (λ (l : List ℕ). option_to_list found ++ l)
    (places-other name header place place h e ∙ ap (λ (n : ℕ). places_from (place + 1) name (drop n header)) one))

-- a second place is a fault
pub found-twice : (rule : Rule) (name : List ℕ) (header : List (List ℕ)) (found : Option ℕ) (place : ℕ) → place < length header
    → is_field header place name ≡ true → AreFound name header found place → is_some found ≡ true
    → fault_at rule (places_from 0 name header) ≡ Some (RepeatedColumn rule.column)
found-twice rule name header None place h e so_far there = cc there
found-twice rule name header (Some first) place h e so_far there = ap (fault_at rule) (so_far ∙ ap (λ (l : List ℕ). first ∷ l) (places-named name header place place h e))

-- all places
found-all : (name : List ℕ) (header : List (List ℕ)) (found : Option ℕ) (place : ℕ) → place ≡ length header → AreFound name header found place
    → places_from 0 name header ≡ option_to_list found
found-all name header found place e so_far = so_far ∙ (ap (λ (l : List (List ℕ)). option_to_list found ++ places_from place name l) (drop-all header place e) ∙
    append-nil (option_to_list found))
  where
    drop-all : (l : List (List ℕ)) (n : ℕ) → n ≡ length l → drop n l ≡ []
    drop-all [] zero h = refl
    drop-all [] (suc n) h = refl
    drop-all (x ∷ xs) zero h = absurd (omega arith)
    drop-all (x ∷ xs) (suc n) h = drop-all xs n (omega arith)

pub found-place : (name : List ℕ) (header : List (List ℕ)) (found : Option ℕ) (place : ℕ) → place ≡ length header → AreFound name header found place
    → slice_get (places_from 0 name header) 0 ≡ found
found-place name header found place e so_far = ap (λ (l : List ℕ). slice_get l 0) (found-all name header found place e so_far) ∙ by found
  where
    by : (o : Option ℕ) → slice_get (option_to_list o) 0 ≡ o
    by None = refl
    by (Some first) = refl

pub found-missing : (rule : Rule) (name : List ℕ) (header : List (List ℕ)) (found : Option ℕ) (place : ℕ) → place ≡ length header
    → AreFound name header found place → is_none found ≡ true → rule.required ≡ true
    → fault_at rule (places_from 0 name header) ≡ Some (MissingColumn rule.column)
found-missing rule name header None place e so_far n a = ap (fault_at rule) (found-all name header None place e so_far) ∙ rw a refl
found-missing rule name header (Some first) place e so_far n a = cc n

pub found-good : (rule : Rule) (name : List ℕ) (header : List (List ℕ)) (found : Option ℕ) (place : ℕ) → place ≡ length header
    → AreFound name header found place → (is_none found ≡ true → rule.required ≡ false)
    → fault_at rule (places_from 0 name header) ≡ None
found-good rule name header None place e so_far a = ap (fault_at rule) (found-all name header None place e so_far) ∙ rw (a refl) refl
found-good rule name header (Some first) place e so_far a = ap (fault_at rule) (found-all name header (Some first) place e so_far)

-- what `is_none` answers
pub is_none-result : {X : Type 0} (o : Option X) (r : Bool) → is_some o ≡ not r → is_none o ≡ r
is_none-result o true e = rw e refl
is_none-result o false e = rw e refl

-- the rules of the columns that were found are those of the kind
pub rules_of-found : (header : List (List ℕ)) (kind : List Rule) → rules_of (map (found_in header) kind) ≡ kind
rules_of-found header [] = refl
rules_of-found header (rule ∷ kind) = ap (λ (l : List Rule). rule ∷ l) (rules_of-found header kind)
