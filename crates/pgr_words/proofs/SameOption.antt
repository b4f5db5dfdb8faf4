-- Two options are one where they are called the same, and that carries over.
use Rattle.std.proofs.Common.{◌≡◌, Bool, true, false, ◌||◌, List, [], ◌∷◌, refl, ◌∙◌, Decides}
use Rattle.std.proofs.lemmas.Slice.Eq.{bytes_eq-Decides}
use Rattle.pgr_words.specs.declared.option.OptionName.{OptionName}
use Rattle.pgr_words.specs.Options.{name_of, is_same}
use Rattle.pgr_words.specs.Functions.{is_among}

pub is_same-Decides : (option other : OptionName) → Decides (is_same option other) (name_of option ≡ name_of other)
is_same-Decides option other = bytes_eq-Decides (name_of option) (name_of other)

-- an option is itself
pub is_same-refl : (option : OptionName) → is_same option option ≡ true
is_same-refl option = (is_same-Decides option option).1 refl

-- what is said of one of two is said of the other
pub is_same-along : (first option other : OptionName) → is_same option other ≡ true → is_same first option ≡ true → is_same first other ≡ true
is_same-along first option other same before =
    (is_same-Decides first other).1 ((is_same-Decides first option).0 before ∙ (is_same-Decides option other).0 same)

-- one of two is among some options where the other is
pub is_among-along : (options : List OptionName) (option other : OptionName) → is_same option other ≡ true → is_among options option ≡ true → is_among options other ≡ true
is_among-along [] option other same among = among
is_among-along (first ∷ options) option other same among = by (is_same first option) refl among (is_among-along options option other same)
  where
    or_later : (b : Bool) → is_among options other ≡ true → (b || is_among options other) ≡ true
    or_later true later = refl
    or_later false later = later

    by : (b : Bool)
        → is_same first option ≡ b
        → (b || is_among options option) ≡ true
        → (is_among options option ≡ true → is_among options other ≡ true)
        → (is_same first other || is_among options other) ≡ true
    by true here among later = rw (is_same-along first option other same here) refl
    by false here among later = or_later (is_same first other) (later among)
