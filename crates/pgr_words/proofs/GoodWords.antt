-- Words that break no rule: each option that they give is one of the function's, with a value in its form.
use Rattle.std.proofs.Common.{◌≡◌, ℕ, ◌+◌, Bool, true, false, ◌||◌, cond, if◌then◌else◌, List, [], ◌∷◌, ◌++◌, length, find, Option, Some, None, refl, subst, append_assoc, append-nil}
use Rattle.std.specs.Option.{option_map, option_and_then}
use Rattle.std.specs.List.{All}
use Rattle.std.specs.Str.{bytes_eq}
use Rattle.std.proofs.lemmas.List.Elements.{filter_map-append, All-push}
use Rattle.pgr_words.specs.declared.option.OptionName.{OptionName}
use Rattle.pgr_words.specs.declared.fault.WordFault.{WordFault}
use Rattle.pgr_words.specs.declared.fault.WordFault.TheVariants.{RepeatedOption, BadValue}
use Rattle.pgr_words.specs.Options.{name_of, is_same, is_in_form}
use Rattle.pgr_words.specs.Functions.{option_named, is_among}
use Rattle.pgr_words.specs.Words.{setting_in, given_by, given, options_in, setting_fault, fault_at, word_fault, or_fault, first_fault}
use Rattle.pgr_words.specs.WellFormed.{IsGoodOption}
use Rattle.pgr_words.proofs.SameOption.{is_same-refl}

-- an option that is found by what it is called is among those that are looked through
found_in : (name : List ℕ) (options : List OptionName) (option : OptionName)
    → find (λ o. bytes_eq (name_of o) name) options ≡ Some option
    → is_among options option ≡ true
found_in name [] option e = cc
found_in name (first ∷ options) option e = by (bytes_eq (name_of first) name) (found_in name options option) e
  where
    by_or : (b : Bool) → is_among options option ≡ true → (b || is_among options option) ≡ true
    by_or true h = refl
    by_or false h = h

    by : (b : Bool)
        → (find (λ o. bytes_eq (name_of o) name) options ≡ Some option → is_among options option ≡ true)
        → cond b (Some first) (find (λ o. bytes_eq (name_of o) name) options) ≡ Some option
        → (is_same first option || is_among options option) ≡ true
    by true later f = let here : first ≡ option = cc in let same = is_same-refl option in rw (here, same) refl
    by false later f = by_or (is_same first option) (later f)

-- a good word gives a good option
good_word : (options : List OptionName) (stood : List OptionName) (place : ℕ) (word : List ℕ) (g : OptionName × List ℕ)
    → fault_at options stood place (setting_in word) ≡ None
    → given_by options word ≡ Some g
    → IsGoodOption options g
good_word options stood place word g = by (setting_in word)
  where
    by_form : (option : OptionName) (text : List ℕ) (among form : Bool)
        → (if among then Some (RepeatedOption option) else (if form then None else Some (BadValue option))) ≡ None
        → form ≡ true
    by_form option text true form none = cc
    by_form option text false true none = refl
    by_form option text false false none = cc

    by_option : (setting : List ℕ × List ℕ) (found : Option OptionName)
        → option_named options setting.0 ≡ found
        → setting_fault stood place setting.1 found ≡ None
        → option_map (λ option. (option, setting.1)) found ≡ Some g
        → IsGoodOption options g
    by_option setting None is none f = cc
    by_option setting (Some option) is none f =
        let same : (option, setting.1) ≡ g = cc in
        subst (IsGoodOption options) same (record {
          in_form = by_form option setting.1 (is_among stood option) (is_in_form option setting.1) none;
          taken = found_in setting.0 options option is;
        })

    by : (found : Option (List ℕ × List ℕ))
        → fault_at options stood place found ≡ None
        → option_and_then (λ setting. option_map (λ option. (option, setting.1)) (option_named options setting.0)) found ≡ Some g
        → IsGoodOption options g
    by None none f = cc
    by (Some setting) none f = by_option setting (option_named options setting.0) refl none f

-- no fault first, and none after it
no_faults : (fault later : Option WordFault) → or_fault fault later ≡ None → (fault ≡ None) × (later ≡ None)
no_faults None later e = (refl, e)
no_faults (Some fault) later e = cc

-- words without a fault give good options
pub good_words : (options : List OptionName) (words before : List (List ℕ))
    → first_fault options before words ≡ None
    → All (IsGoodOption options) (given options before)
    → All (IsGoodOption options) (given options (before ++ words))
good_words options [] before none good = rw append-nil good
good_words options (word ∷ words) before none good =
    let both = no_faults (word_fault options before word) (first_fault options (before ++ word ∷ []) words) none in
    let more = good_words options words (before ++ word ∷ []) both.1 (by (given_by options word) refl both.0) in
    subst (λ ws. All (IsGoodOption options) (given options ws)) (append_assoc before (word ∷ []) words) more
  where
    by : (found : Option (OptionName × List ℕ))
        → given_by options word ≡ found
        → word_fault options before word ≡ None
        → All (IsGoodOption options) (given options (before ++ word ∷ []))
    by None is no_fault =
        rw (filter_map-append (given_by options) before (word ∷ []), is, append-nil (given options before)) good
    by (Some g) is no_fault =
        rw (filter_map-append (given_by options) before (word ∷ []), is)
        (All-push (IsGoodOption options) (given options before) g good (good_word options (options_in (given options before)) (length before + 2) word g no_fault is))
