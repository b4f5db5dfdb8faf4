-- The words behind a function's name: which option each gives, which rule it breaks, and which needed option none gives.
use Rattle.std.specs.Prelude.{ℕ, ◌+◌, Bool, true, false, not, ◌&&◌, if◌then◌else◌, ◌==◌, nat_eq, List, [], ◌∷◌, ◌++◌, length, drop, map, codes, find, Option, Some, None, option_map, option_and_then}
use Rattle.std.specs.List.{list_any, starts_with, before_first, after_first, filter_map}
use Rattle.pgr_words.specs.declared.option.Need.{Need}
use Rattle.pgr_words.specs.declared.option.Need.TheVariants.{Always, WithoutCombinations, Never}
use Rattle.pgr_words.specs.declared.option.OptionName.{OptionName}
use Rattle.pgr_words.specs.declared.option.OptionName.TheVariants.{Combinations}
use Rattle.pgr_words.specs.declared.fault.WordFault.{WordFault}
use Rattle.pgr_words.specs.declared.fault.WordFault.TheVariants.{BadWord, UnknownOption, RepeatedOption, BadValue}
use Rattle.pgr_words.specs.Options.{rule_of, is_in_form}
use Rattle.pgr_words.specs.Functions.{option_named, is_among}

-- a byte is an equals sign
abbrev pub is_equals : ℕ → Bool
is_equals byte = byte == 61

-- a name and a value: what stands before the first equals sign, and all that follows it
abbrev pub setting_of : List ℕ → Option (List ℕ × List ℕ)
setting_of text = if list_any is_equals text then Some (before_first is_equals text, after_first is_equals text) else None

-- the name and the value of a word that begins with two hyphens and has an equals sign behind them
abbrev pub setting_in : List ℕ → Option (List ℕ × List ℕ)
setting_in word = if starts_with nat_eq word (codes "--") then setting_of (drop 2 word) else None

-- the one of the options that a word gives, and the value that it gives it
abbrev pub given_by : List OptionName → List ℕ → Option (OptionName × List ℕ)
given_by options word = option_and_then (λ setting. option_map (λ option. (option, setting.1)) (option_named options setting.0)) (setting_in word)

-- those of the options that the words give, with their values
abbrev pub given : List OptionName → List (List ℕ) → List (OptionName × List ℕ)
given options words = filter_map (given_by options) words

-- the options among some given ones
abbrev pub options_in : List (OptionName × List ℕ) → List OptionName
options_in = map (λ g. g.0)

-- the rule that a given option breaks: it stood before, or its value isn't in its form
abbrev pub option_fault : List OptionName → OptionName × List ℕ → Option WordFault
option_fault before (option, value) = if is_among before option then Some (RepeatedOption option) else (if is_in_form option value then None else Some (BadValue option))

-- the rule that a word with a name and a value breaks: the function has no such option, or the rule of that option
abbrev pub setting_fault : List OptionName → ℕ → List ℕ → Option OptionName → Option WordFault
setting_fault before place value None = Some (UnknownOption place)
setting_fault before place value (Some option) = option_fault before (option, value)

-- the first rule that a word at this place breaks, where these options stood before it
abbrev pub fault_at : List OptionName → List OptionName → ℕ → Option (List ℕ × List ℕ) → Option WordFault
fault_at options before place None = Some (BadWord place)
fault_at options before place (Some setting) = setting_fault before place setting.1 (option_named options setting.0)

-- the first rule that a word breaks behind the words before it; the function's name is the first word
abbrev pub word_fault : List OptionName → List (List ℕ) → List ℕ → Option WordFault
word_fault options before word = fault_at options (options_in (given options before)) (length before + 2) (setting_in word)

-- the first of two faults
abbrev pub or_fault : Option WordFault → Option WordFault → Option WordFault
or_fault (Some fault) later = Some fault
or_fault None later = later

-- the fault of the first of the words that breaks a rule, each behind all words before it
abbrev pub first_fault : List OptionName → List (List ℕ) → List (List ℕ) → Option WordFault
first_fault options before [] = None
first_fault options before (word ∷ words) = or_fault (word_fault options before word) (first_fault options (before ++ word ∷ []) words)

-- an option with this need is needed beside those that are given
abbrev pub is_needed : List OptionName → Need → Bool
is_needed stood Always = true
is_needed stood WithoutCombinations = not (is_among stood Combinations)
is_needed stood Never = false

-- the first of the options that is needed beside those that are given, and isn't among them
abbrev pub first_missing : List OptionName → List OptionName → Option OptionName
first_missing options stood = find (λ option. is_needed stood (rule_of option).need && not (is_among stood option)) options
