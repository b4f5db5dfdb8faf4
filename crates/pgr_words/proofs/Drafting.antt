-- A draft that takes one word more: what the word's option adds to what the words before it gave.
use Rattle.std.proofs.Common.{◌≡◌, ℕ, ◌+◌, true, false, List, [], ◌∷◌, ◌++◌, length, Option, Some, None, refl, sym, ap, ◌∙◌, subst}
use Rattle.std.specs.Option.{option_map, is_some}
use Rattle.std.specs.List.{cons_option}
use Rattle.std.proofs.lemmas.List.{map-append}
use Rattle.std.proofs.lemmas.List.Elements.{filter_map-append}
use Rattle.std.proofs.lemmas.List.Sums.{fold-append}
use Rattle.pgr_words.specs.declared.function.Function.{Function}
use Rattle.pgr_words.specs.declared.option.OptionName.{OptionName}
use Rattle.pgr_words.specs.declared.command.Command.{Command}
use Rattle.pgr_words.specs.declared.draft.Draft.{Draft}
use Rattle.pgr_words.specs.declared.fault.WordFault.TheVariants.{RepeatedOption, BadValue}
use Rattle.pgr_words.specs.Options.{rule_of, is_in_form, with_value}
use Rattle.pgr_words.specs.Functions.{is_among}
use Rattle.pgr_words.specs.Words.{setting_in, given_by, given, options_in, option_fault, fault_at, word_fault}
use Rattle.pgr_words.specs.Commands.{defaults, with_given, command_with}
use Rattle.pgr_words.specs.Drafts.{IsDraft}

-- ---- a word more

-- the given options with those of one word more
pub given-push : (options : List OptionName) (before : List (List ℕ)) (word : List ℕ) (g : OptionName × List ℕ)
    → given_by options word ≡ Some g
    → given options (before ++ word ∷ []) ≡ given options before ++ g ∷ []
given-push options before word g e =
    filter_map-append (given_by options) before (word ∷ []) ∙ ap (λ found. given options before ++ cons_option found []) e

-- the options with that of one word more
pub options_in-push : (givens : List (OptionName × List ℕ)) (g : OptionName × List ℕ) → options_in (givens ++ g ∷ []) ≡ options_in givens ++ g.0 ∷ []
options_in-push givens g = map-append (λ g. g.0) givens (g ∷ [])

-- ---- setting a field

-- a value in its option's form fills the field
pub with_value-Some : (command : Command) (option : OptionName) (text : List ℕ) (after : Command)
    → with_value command option text ≡ Some after
    → (is_in_form option text ≡ true) × (after ≡ with_given command (option, text))
with_value-Some command option text after = by ((rule_of option).fill text) refl
  where
    by : (found : Option (Command → Command))
        → (rule_of option).fill text ≡ found
        → option_map (λ fill. fill command) found ≡ Some after
        → (is_some ((rule_of option).fill text) ≡ true) × (after ≡ with_given command (option, text))
    by None is e = cc
    by (Some fill) is e = let same : fill command ≡ after = cc in (rw is refl, rw is (sym same))

-- one out of its form makes no command
pub with_value-None : (command : Command) (option : OptionName) (text : List ℕ)
    → with_value command option text ≡ None
    → is_in_form option text ≡ false
with_value-None command option text = by ((rule_of option).fill text)
  where
    by : (found : Option (Command → Command)) → option_map (λ fill. fill command) found ≡ None → is_some found ≡ false
    by None e = refl
    by (Some fill) e = cc

-- ---- what a word does to a draft

-- the word gives this option with this text, if no rule of its first two is broken
abbrev pub GivesOption : List OptionName → ℕ → List ℕ → OptionName → List ℕ → Type 0
GivesOption options place word option text = (given_by options word ≡ Some (option, text))
    × ((stood : List OptionName) → fault_at options stood place (setting_in word) ≡ option_fault stood (option, text))

-- the rule that it breaks is that of its option
fault_is : (options : List OptionName) (place : ℕ) (word : List ℕ) (option : OptionName) (text : List ℕ) (before : List (List ℕ))
    → GivesOption options place word option text
    → length before + 2 ≡ place
    → word_fault options before word ≡ option_fault (options_in (given options before)) (option, text)
fault_is options place word option text before gives at_place =
    ap (λ p. fault_at options (options_in (given options before)) p (setting_in word)) at_place ∙ gives.1 (options_in (given options before))

-- an option that stood
pub is_repeated : (options : List OptionName) (place : ℕ) (word : List ℕ) (option : OptionName) (text : List ℕ) (old : Draft)
    → GivesOption options place word option text
    → is_among old.stood.items option ≡ true
    → (function : Function) (before : List (List ℕ))
    → length before + 2 ≡ place
    → IsDraft function options before old
    → word_fault options before word ≡ Some (RepeatedOption option)
is_repeated options place word option text old gives among function before at_place draft =
    let stood : is_among (options_in (given options before)) option ≡ true = subst (λ stood. is_among stood option ≡ true) draft.stood among in
    fault_is options place word option text before gives at_place ∙ rw stood refl

-- a value out of its form
pub is_bad : (options : List OptionName) (place : ℕ) (word : List ℕ) (option : OptionName) (text : List ℕ) (old : Draft)
    → GivesOption options place word option text
    → is_among old.stood.items option ≡ false
    → with_value old.command option text ≡ None
    → (function : Function) (before : List (List ℕ))
    → length before + 2 ≡ place
    → IsDraft function options before old
    → word_fault options before word ≡ Some (BadValue option)
is_bad options place word option text old gives new none function before at_place draft =
    let stood : is_among (options_in (given options before)) option ≡ false = subst (λ stood. is_among stood option ≡ false) draft.stood new in
    let bad = with_value-None old.command option text none in
    fault_is options place word option text before gives at_place ∙ rw (stood, bad) refl

-- a good word
pub is_taken : (options : List OptionName) (place : ℕ) (word : List ℕ) (option : OptionName) (text : List ℕ) (old after : Draft)
    → GivesOption options place word option text
    → is_among old.stood.items option ≡ false
    → with_value old.command option text ≡ Some after.command
    → after.stood.items ≡ old.stood.items ++ option ∷ []
    → (function : Function) (before : List (List ℕ))
    → length before + 2 ≡ place
    → IsDraft function options before old
    → (word_fault options before word ≡ None) × IsDraft function options (before ++ word ∷ []) after
is_taken options place word option text old after gives new set pushed function before at_place draft =
    let givens = given options before in
    let stood : is_among (options_in givens) option ≡ false = subst (λ stood. is_among stood option ≡ false) draft.stood new in
    let made = with_value-Some old.command option text after.command set in
    let more = given-push options before word (option, text) gives.0 in
    let filled = ap (λ command. with_given command (option, text)) draft.fields ∙ sym (fold-append with_given (defaults function) givens ((option, text) ∷ [])) in (
      fault_is options place word option text before gives at_place ∙ rw (stood, made.0) refl,
      record {
        fields = made.1 ∙ filled ∙ ap (command_with function) (sym more);
        stood = pushed ∙ ap (λ stood. stood ++ option ∷ []) draft.stood ∙ sym (options_in-push givens (option, text)) ∙ ap options_in (sym more);
      },
    )
