-- A command that is being read: what it holds after some words.
use Rattle.std.specs.Prelude.{◌≡◌, ℕ, ◌+◌, List, [], ◌∷◌, ◌++◌, length, Some, None, Result, Ok, Err}
use Rattle.pgr_words.specs.declared.function.Function.{Function}
use Rattle.pgr_words.specs.declared.option.OptionName.{OptionName}
use Rattle.pgr_words.specs.declared.draft.Draft.{Draft}
use Rattle.pgr_words.specs.declared.fault.WordFault.{WordFault}
use Rattle.pgr_words.specs.declared.fault.WordsRefused.{WordsRefused}
use Rattle.pgr_words.specs.declared.fault.WordsRefused.TheVariants as refused
use Rattle.pgr_words.specs.Words.{given_by, given, options_in, setting_in, fault_at, option_fault, word_fault}
use Rattle.pgr_words.specs.Commands.{command_with}

-- the draft holds what the words behind the function's name give: the command of their values, and which options stood
pub record IsDraft (function : Function) (options : List OptionName) (words : List (List ℕ)) (draft : Draft) : Type 0 where
  pub fields : draft.command ≡ command_with function (given options words)
  pub stood : draft.stood.items ≡ options_in (given options words)

-- where the draft holds what the words before gave, this word breaks no rule, and the draft then holds what it gives too
abbrev pub Takes : List OptionName → ℕ → List ℕ → Draft → Draft → Type 0
Takes options place word old new = (function : Function) (before : List (List ℕ))
    → length before + 2 ≡ place
    → IsDraft function options before old
    → (word_fault options before word ≡ None) × IsDraft function options (before ++ word ∷ []) new

-- where the draft holds what the words before gave, this is the first rule that the word breaks
abbrev pub Faults : List OptionName → ℕ → List ℕ → Draft → WordFault → Type 0
Faults options place word old fault = (function : Function) (before : List (List ℕ))
    → length before + 2 ≡ place
    → IsDraft function options before old
    → word_fault options before word ≡ Some fault

-- what a refusal says of a word: its fault, and nothing where memory was wanting
abbrev pub IsFaultOf : (WordFault → Type 0) → WordsRefused → Type 0
IsFaultOf P (refused.Fault fault) = P fault
IsFaultOf P refused.Memory = Unit {0}

-- the answer is the option that a word gives and its value, or the rule that the word breaks whatever options stood before
abbrev pub Gives : {X : Type 0} → (X → OptionName × List ℕ) → List OptionName → ℕ → List ℕ → Result X WordFault → Type 0
Gives view options place word (Ok x) = (given_by options word ≡ Some (view x))
    × ((before : List OptionName) → fault_at options before place (setting_in word) ≡ option_fault before (view x))
Gives view options place word (Err fault) = (before : List OptionName) → fault_at options before place (setting_in word) ≡ Some fault
