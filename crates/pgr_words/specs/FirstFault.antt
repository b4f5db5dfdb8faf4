-- The first fault, said of the whole list of words behind a function's name.
use Rattle.std.specs.Prelude.{◌≡◌, ℕ, List, ◌∷◌, ◌++◌, Some, None}
use Rattle.pgr_words.specs.declared.option.OptionName.{OptionName}
use Rattle.pgr_words.specs.declared.fault.WordFault.{WordFault}
use Rattle.pgr_words.specs.Words.{word_fault}

-- each of the words breaks no rule behind all words before it
abbrev pub AreGood : List OptionName → List (List ℕ) → Type 0
AreGood options words = (before after : List (List ℕ)) (word : List ℕ) → words ≡ before ++ word ∷ after → word_fault options before word ≡ None

-- the fault is that of one of the words, and all words before that are good
pub record IsFirstFault (options : List OptionName) (words : List (List ℕ)) (fault : WordFault) : Type 0 where
  pub before : List (List ℕ)
  pub word : List ℕ
  pub after : List (List ℕ)
  pub split : words ≡ before ++ word ∷ after
  pub good : AreGood options before
  pub breaks : word_fault options before word ≡ Some fault
