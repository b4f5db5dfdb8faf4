-- The first fault is that of a word before which every word is good, whatever stands behind it, and there is none exactly where every word is good.
use Rattle.std.proofs.Common.{◌≡◌, ◌↔◌, ℕ, List, [], ◌∷◌, ◌++◌, Option, Some, None, Err, refl, ap, ◌∙◌, append_assoc, append-nil}
use Rattle.pgr_words.specs.Functions.{function_named}
use Rattle.pgr_words.specs.declared.function.Function.{Function}
use Rattle.pgr_words.specs.declared.option.OptionName.{OptionName}
use Rattle.pgr_words.specs.declared.fault.WordFault.{WordFault}
use Rattle.pgr_words.specs.Words.{word_fault, or_fault, first_fault}
use Rattle.pgr_words.specs.Commands.{command_of}
use Rattle.pgr_words.specs.FirstFault as law

-- each of the words breaks no rule behind the front and all words before it
abbrev AreGoodBehind : List OptionName → List (List ℕ) → List (List ℕ) → Type 0
AreGoodBehind options front words = (before after : List (List ℕ)) (word : List ℕ) → words ≡ before ++ word ∷ after → word_fault options (front ++ before) word ≡ None

-- the fault is that of one of the words behind a front, and all words before that are good
record IsFirstFaultBehind (options : List OptionName) (front words : List (List ℕ)) (fault : WordFault) : Type 0 where
  before : List (List ℕ)
  word : List ℕ
  after : List (List ℕ)
  split : words ≡ before ++ word ∷ after
  good : AreGoodBehind options front before
  breaks : word_fault options (front ++ before) word ≡ Some fault

-- of no words each is good
none_in : (options : List OptionName) (front before after : List (List ℕ)) (word : List ℕ) → [] ≡ before ++ word ∷ after → word_fault options (front ++ before) word ≡ None
none_in options front [] after word split = cc
none_in options front (w ∷ before) after word split = cc

-- where a good word comes first, and good words follow it, all are good
good_cons : (options : List OptionName) (front words : List (List ℕ)) (word : List ℕ)
    → word_fault options (front ++ []) word ≡ None
    → AreGoodBehind options (front ++ word ∷ []) words
    → AreGoodBehind options front (word ∷ words)
good_cons options front words word first rest [] after other split = let same : other ≡ word = cc in rw same first
good_cons options front words word first rest (w ∷ before) after other split =
    let same : w ≡ word = cc in
    let behind : words ≡ before ++ other ∷ after = cc in
    rw (same, ← append_assoc front (word ∷ []) before) (rest before after other behind)

-- the same word behind nothing more
at_front : (options : List OptionName) (front : List (List ℕ)) (word : List ℕ) (found : Option WordFault)
    → word_fault options front word ≡ found
    → word_fault options (front ++ []) word ≡ found
at_front options front word found is = rw (append-nil front) is

-- there is no fault only where all words are good
first_fault-None : (options : List OptionName) (front words : List (List ℕ)) → first_fault options front words ≡ None → AreGoodBehind options front words
first_fault-None options front [] none = λ before after word split. none_in options front before after word split
first_fault-None options front (word ∷ words) none = by (word_fault options front word) refl none (first_fault-None options (front ++ word ∷ []) words)
  where
    by : (found : Option WordFault)
        → word_fault options front word ≡ found
        → or_fault found (first_fault options (front ++ word ∷ []) words) ≡ None
        → (first_fault options (front ++ word ∷ []) words ≡ None → AreGoodBehind options (front ++ word ∷ []) words)
        → AreGoodBehind options front (word ∷ words)
    by None is e later = good_cons options front words word (at_front options front word None is) (later e)
    by (Some fault) is e later = cc

-- a fault is that of the first word that isn't good
first_fault-Some : (options : List OptionName) (front words : List (List ℕ)) (fault : WordFault)
    → first_fault options front words ≡ Some fault
    → IsFirstFaultBehind options front words fault
first_fault-Some options front [] fault e = cc
first_fault-Some options front (word ∷ words) fault e = by (word_fault options front word) refl e (first_fault-Some options (front ++ word ∷ []) words fault)
  where
    by : (found : Option WordFault)
        → word_fault options front word ≡ found
        → or_fault found (first_fault options (front ++ word ∷ []) words) ≡ Some fault
        → (first_fault options (front ++ word ∷ []) words ≡ Some fault → IsFirstFaultBehind options (front ++ word ∷ []) words fault)
        → IsFirstFaultBehind options front (word ∷ words) fault
    by None is f later =
        let first = later f in
        record {
          before = word ∷ first.before;
          word = first.word;
          after = first.after;
          split = ap (λ ws. word ∷ ws) first.split;
          good = good_cons options front first.before word (at_front options front word None is) first.good;
          breaks = rw (← append_assoc front (word ∷ []) first.before) first.breaks;
        }
    by (Some other) is f later =
        let same : Some other ≡ Some fault = f in
        record {
          before = [];
          word = word;
          after = words;
          split = refl;
          good = λ before after w split. none_in options front before after w split;
          breaks = at_front options front word (Some fault) (is ∙ same);
        }

-- ---- the other way round

-- a word that is good, and what follows it
after_good : (found later : Option WordFault) → found ≡ None → or_fault found later ≡ later
after_good found later is = rw is refl

-- where all words are good there is no fault
good-first_fault : (options : List OptionName) (front words : List (List ℕ)) → AreGoodBehind options front words → first_fault options front words ≡ None
good-first_fault options front [] good = refl
good-first_fault options front (word ∷ words) good =
    after_good (word_fault options front word) (first_fault options (front ++ word ∷ []) words) (rw (← append-nil front) (good [] words word refl))
    ∙ good-first_fault options (front ++ word ∷ []) words (λ before after other split.
    rw (append_assoc front (word ∷ []) before) (good (word ∷ before) after other (ap (λ ws. word ∷ ws) split)))

-- the fault of a word behind good words is the first, whatever follows it
first_fault-behind : (options : List OptionName) (front before after : List (List ℕ)) (word : List ℕ) (fault : WordFault)
    → AreGoodBehind options front before
    → word_fault options (front ++ before) word ≡ Some fault
    → first_fault options front (before ++ word ∷ after) ≡ Some fault
first_fault-behind options front [] after word fault good breaks =
    let is : word_fault options front word ≡ Some fault = rw (← append-nil front) breaks in
    rw is refl
first_fault-behind options front (w ∷ before) after word fault good breaks =
    after_good (word_fault options front w) (first_fault options (front ++ w ∷ []) (before ++ word ∷ after)) (rw (← append-nil front) (good [] before w refl))
    ∙ first_fault-behind options (front ++ w ∷ []) before after word fault
    (λ b a other split. rw (append_assoc front (w ∷ []) b) (good (w ∷ b) a other (ap (λ ws. w ∷ ws) split)))
    (rw (append_assoc front (w ∷ []) before) breaks)

-- ---- behind no front

pub none_exactly : (options : List OptionName) (words : List (List ℕ)) → (first_fault options [] words ≡ None) ↔ law.AreGood options words
none_exactly options words = (first_fault-None options [] words, good-first_fault options [] words)

pub some_is_first : (options : List OptionName) (words : List (List ℕ)) (fault : WordFault) → first_fault options [] words ≡ Some fault → law.IsFirstFault options words fault
some_is_first options words fault is =
    let first = first_fault-Some options [] words fault is in
    record {
      before = first.before;
      word = first.word;
      after = first.after;
      split = first.split;
      good = first.good;
      breaks = first.breaks;
    }

pub command_behind-fault : (function : Function) (options : List OptionName) (name word : List ℕ) (before after : List (List ℕ)) (fault : WordFault)
    → function_named name ≡ Some (function, options)
    → law.AreGood options before
    → word_fault options before word ≡ Some fault
    → command_of (name ∷ before ++ word ∷ after) ≡ Err fault
command_behind-fault function options name word before after fault named good breaks =
    let first : first_fault options [] (before ++ word ∷ after) ≡ Some fault = first_fault-behind options [] before after word fault good breaks in
    rw (named, first) refl
