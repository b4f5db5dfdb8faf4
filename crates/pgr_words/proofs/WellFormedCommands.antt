-- The command of words is well formed.
use Rattle.std.proofs.Common.{◌≡◌, ℕ, List, [], ◌∷◌, Option, Some, None, Result, Ok, Err, IfOk, refl, sym, ap, ◌∙◌, subst}
use Rattle.std.specs.List.{fold}
use Rattle.std.proofs.lemmas.List.Elements.{All-nil}
use Rattle.pgr_words.specs.declared.function.Function.{Function}
use Rattle.pgr_words.specs.declared.option.OptionName.{OptionName}
use Rattle.pgr_words.specs.declared.option.OptionName.TheVariants as option
use Rattle.pgr_words.specs.declared.command.Command.{Command}
use Rattle.pgr_words.specs.declared.fault.WordFault.{WordFault}
use Rattle.pgr_words.specs.declared.fault.WordsRefused.{WordsRefused}
use Rattle.pgr_words.specs.Functions.{function_named}
use Rattle.pgr_words.specs.Words.{given, options_in, first_fault, first_missing}
use Rattle.pgr_words.specs.Commands.{defaults, with_given, command_with, unless, missing_fault, command_behind, IsVerdict}
use Rattle.pgr_words.specs.WellFormed.{IsGoodOption, IsWellFormed}
use Rattle.pgr_words.proofs.Filling.{field_keeps}
use Rattle.pgr_words.proofs.GoodWords.{good_words}

-- ---- the function of a command

-- no option fills it
with_given-function : (command : Command) (option : OptionName) (text : List ℕ) → (with_given command (option, text)).function ≡ command.function
with_given-function command option.Edges text = field_keeps (λ c. c.function ≡ command.function) _ _ (λ x is c same. same) command refl
with_given-function command _ text = field_keeps (λ c. c.function ≡ command.function) _ _ (λ x is c same. same) command refl

fold-function : (command : Command) (givens : List (OptionName × List ℕ)) → (fold with_given command givens).function ≡ command.function
fold-function command [] = refl
fold-function command (g ∷ givens) = fold-function (with_given command g) givens ∙ with_given-function command g.0 g.1

-- ---- a command that is the verdict

-- a missing option is a fault
none_of : (found : Option OptionName) → missing_fault found ≡ None → found ≡ None
none_of None e = refl
none_of (Some option) e = cc

-- a command is the verdict where there is no fault
no_fault_in : (fault : Option WordFault) (rest : Result Command WordFault) (command : Command) → unless fault rest ≡ Ok command → (fault ≡ None) × (rest ≡ Ok command)
no_fault_in None rest command e = (refl, e)
no_fault_in (Some fault) rest command e = cc

-- the command of words without a fault
well_formed_with : (name : List ℕ) (function : Function) (options : List OptionName) (words : List (List ℕ))
    → function_named name ≡ Some (function, options)
    → first_fault options [] words ≡ None
    → missing_fault (first_missing options (options_in (given options words))) ≡ None
    → IsWellFormed (command_with function (given options words))
well_formed_with name function options words named no_fault no_missing =
    let givens = given options words in
    let is = fold-function (defaults function) givens in
    record {
      name = name;
      options = options;
      function = named ∙ ap (λ f. Some (f, options)) (sym is);
      given = givens;
      fields = ap (λ f. command_with f givens) (sym is);
      good = good_words options words [] no_fault (All-nil (IsGoodOption options));
      complete = none_of _ no_missing;
    }

pub well_formed_behind : (name : List ℕ) (function : Function) (options : List OptionName) (words : List (List ℕ)) (answer : Result Command WordsRefused)
    → function_named name ≡ Some (function, options)
    → IsVerdict answer (command_behind function options words)
    → IfOk answer IsWellFormed
well_formed_behind name function options words (Ok command) named verdict =
    let givens = given options words in
    let made = command_with function givens in
    let missing = missing_fault (first_missing options (options_in givens)) in
    let first = no_fault_in (first_fault options [] words) (unless missing (Ok made)) command verdict in
    let second = no_fault_in missing (Ok made) command first.1 in
    let same : made ≡ command = cc in
    subst IsWellFormed same (well_formed_with name function options words named first.0 second.0)
well_formed_behind name function options words (Err why) named verdict = tt
