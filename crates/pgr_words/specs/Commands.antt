-- The command of some words: the defaults with the values of the given options, or the first fault.
use Rattle.std.specs.Prelude.{◌≡◌, ℕ, true, false, List, [], ◌∷◌, Option, Some, None, unwrap_or, Result, Ok, Err}
use Rattle.std.specs.List.{fold}
use Rattle.pgr_outside.specs.declared.side.Side.TheVariants.{B}
use Rattle.pgr_words.specs.declared.function.Function.{Function}
use Rattle.pgr_words.specs.declared.option.OptionName.{OptionName}
use Rattle.pgr_words.specs.declared.estimate.Heuristic.TheVariants.{H5}
use Rattle.pgr_words.specs.declared.command.Command.{Command}
use Rattle.pgr_words.specs.declared.fault.WordFault.{WordFault}
use Rattle.pgr_words.specs.declared.fault.WordFault.TheVariants.{NoFunction, UnknownFunction, MissingOption}
use Rattle.pgr_words.specs.declared.fault.WordsRefused.{WordsRefused}
use Rattle.pgr_words.specs.declared.fault.WordsRefused.TheVariants as refused
use Rattle.pgr_words.specs.Options.{with_value}
use Rattle.pgr_words.specs.Functions.{function_named}
use Rattle.pgr_words.specs.Words.{given, options_in, first_fault, first_missing}

-- the command of a function with no option given
abbrev pub defaults : Function → Command
defaults function = record {
  function = function;
  edges = [];
  points = None;
  restrictions = None;
  combinations = None;
  starts = [];
  ends = [];
  vids = [];
  forbidden = [];
  directed = true;
  details = false;
  equicost = false;
  driving_side = B;
  heuristic = H5;
  factor = record { over = 1; under = 1 };
  k = 0;
  max_cycles = 1;
  distance = 0;
  order = [];
}

-- the command with the value of a given option in its field
abbrev pub with_given : Command → OptionName × List ℕ → Command
with_given command (option, text) = unwrap_or (with_value command option text) command

-- the command of a function with the value of each given option in its field
abbrev pub command_with : Function → List (OptionName × List ℕ) → Command
command_with function givens = fold with_given (defaults function) givens

-- the command, unless there is a fault
abbrev pub unless : Option WordFault → Result Command WordFault → Result Command WordFault
unless (Some fault) command = Err fault
unless None command = command

-- a missing option is a fault
abbrev pub missing_fault : Option OptionName → Option WordFault
missing_fault (Some option) = Some (MissingOption option)
missing_fault None = None

-- the command of the words behind a function's name: the first word that breaks a rule is the fault, else the first option that is missing
abbrev pub command_behind : Function → List OptionName → List (List ℕ) → Result Command WordFault
command_behind function options words =
    unless (first_fault options [] words)
    (unless (missing_fault (first_missing options (options_in (given options words))))
    (Ok (command_with function (given options words))))

-- the same, where the first word may name no function
abbrev pub command_named : Option (Function × List OptionName) → List (List ℕ) → Result Command WordFault
command_named None words = Err UnknownFunction
command_named (Some (function, options)) words = command_behind function options words

-- the command of the words, or their first fault
abbrev pub command_of : List (List ℕ) → Result Command WordFault
command_of [] = Err NoFunction
command_of (word ∷ words) = command_named (function_named word) words

-- the answer is the command of the words or their first fault, unless memory was wanting
abbrev pub IsVerdict : Result Command WordsRefused → Result Command WordFault → Type 0
IsVerdict (Ok command) verdict = verdict ≡ Ok command
IsVerdict (Err (refused.Fault fault)) verdict = verdict ≡ Err fault
IsVerdict (Err refused.Memory) verdict = Unit {0}
