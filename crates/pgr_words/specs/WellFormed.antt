-- Well-formed commands: the defaults, with a value in its form in the field of each given option, and each needed option given.
use Rattle.std.specs.Prelude.{◌≡◌, ℕ, ◌<◌, ◌≤◌, true, false, List, [], length, ℤ, Some, None, IfSome}
use Rattle.std.specs.Ordering.{int_cmp}
use Rattle.std.specs.List.{All}
use Rattle.pgr_outside.specs.Lists.{IsStrictlyRising}
use Rattle.pgr_words.specs.declared.option.OptionName.{OptionName}
use Rattle.pgr_words.specs.declared.option.OptionName.TheVariants as option
use Rattle.pgr_words.specs.declared.command.Command.{Command}
use Rattle.pgr_words.specs.Options.{is_in_form}
use Rattle.pgr_words.specs.Functions.{function_named, is_among}
use Rattle.pgr_words.specs.declared.estimate.Heuristic.TheVariants.{H5}
use Rattle.pgr_words.specs.Factors.{IsFactor}
use Rattle.pgr_words.specs.Forms.{most_name_bytes, most_ids, most_distance}
use Rattle.pgr_words.specs.Words.{options_in, first_missing}
use Rattle.pgr_words.specs.Commands.{command_with}

-- a given option is one of the function's, and its text is in the option's form
pub record IsGoodOption (options : List OptionName) (g : OptionName × List ℕ) : Type 0 where
  pub in_form : is_in_form g.0 g.1 ≡ true
  pub taken : is_among options g.0 ≡ true

-- the command is that of some good options of its function, with each needed one among them
pub record IsWellFormed (command : Command) : Type 0 where
  pub name : List ℕ
  pub options : List OptionName
  pub function : function_named name ≡ Some (command.function, options)
  pub given : List (OptionName × List ℕ)
  pub fields : command ≡ command_with command.function given
  pub good : All (IsGoodOption options) given
  pub complete : first_missing options (options_in given) ≡ None

-- a file name has 1 to 4,096 bytes
abbrev pub IsFileName : List ℕ → Type 0
IsFileName name = (0 < length name) × (length name ≤ most_name_bytes)

-- a list of ids is strictly rising, and has at most 65,536 of them
pub record AreIds (list : List ℤ) : Type 0 where
  pub rises : IsStrictlyRising int_cmp list
  pub at_most : length list ≤ most_ids

-- what the fields of a well-formed command are, where its function has these options
pub record AreInForm (options : List OptionName) (command : Command) : Type 0 where
  pub edges : IsFileName command.edges
  pub combinations : IfSome command.combinations IsFileName
  pub starts : AreIds command.starts
  pub ends : AreIds command.ends
  pub vids : AreIds command.vids
  pub distance : command.distance ≤ most_distance
  pub factor : IsFactor command.factor
  -- what the function needs is there
  pub starts_needed : is_among options option.Start ≡ true → command.combinations ≡ None → 0 < length command.starts
  pub ends_needed : is_among options option.End ≡ true → command.combinations ≡ None → 0 < length command.ends
  pub vids_needed : is_among options option.Vids ≡ true → 0 < length command.vids
  -- what it hasn't stands at its default
  pub combinations_unused : is_among options option.Combinations ≡ false → command.combinations ≡ None
  pub starts_unused : is_among options option.Start ≡ false → command.starts ≡ []
  pub ends_unused : is_among options option.End ≡ false → command.ends ≡ []
  pub vids_unused : is_among options option.Vids ≡ false → command.vids ≡ []
  pub directed_unused : is_among options option.Directed ≡ false → command.directed ≡ true
  pub distance_unused : is_among options option.Distance ≡ false → command.distance ≡ 0
  pub equicost_unused : is_among options option.Equicost ≡ false → command.equicost ≡ false
  pub heuristic_unused : is_among options option.Heuristic ≡ false → command.heuristic ≡ H5
  pub factor_unused : is_among options option.Factor ≡ false → command.factor ≡ record { over = 1; under = 1 }
