-- The options, as data: of each its name, when it is needed, the form of its value, and the field that the value fills.
use Rattle.std.specs.Prelude.{ℕ, Bool, List, codes, Option, Some, option_map, is_some}
use Rattle.std.specs.Str.{bytes_eq}
use Rattle.pgr_words.specs.declared.command.Command.{Command}
use Rattle.pgr_words.specs.declared.option.Need.{Need}
use Rattle.pgr_words.specs.declared.option.Need.TheVariants.{Always, WithoutCombinations, Never}
use Rattle.pgr_words.specs.declared.option.OptionName.{OptionName}
use Rattle.pgr_words.specs.declared.option.OptionName.TheVariants as option
use Rattle.pgr_words.specs.Forms.{file_name, ids, flag, side, distance, count, order, heuristic, factor}

-- an option: its name without the two hyphens, when it is needed, and what a text makes of a command, or none where the text isn't in the option's form
pub record OptionRule : Type 0 where
  pub name : List ℕ
  pub need : Need
  pub fill : List ℕ → Option (Command → Command)

-- the value of a text in this form stands in this field
abbrev pub into : {X : Type 0} → (List ℕ → Option X) → (X → Command → Command) → List ℕ → Option (Command → Command)
into form field text = option_map field (form text)

-- each option
abbrev pub rule_of : OptionName → OptionRule
rule_of option.Edges = record {
  name = codes "edges";
  need = Always;
  fill = into file_name (λ name command. record command { edges = name });
}
rule_of option.Points = record {
  name = codes "points";
  need = Always;
  fill = into file_name (λ name command. record command { points = Some name });
}
rule_of option.Restrictions = record {
  name = codes "restrictions";
  need = Always;
  fill = into file_name (λ name command. record command { restrictions = Some name });
}
rule_of option.Combinations = record {
  name = codes "combinations";
  need = Never;
  fill = into file_name (λ name command. record command { combinations = Some name });
}
rule_of option.Start = record {
  name = codes "start";
  need = WithoutCombinations;
  fill = into ids (λ list command. record command { starts = list });
}
rule_of option.End = record {
  name = codes "end";
  need = WithoutCombinations;
  fill = into ids (λ list command. record command { ends = list });
}
rule_of option.Vids = record {
  name = codes "vids";
  need = Always;
  fill = into ids (λ list command. record command { vids = list });
}
rule_of option.Directed = record {
  name = codes "directed";
  need = Never;
  fill = into flag (λ is_directed command. record command { directed = is_directed });
}
rule_of option.DrivingSide = record {
  name = codes "driving_side";
  need = Never;
  fill = into side (λ on_side command. record command { driving_side = on_side });
}
rule_of option.Details = record {
  name = codes "details";
  need = Never;
  fill = into flag (λ is_detailed command. record command { details = is_detailed });
}
rule_of option.Distance = record {
  name = codes "distance";
  need = Always;
  fill = into distance (λ number command. record command { distance = number });
}
rule_of option.Equicost = record {
  name = codes "equicost";
  need = Never;
  fill = into flag (λ is_equicost command. record command { equicost = is_equicost });
}
rule_of option.K = record {
  name = codes "K";
  need = Always;
  fill = into count (λ number command. record command { k = number });
}
rule_of option.Order = record {
  name = codes "order";
  need = Always;
  fill = into order (λ methods command. record command { order = methods });
}
rule_of option.MaxCycles = record {
  name = codes "max_cycles";
  need = Never;
  fill = into count (λ number command. record command { max_cycles = number });
}
rule_of option.Forbidden = record {
  name = codes "forbidden";
  need = Never;
  fill = into ids (λ list command. record command { forbidden = list });
}
rule_of option.Heuristic = record {
  name = codes "heuristic";
  need = Never;
  fill = into heuristic (λ chosen command. record command { heuristic = chosen });
}
rule_of option.Factor = record {
  name = codes "factor";
  need = Never;
  fill = into factor (λ fraction command. record command { factor = fraction });
}

-- what an option is called, without its two hyphens
abbrev pub name_of : OptionName → List ℕ
name_of option = (rule_of option).name

-- the two are one option: they are called the same
abbrev pub is_same : OptionName → OptionName → Bool
is_same option other = bytes_eq (name_of option) (name_of other)

-- the text is in the option's form
abbrev pub is_in_form : OptionName → List ℕ → Bool
is_in_form option text = is_some ((rule_of option).fill text)

-- the command with the value of an option in its field, if the text is in the option's form
abbrev pub with_value : Command → OptionName → List ℕ → Option Command
with_value command option text = option_map (λ fill. fill command) ((rule_of option).fill text)
