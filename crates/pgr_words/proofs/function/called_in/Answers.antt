-- What is found among rows is what is looked up under their names.
use Rattle.std.proofs.Common.{◌≡◌, ℕ, Bool, true, false, List, [], ◌∷◌, map, find, option_map, refl, ap, ◌∙◌}
use Rattle.std.specs.Map.{lookup}
use Rattle.std.specs.Str.{bytes_eq}
use Rattle.std.specs.Prelude.{Option, Some, cond}
use Rattle.pgr_words.specs.declared.function.Function.{Function}
use Rattle.pgr_words.specs.declared.function.Called.{Called}
use Rattle.pgr_words.specs.declared.option.OptionName.{OptionName}
use Rattle.pgr_words.specs.Functions.{row_of}
use Rattle.pgr_words.proofs.function.called_in.Goals as goal

-- what a row says of its function
abbrev said : Option Called → Option (Function × List OptionName)
said = option_map (λ row. (row_of row).1)

looked_up : (name : List ℕ) (table : List Called) → said (find (λ row. bytes_eq name row.name.now) table) ≡ lookup (bytes_eq name) (map row_of table)
looked_up name [] = refl
looked_up name (row ∷ table) = by (bytes_eq name row.name.now) _ _ (looked_up name table)
  where
    by : (b : Bool) (found : Option Called) (sought : Option (Function × List OptionName))
        → said found ≡ sought
        → said (cond b (Some row) found) ≡ cond b (Some (row_of row).1) sought
    by true found sought later = refl
    by false found sought later = later

pub returns-in_err-row : goal.returns-in_err-row
returns-in_err-row c = rw c.from_residual.ensures (ap said c.in_err-row.ensures ∙ looked_up c.args.name.now c.args.table.now)

pub returns : goal.returns
returns c = ap said c.in_ok-row.ensures ∙ looked_up c.args.name.now c.args.table.now
