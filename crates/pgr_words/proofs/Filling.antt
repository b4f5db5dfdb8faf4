-- What a field that is filled leaves as it was.
use Rattle.std.proofs.Common.{◌≡◌, Option, Some, None, refl}
use Rattle.std.specs.Option.{option_map, unwrap_or}
use Rattle.pgr_words.specs.declared.command.Command.{Command}

-- what each value of a form keeps is kept by the text, in the form or not
pub field_keeps : {X : Type 0} (P : Command → Type 0) (found : Option X) (field : X → Command → Command)
    → ((x : X) → found ≡ Some x → (command : Command) → P command → P (field x command))
    → (command : Command)
    → P command
    → P (unwrap_or (option_map (λ fill. fill command) (option_map field found)) command)
field_keeps P None field keeps command kept = kept
field_keeps P (Some x) field keeps command kept = keeps x refl command kept
