use Rattle.pgr_words.proofs.FieldsInForm.{in_form}
use Rattle.pgr_words.proofs.laws.fields_of_well_formed_commands_are_in_form.Goals as goal

pub returns : goal.returns
returns c = in_form
