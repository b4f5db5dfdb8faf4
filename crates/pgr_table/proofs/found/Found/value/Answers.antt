use Rattle.std.proofs.Common.{sym}
use Rattle.csv.specs.Records.{fields_of}
use Rattle.pgr_table.proofs.HeaderFacts.{value_in-found}
use Rattle.pgr_table.proofs.found.Found.value.Goals as goal

pub returns-in_default-get : goal.returns-in_default-get
returns-in_default-get c = sym (value_in-found (fields_of c.args.fields.now) c.args.self.now _ _ c.in-Some.is (sym c.in_default-get.ensures.value))

pub returns : goal.returns
returns c = rw (value_in-found (fields_of c.args.fields.now) c.args.self.now _ _ c.in-Some.is (sym c.in-Some-get.ensures.value)) c.read-2.ensures
