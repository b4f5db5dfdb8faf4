use Rattle.std.proofs.Common.{arith}
use Rattle.pgr_numbers.proofs.EndLemmas.{length_names}
use Rattle.pgr_numbers.proofs.laws.names_are_few.Goals as goal

pub returns-clause-twice : goal.returns-clause-twice
returns-clause-twice c = length_names c.args.links.now

pub returns-clause-few : goal.returns-clause-few
returns-clause-few c = λ short names ends. omega (arith, length_names c.args.links.now names ends)
