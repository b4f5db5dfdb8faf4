use Rattle.std.proofs.Common.{arith}
use Rattle.pgr_numbers.specs.Slots.{links_in}
use Rattle.pgr_numbers.proofs.EndLemmas.{length_names}
use Rattle.pgr_numbers.proofs.Slots.{length-links_in}
use Rattle.pgr_numbers.proofs.laws.names_of_source_are_few.Goals as goal

pub returns-clause-twice : goal.returns-clause-twice
returns-clause-twice g c = λ names ends.
    let slots = g.S.LinkSource.slots c.args.source.now in
    omega (arith, length_names (links_in slots) names ends, length-links_in slots)

pub returns-clause-few : goal.returns-clause-few
returns-clause-few g c = λ short names ends.
    let slots = g.S.LinkSource.slots c.args.source.now in
    omega (arith, length_names (links_in slots) names ends, length-links_in slots)
