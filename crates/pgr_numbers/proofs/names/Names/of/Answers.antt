use Rattle.pgr_numbers.proofs.names.Names.of.Goals as goal

pub returns-clause-named : goal.returns-clause-named
returns-clause-named c = rw c.of.ensures.links at c.of_source.ensures.named
