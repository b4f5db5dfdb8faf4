-- The ends are the names, so there are few enough of them.
use Rattle.pgr_numbers.proofs.EndLemmas.{All-named}
use Rattle.pgr_numbers.proofs.names.Names.of_source.Goals as goal

pub returns-clause-named : goal.returns-clause-named
returns-clause-named g c = All-named _ c.in_ok-found.found.0.items c.in_ok-found.ensures.ends

pub invariant_of-result : goal.invariant_of-result
invariant_of-result g c = (c.in_ok-found.ensures.ends.rise, c.requires.few c.in_ok-found.found.0.items c.in_ok-found.ensures.ends, c.in_ok-found.ensures.numbers)
