use Rattle.pgr_words.proofs.FirstFaults.{none_exactly, some_is_first}
use Rattle.pgr_words.proofs.laws.the_first_fault_is_that_of_the_first_bad_word.Goals as goal

pub returns-clause-none : goal.returns-clause-none
returns-clause-none c = none_exactly

pub returns-clause-some : goal.returns-clause-some
returns-clause-some c = some_is_first
