use Rattle.pgr_numbers.proofs.Walks.{IsLeast-named, none_named}
use Rattle.pgr_numbers.proofs.laws.least_walk_by_numbers_is_least_by_ids.Goals as goal

pub returns-clause-least : goal.returns-clause-least
returns-clause-least c = λ names links numbers s t walk numbered. IsLeast-named names links numbers numbered s t walk

pub returns-clause-none : goal.returns-clause-none
returns-clause-none c = λ names links numbers s t numbered. none_named names links numbers numbered s t
