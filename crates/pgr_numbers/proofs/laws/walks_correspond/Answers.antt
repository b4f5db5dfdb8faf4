use Rattle.pgr_numbers.proofs.Walks.{IsWalk-named, numbered_walk, one_numbered_walk}
use Rattle.pgr_numbers.proofs.laws.walks_correspond.Goals as goal

pub returns-clause-named : goal.returns-clause-named
returns-clause-named c = λ names links numbers s t walk numbered. IsWalk-named names links numbers numbered s t walk

pub returns-clause-numbered : goal.returns-clause-numbered
returns-clause-numbered c = λ names links numbers s t walk numbered. numbered_walk names links numbers numbered s t walk

pub returns-clause-one : goal.returns-clause-one
returns-clause-one c = λ names links numbers s t walk a b numbered. one_numbered_walk names links numbers numbered s t walk a b
