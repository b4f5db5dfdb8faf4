use Rattle.pgr_walks.proofs.BackWalks.{cost_of-read_backwards, hops_of-read_backwards, read_backwards-twice}
use Rattle.pgr_walks.proofs.laws.backward_walks_cost_the_same.Goals as goal

pub returns-clause-cost : goal.returns-clause-cost
returns-clause-cost c = λ walk. cost_of-read_backwards walk

pub returns-clause-hops : goal.returns-clause-hops
returns-clause-hops c = λ walk. hops_of-read_backwards walk

pub returns-clause-twice : goal.returns-clause-twice
returns-clause-twice c = λ walk. read_backwards-twice walk
