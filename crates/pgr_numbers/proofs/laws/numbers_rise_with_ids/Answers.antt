use Rattle.pgr_numbers.proofs.Order.{int_cmp-id_at, id_at_one_to_one}
use Rattle.pgr_numbers.proofs.laws.numbers_rise_with_ids.Goals as goal

pub returns-clause-order : goal.returns-clause-order
returns-clause-order c = λ names m n rise. int_cmp-id_at names rise m n

pub returns-clause-one : goal.returns-clause-one
returns-clause-one c = λ names m n rise. id_at_one_to_one names rise m n
