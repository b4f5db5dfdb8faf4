use Rattle.std.proofs.Common.{refl}
use Rattle.pgr_table.specs.Capacities.{capacity_kind, capacity_of, values_of_capacity}
use Rattle.pgr_table.specs.Judging.{judged}
use Rattle.pgr_table.proofs.Verdicts.{verdict-rows}
use Rattle.pgr_table.proofs.capacity_table.read_capacities.Goals as goal

pub returns : goal.returns
returns c = verdict-rows capacity_of values_of_capacity (λ row. refl) c.read_table.result (judged capacity_kind c.args.bytes.now) c.read_table.ensures
