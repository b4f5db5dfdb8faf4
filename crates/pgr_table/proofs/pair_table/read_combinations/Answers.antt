use Rattle.std.proofs.Common.{refl}
use Rattle.pgr_table.specs.Pairs.{pair_kind, pair_of, values_of_pair}
use Rattle.pgr_table.specs.Judging.{judged}
use Rattle.pgr_table.proofs.Verdicts.{verdict-rows}
use Rattle.pgr_table.proofs.pair_table.read_combinations.Goals as goal

pub returns : goal.returns
returns c = verdict-rows pair_of values_of_pair (λ row. refl) c.read_table.result (judged pair_kind c.args.bytes.now) c.read_table.ensures
