use Rattle.std.proofs.Common.{refl}
use Rattle.pgr_table.specs.Restrictions.{restriction_kind, restriction_of, values_of_restriction}
use Rattle.pgr_table.specs.Judging.{judged}
use Rattle.pgr_table.proofs.Verdicts.{verdict-rows}
use Rattle.pgr_table.proofs.restriction_table.read_restrictions.Goals as goal

pub returns : goal.returns
returns c = verdict-rows restriction_of values_of_restriction (λ row. refl) c.read_table.result (judged restriction_kind c.args.bytes.now) c.read_table.ensures
