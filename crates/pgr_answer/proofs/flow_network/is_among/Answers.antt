use Rattle.std.proofs.Common.{refl}
use Rattle.pgr_answer.proofs.RisingNumbers.{present, missing}
use Rattle.pgr_answer.proofs.flow_network.is_among.Goals as goal

pub returns-in-Ok : goal.returns-in-Ok
returns-in-Ok c = (λ yes. present c.args.numbers.now c.args.number c.in-Ok.field-0 c.requires c.in-Ok.ensures.position, λ there. refl)

pub returns-in-Err : goal.returns-in-Err
returns-in-Err c = (λ yes. absurd cc, λ there. absurd (missing c.args.numbers.now c.args.number c.in-Err.field-0 c.requires c.in-Err.ensures.position there))
