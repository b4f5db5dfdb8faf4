use Rattle.std.proofs.Common.{arith}
use Rattle.pgr_contract.specs.State.{first_state}
use Rattle.pgr_contract.proofs.Sound.{first_sound, run_sound}
use Rattle.pgr_contract.proofs.RunFits.{links_fit}
use Rattle.pgr_contract.proofs.laws.runs_fit.Goals as goal

pub returns-clause-weight : goal.returns-clause-weight
returns-clause-weight c = λ directed forbidden methods links end opposites run.
    (run_sound directed links forbidden methods (first_state links) end (first_sound directed links opposites) run).lighter

pub returns-clause-fits : goal.returns-clause-fits
returns-clause-fits c = λ directed forbidden methods links end opposites light run.
    let sound = run_sound directed links forbidden methods (first_state links) end (first_sound directed links opposites) run in
    links_fit directed end.links sound.opposites (omega (arith, light, sound.lighter))
