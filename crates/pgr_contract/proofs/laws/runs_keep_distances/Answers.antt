use Rattle.pgr_contract.specs.State.{first_state}
use Rattle.pgr_contract.proofs.RunKeeps.{run_keeps, distances_kept}
use Rattle.pgr_contract.proofs.laws.runs_keep_distances.Goals as goal

pub returns : goal.returns
returns c = λ directed forbidden methods links end opposites run.
    distances_kept directed (first_state links) end (run_keeps directed forbidden methods (first_state links) end opposites run)
