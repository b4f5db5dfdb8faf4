use Rattle.pgr_contract.proofs.RunLogs.{run_survivors}
use Rattle.pgr_contract.proofs.laws.runs_leave_what_nothing_holds.Goals as goal

pub returns : goal.returns
returns c = run_survivors
