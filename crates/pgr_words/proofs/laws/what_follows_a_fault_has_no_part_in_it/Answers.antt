use Rattle.pgr_words.proofs.FirstFaults.{command_behind-fault}
use Rattle.pgr_words.proofs.laws.what_follows_a_fault_has_no_part_in_it.Goals as goal

pub returns : goal.returns
returns c = command_behind-fault
