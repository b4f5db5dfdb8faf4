use Rattle.pgr_answer.proofs.ClassTables.{sorted_by_class}
use Rattle.pgr_answer.proofs.components.members_by_class.Goals as goal

pub returns : goal.returns
returns c = sorted_by_class c.args.classes.now c.args.size _ _ c.requires c.in_ok-members.ensures c.sort_unstable.ensures.permutation c.sort_unstable.ensures.sorted
