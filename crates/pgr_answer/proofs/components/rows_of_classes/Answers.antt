use Rattle.std.proofs.lemmas.Result.{IfOk-weaker}
use Rattle.pgr_answer.proofs.ClassTables.{members_among}
use Rattle.pgr_answer.proofs.components.rows_of_classes.Goals as goal

pub rows_of_members-requires : goal.rows_of_members-requires
rows_of_members-requires c = rw c.as_slice.ensures.value (members_among _ _ _ c.requires.size c.requires.among c.in_ok-members.ensures)

pub returns : goal.returns
returns c = IfOk-weaker c.rows_of_members.result _ _
    (λ rows are. (c.in_ok-members.members.items, c.in_ok-members.ensures, rw c.as_slice.ensures.value at are)) c.rows_of_members.ensures
