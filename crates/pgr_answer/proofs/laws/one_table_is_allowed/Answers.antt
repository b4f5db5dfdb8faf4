use Rattle.pgr_answer.proofs.OneTable.{one_is_allowed, one_list_of_notes}
use Rattle.pgr_answer.proofs.KnownContents.{one_are_contents, one_answers}
use Rattle.pgr_answer.proofs.laws.one_table_is_allowed.Goals as goal

pub returns-clause-rows : goal.returns-clause-rows
returns-clause-rows c = one_is_allowed

pub returns-clause-notes : goal.returns-clause-notes
returns-clause-notes c = one_list_of_notes

pub returns-clause-contents : goal.returns-clause-contents
returns-clause-contents c = one_are_contents

pub returns-clause-answers : goal.returns-clause-answers
returns-clause-answers c = one_answers
