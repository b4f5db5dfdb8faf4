use Rattle.std.proofs.Common.{◌≡◌, take}
use Rattle.pgr_answer.proofs.PathTables.{with_path}
use Rattle.pgr_answer.proofs.path_rows.push_path.Given as goal

-- behind the rows of before stand those of the steps so far
abbrev pub invariant-loop-i : goal.invariant-loop-i
invariant-loop-i l = l.rows.items ≡ with_path l.initial.rows.items l.start l.end (take l.i l.steps)
