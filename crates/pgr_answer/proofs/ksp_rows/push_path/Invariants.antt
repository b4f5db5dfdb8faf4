use Rattle.std.proofs.Common.{◌≡◌, [], take}
use Rattle.pgr_answer.specs.Ksp.{ksp_rows}
use Rattle.pgr_answer.proofs.KspTables.{with_rows}
use Rattle.pgr_answer.proofs.ksp_rows.push_path.Given as goal

-- behind the rows of before stand those of the steps so far
abbrev pub invariant-loop-i : goal.invariant-loop-i
invariant-loop-i l = l.rows.items ≡ with_rows l.initial.rows.items (ksp_rows (record { start = l.start; end = l.end; id = l.id; walk = [] }) 1 (take l.i l.steps))
