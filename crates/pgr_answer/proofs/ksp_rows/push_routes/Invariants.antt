use Rattle.std.proofs.Common.{◌≡◌, take, map}
use Rattle.std.specs.Prelude.{flat_map}
use Rattle.pgr_numbers.specs.Names.{named}
use Rattle.pgr_answer.specs.Ksp.{rows_of_path, numbered_paths}
use Rattle.pgr_answer.proofs.KspTables.{with_rows}
use Rattle.pgr_answer.proofs.ksp_rows.push_routes.Given as goal

-- behind the rows of before stand those of the routes so far
abbrev pub invariant-loop-i : goal.invariant-loop-i
invariant-loop-i l = l.rows.items ≡ with_rows l.initial.rows.items (flat_map rows_of_path (numbered_paths l.start l.end 1 (map (map (named l.names)) (take l.i l.routes))))
