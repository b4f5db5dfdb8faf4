use Rattle.std.proofs.Common.{◌≡◌, ◌++◌}
use Rattle.std.specs.Prelude.{flat_map}
use Rattle.pgr_answer.specs.Contraction.{vertex_row}
use Rattle.pgr_answer.proofs.contraction.push_vertices.Given as goal

-- the rows of those so far were appended
abbrev pub invariant-loop-kept : goal.invariant-loop-kept
invariant-loop-kept l = l.rows.items ≡ l.fn.rows.items ++ flat_map vertex_row l.yielded
