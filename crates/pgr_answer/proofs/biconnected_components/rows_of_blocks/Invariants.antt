use Rattle.std.proofs.Common.{◌≡◌, take}
use Rattle.pgr_answer.specs.BiconnectedComponents.{class_rows}
use Rattle.pgr_answer.proofs.biconnected_components.rows_of_blocks.Given as goal

-- the rows of the classes so far
abbrev pub invariant-loop-i : goal.invariant-loop-i
invariant-loop-i l = l.rows.items ≡ class_rows 1 (take l.i l.classes)
