use Rattle.std.proofs.Common.{◌≡◌, map, take}
use Rattle.pgr_answer.specs.Components.{part_rows}
use Rattle.pgr_answer.specs.Members.{by_ids}
use Rattle.pgr_answer.proofs.components.rows_of_members.Given as goal

-- the rows of the members so far
abbrev pub invariant-loop-i : goal.invariant-loop-i
invariant-loop-i l = l.rows.items ≡ part_rows 1 (map (by_ids l.names) (take l.i l.members))
