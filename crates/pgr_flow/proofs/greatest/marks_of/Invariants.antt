use Rattle.std.proofs.Common.{◌≡◌, map, take, is_some}
use Rattle.pgr_flow.proofs.greatest.marks_of.Given as goal

-- the marks of the levels so far
abbrev pub invariant-loop-level : goal.invariant-loop-level
invariant-loop-level l = l.marks.items ≡ map is_some (take l.level-index l.levels)
