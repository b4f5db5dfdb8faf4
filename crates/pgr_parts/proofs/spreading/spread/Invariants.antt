use Rattle.std.proofs.Common.{◌+◌, ◌*◌, length, count_by}
use Rattle.std.specs.List.{sum_by}
use Rattle.std.specs.Option.{is_none}
use Rattle.pgr_parts.proofs.SpreadLemmas.{IsSpreading}
use Rattle.pgr_parts.proofs.spreading.spread.Given as goal

abbrev pub invariant-loop-v : goal.invariant-loop-v
invariant-loop-v l = IsSpreading l.lists l.root l.names l.waiting.items

abbrev pub decreases-loop-v : goal.decreases-loop-v
decreases-loop-v l = count_by is_none l.names * (sum_by length l.lists + 1) + length l.waiting.items
