use Rattle.std.proofs.Common.{◌≡◌, ℕ, drop}
use Rattle.std.specs.BTreeMap.{get}
use Rattle.std.specs.Ordering.{nat_cmp}
use Rattle.pgr_reach.specs.Closest.{after_rows}
use Rattle.pgr_reach.proofs.closest.note_rows.Given as goal

abbrev pub invariant-loop-row : goal.invariant-loop-row
invariant-loop-row l = (v : ℕ) → after_rows v l.root (get nat_cmp l.closest v) (drop l.row-index l.rows) ≡ after_rows v l.root (get nat_cmp l.initial.closest v) l.rows
