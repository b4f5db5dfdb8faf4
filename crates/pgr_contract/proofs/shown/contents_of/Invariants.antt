use Rattle.std.proofs.Common.{◌≡◌, ℤ, take}
use Rattle.pgr_contract.specs.Held.{holds_at, holds_over}
use Rattle.pgr_contract.specs.Lists.{list_at, resting}
use Rattle.pgr_contract.proofs.shown.contents_of.Given as goal

abbrev pub invariant-loop-n : goal.invariant-loop-n
invariant-loop-n l = record {
  at : (z : ℤ) → list_at l.contents.at z ≡ resting l.rests (holds_at z) (take l.n l.names);
  over : (v : ℤ) → list_at l.contents.over v ≡ resting l.rests (holds_over v) (take l.n l.names);
}
