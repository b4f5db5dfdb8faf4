use Rattle.std.proofs.Common.{take, ℤ}
use Rattle.std.specs.Prelude.{◌↔◌}
use Rattle.std.specs.List.{Contains}
use Rattle.pgr_contract.specs.Candidates.{Among}
use Rattle.pgr_contract.proofs.candidates.set_of.Given as goal

abbrev pub invariant-loop-id : goal.invariant-loop-id
invariant-loop-id l = (x : ℤ) → Among l.set x ↔ Contains (take l.id-index l.ids) x
