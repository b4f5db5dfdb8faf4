use Rattle.std.proofs.Common.{List}
use Rattle.std.specs.BTreeSet.{btree_set_len}
use Rattle.std.specs.Prelude.{ℤ}
use Rattle.pgr_walks.specs.declared.link.LinkOf.{LinkOf}
use Rattle.pgr_contract.specs.Ways.{HoldsWays}
use Rattle.pgr_contract.proofs.CandidateSets.{AreLeft}
use Rattle.pgr_contract.proofs.candidates.next_of.Given as goal

abbrev pub invariant-loop-v : goal.invariant-loop-v
invariant-loop-v l = (links : List (LinkOf ℤ)) → HoldsWays links l.ways → AreLeft l.method links l.initial.candidates l.candidates

abbrev pub decreases-loop-v : goal.decreases-loop-v
decreases-loop-v l = btree_set_len l.candidates
