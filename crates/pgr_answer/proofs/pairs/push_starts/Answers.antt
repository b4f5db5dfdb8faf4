-- Each start of the list adds its pair.
use Rattle.std.proofs.Common.{refl, arith}
use Rattle.pgr_answer.proofs.PairLemmas.{gains_start}
use Rattle.pgr_answer.proofs.pairs.push_starts.Goals as goal

pub loop-start-preserved : goal.loop-start-preserved
loop-start-preserved c = gains_start _ _ _ _ _ _ _ (omega arith) refl c.loop-start.invariant c.in_ok-push_pair.ensures
