-- Each end of the list adds its pairs with the starts.
use Rattle.std.proofs.Common.{refl, arith}
use Rattle.pgr_answer.proofs.PairLemmas.{gains_end}
use Rattle.pgr_answer.proofs.pairs.push_lists.Goals as goal

pub loop-end-preserved : goal.loop-end-preserved
loop-end-preserved c = gains_end _ _ _ _ _ _ _ (omega arith) refl c.loop-end.invariant c.in_ok-push_starts.ensures
