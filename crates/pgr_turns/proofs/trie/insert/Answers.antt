-- One id more, and at last all of them.
use Rattle.std.proofs.Common.{arith}
use Rattle.pgr_turns.proofs.TrieSteps.{keeps_trans, fronts_more}
use Rattle.pgr_turns.proofs.trie.insert.Goals as goal

pub loop-len-preserved : goal.loop-len-preserved
loop-len-preserved c = record {
  trie = c.in_ok-at.ensures.trie;
  few = omega (arith, c.in_ok-at.ensures.size, c.loop-len.invariant.few);
  kept = keeps_trans _ _ _ c.loop-len.invariant.kept c.in_ok-at.ensures.kept;
  fronts = fronts_more _ _ _ _ _ _ c.loop-len.invariant.fronts c.in_ok-at.ensures.kept c.in_ok-at.ensures.below c.in_ok-at.ensures.word;
  below = c.in_ok-at.ensures.below;
  word_is = c.in_ok-at.ensures.word;
}

pub returns-clause-fronts : goal.returns-clause-fronts
returns-clause-fronts c = λ k at_most. c.loop-len.invariant.fronts k (omega (arith, at_most, c.count_of-count.ensures))
