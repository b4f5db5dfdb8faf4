-- No sink is a source where none of those so far is and the next one isn't.
use Rattle.std.proofs.Common.{◌≡◌, ℕ, get_or, true, false, sym, subst, ◌∙◌, arith}
use Rattle.std.specs.Prelude.{Contains}
use Rattle.std.proofs.lemmas.List.{get_or_default}
use borrow.Author.Count.{below_more}
use Rattle.pgr_answer.proofs.flow_network.is_any_common.Goals as goal

apart : false ≡ true → ⊥
apart e = absurd cc

pub loop-sink-preserved : goal.loop-sink-preserved
loop-sink-preserved c = below_more (λ (k : ℕ). Contains c.args.sources.now (get_or c.args.sinks.now k 0) → ⊥) c.loop-sink.sink-index c.loop-sink.invariant
    (λ there. apart (sym c.if-is_among.false ∙ c.is_among.ensures.1 there))

pub returns : goal.returns
returns c = (
  λ e. absurd (apart e),
  λ common. absurd (c.loop-sink.invariant common.2.0 (omega (arith, common.2.1)) (subst (Contains c.args.sources.now)
      (sym (get_or_default c.args.sinks.now common.2.0 0 common.0 common.2.1 ∙ common.2.2)) common.1)),
)
