-- The pairs before the one at which the count ends have the start, and this one has another.
use Rattle.std.proofs.Common.{◌≡◌, ap, ◌∙◌}
use Rattle.std.proofs.lemmas.List.{get_or_default}
use Rattle.std.proofs.lemmas.List.Elements.{All-more}
use Rattle.pgr_answer.specs.declared.pair.Pair.{Pair}
use Rattle.pgr_answer.proofs.guided.count_of_start.Goals as goal

pub loop-i-preserved : goal.loop-i-preserved
loop-i-preserved c = All-more (λ (pair : Pair). pair.start ≡ c.args.start) c.args.pairs.now c.loop-i.i _ c.loop-i-test.true c.loop-i.invariant c.if-pair-start.false

pub returns-then-pair-start-clause-beyond : goal.returns-then-pair-start-clause-beyond
returns-then-pair-start-clause-beyond c =
    λ d below same. c.if-pair-start.true (ap (λ (p : Pair). p.start) (get_or_default c.args.pairs.now c.loop-i.i _ d below) ∙ same)
