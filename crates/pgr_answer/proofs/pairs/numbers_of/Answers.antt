-- Each id adds its number, if it has one.
use Rattle.std.proofs.Common.{rules, w64, get_or, pos, subst, arith}
use Rattle.std.proofs.lemmas.Int.{to_z-of_z}
use Rattle.std.proofs.lemmas.List.{take_all}
use mir.Val.{SFits}
use Rattle.pgr_answer.specs.Gathering.{AreNumbersOf, GainsNumber}
use Rattle.pgr_answer.proofs.PairLemmas.{numbers_more}
use Rattle.pgr_answer.proofs.pairs.numbers_of.Goals as goal

pub loop-id-preserved : goal.loop-id-preserved
loop-id-preserved c =
    let fits : SFits w64 (get_or c.args.ids.now c.loop-id.id-index (pos 0)) = search rules in
    let more : GainsNumber c.args.names.now (get_or c.args.ids.now c.loop-id.id-index
    (pos 0)) c.loop-id.numbers.items c.push_number.new.numbers.items = simp to_z-of_z at c.in_ok-push_number.ensures in
    numbers_more _ _ _ _ _ _ (omega arith) c.loop-id.invariant more

pub returns : goal.returns
returns c = subst (λ ids. AreNumbersOf c.args.names.now ids c.loop-id.numbers.items)
    (take_all c.loop-id.id-index c.args.ids.now (omega (arith, c.loop-id-test.false))) c.loop-id.invariant
