-- Each row adds the number of its source, if it has one.
use Rattle.std.proofs.Common.{rules, w64, arith, subst}
use Rattle.std.proofs.lemmas.Int.{to_z-of_z}
use Rattle.std.proofs.lemmas.List.{take_all}
use mir.Val.{SFits}
use Rattle.pgr_answer.specs.Gathering.{GainsNumber}
use Rattle.pgr_answer.specs.Noting.{GainsSources}
use Rattle.pgr_answer.proofs.StartLemmas.{no_sources, gains_source}
use Rattle.pgr_answer.proofs.asked_starts.push_sources.Goals as goal

pub loop-i-init : goal.loop-i-init
loop-i-init c = no_sources c.args.names.now c.args.numbers.now.items

pub loop-i-preserved : goal.loop-i-preserved
loop-i-preserved c =
    let fits : SFits w64 c.row-row.result.source = search rules in
    let more : GainsNumber c.args.names.now c.row-row.result.source c.loop-i.numbers.items c.push_number.new.numbers.items = simp to_z-of_z at c.in_ok-push_number.ensures in
    gains_source _ _ _ _ _ _ _ c.row-row.ensures c.loop-i.invariant more

pub returns : goal.returns
returns c = subst (λ rows. GainsSources c.args.names.now rows c.args.numbers.now.items c.loop-i.numbers.items)
    (take_all c.loop-i.i c.args.table.now (omega (arith, c.loop-i-test.false, c.len-i-end.ensures.len))) c.loop-i.invariant
