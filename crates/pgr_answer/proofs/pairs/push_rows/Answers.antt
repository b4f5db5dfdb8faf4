-- Each row adds its pair.
use Rattle.std.proofs.Common.{rules, w64}
use Rattle.std.proofs.lemmas.Int.{to_z-of_z}
use mir.Val.{SFits}
use Rattle.pgr_answer.specs.Gathering.{Gains, IsPairOfIds}
use Rattle.pgr_answer.proofs.PairLemmas.{gains_row}
use Rattle.pgr_answer.proofs.pairs.push_rows.Goals as goal

pub loop-i-preserved : goal.loop-i-preserved
loop-i-preserved c =
    let source_fits : SFits w64 c.row-row.result.source = search rules in
    let target_fits : SFits w64 c.row-row.result.target = search rules in
    let more : Gains (IsPairOfIds c.args.names.now c.row-row.result.source c.row-row.result.target) c.loop-i.pairs.items c.push_ids.new.pairs.items = simp to_z-of_z at
    c.in_ok-push_ids.ensures in
    gains_row _ _ _ _ _ _ _ c.row-row.ensures c.loop-i.invariant more
