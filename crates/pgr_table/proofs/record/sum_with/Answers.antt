use Rattle.std.proofs.Common.{arith, w64, rules, ◌∙◌}
use Rattle.std.proofs.Math.Facts.{to_z-of_z}
use mir.Val.{SFits}
use Rattle.pgr_table.proofs.RecordFacts.{sum-summed, sum-free}
use Rattle.pgr_table.proofs.record.sum_with.Goals as goal
use Rattle.pgr_table.proofs.record.sum_with.Goals.{in-Summed+in_ok-grown, in_default}

pub loop-place-preserved : goal.loop-place-preserved
loop-place-preserved c =
    elim c.match-column.branch [
      | in-Summed+in_ok-grown w ↦
          let fits : SFits w64 w.number.result = search rules in
          let grown = rw (to_z-of_z {w = w64} {z = w.number.result} fits, w.number.ensures) at w.in_ok-grown.ensures in
          record {
            small = omega (arith, grown.0, grown.1, w.grown-is);
            sum = sum-summed c.args.columns.now c.args.values.now c.loop-place.place _ w.index-values-place.result _ c.loop-place.grown c.match-column.grown
                c.loop-place-test.true c.requires.whole w.in-Summed.is w.index-values-place.is (w.grown-is ∙ grown.1) c.loop-place.invariant.sum;
          }
      | in_default w ↦ record {
        small = omega (arith, w.grown-is);
        sum = sum-free c.args.columns.now c.args.values.now c.loop-place.place _ _ c.loop-place.grown c.match-column.grown c.loop-place-test.true
            c.requires.whole w.in_default.not-Summed w.grown-is c.loop-place.invariant.sum;
      }
    ]
