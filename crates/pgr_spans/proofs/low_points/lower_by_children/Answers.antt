-- A child lowers its parent, and after all children the numbers are the low points.
use Rattle.std.proofs.Common.{◌≡◌, ◌+◌, ◌-◌, ◌<◌, length, sym, subst, arith}
use Rattle.pgr_spans.proofs.LowPoints.{AreLowered, child_lowered, all_lowered}
use Rattle.pgr_spans.proofs.low_points.lower_by_children.Goals as goal

pub loop-v-preserved : goal.loop-v-preserved
loop-v-preserved c =
    let parents = c.args.parents.now in
    let v = c.loop-v.v in
    let some = c.loop-v-test.true in
    let within = c.loop-v.invariant.within in
    let inside : v - 1 < length parents = omega arith in
    let back : v ≡ v - 1 + 1 = omega arith in
    record {
      within = omega arith;
      same_length = omega arith;
      done = λ segments reached near.
          subst (AreLowered parents segments (v - 1)) (sym c.lower_parent.ensures)
          (child_lowered parents segments (v - 1) c.loop-v.lows c.requires.falls inside
          (subst (λ n. AreLowered parents segments n c.loop-v.lows) back (c.loop-v.invariant.done segments reached near)));
    }

pub returns : goal.returns
returns c = λ segments reached near.
    let none = c.loop-v-test.false in
    let zero : c.loop-v.v ≡ 0 = omega arith in
    all_lowered c.args.parents.now segments c.loop-v.lows (subst (λ n. AreLowered c.args.parents.now segments n c.loop-v.lows) zero (c.loop-v.invariant.done segments reached near))
