use Rattle.std.proofs.Common.{◌≡◌, ◌≤◌, ◌<◌, ◌-◌, subst, arith, ℕ, length}
use Rattle.pgr_flow.specs.Descent.{ArePointers}
use Rattle.pgr_flow.proofs.Descents.{descent_down, descent_up, fades_set, Fades-then}
use Rattle.pgr_flow.proofs.Passing.{end_below}
use Rattle.pgr_flow.proofs.descent.find_walk.Goals as goal

less_by : (m n : ℕ) → m ≤ n → (m ≡ n → ⊥) → m < n
less_by m n le ne = grind arith

pub loop-level-preserved-in-Some : goal.loop-level-preserved-in-Some
loop-level-preserved-in-Some c =
    let inv = c.loop-level.invariant in
    let size : length c.loop-level.levels ≡ length c.args.levels.now = omega arith in
    let falling = c.in-Some.ensures.falling in
    record {
      fades = inv.fades;
      pointers = subst (λ n. ArePointers n c.args.incidence.now.starts.items c.next_into.new.next) size c.in-Some.ensures.pointers;
      descent = descent_down c.args.arcs.now c.args.flows.now c.loop-level.levels c.loop-level.steps c.args.sink c.in_ok-top.top
          (c.loop-level.level - 1) c.loop-level.level c.loop-level.at c.in-Some.step
          (omega arith) inv.descent falling c.in-Some.ensures.into;
      below = (end_below (length c.args.levels.now) c.args.arcs.now c.requires.below c.in-Some.step.arc c.in-Some.step.way c.in-Some.step.from c.in-Some.step.to
          falling.residual.leads).0;
      intact = λ whole. c.in-Some.ensures.intact (inv.intact whole);
    }

pub loop-level-preserved : goal.loop-level-preserved
loop-level-preserved c =
    let inv = c.loop-level.invariant in
    let size : length c.loop-level.levels ≡ length c.args.levels.now = omega arith in
    let low : c.loop-level.level < c.in_ok-top.top = less_by c.loop-level.level c.in_ok-top.top inv.descent.low c.if-level-top.false in
    record {
      fades = Fades-then c.args.levels.now c.loop-level.levels _ inv.fades (fades_set c.loop-level.levels c.loop-level.at (omega arith));
      pointers = subst (λ n. ArePointers n c.args.incidence.now.starts.items c.next_into.new.next) size c.in-None.ensures.pointers;
      descent = descent_up c.args.arcs.now c.args.flows.now c.loop-level.levels c.loop-level.steps c.args.sink c.in_ok-top.top c.loop-level.level c.loop-level.at inv.descent low;
      below = (end_below (length c.args.levels.now) c.args.arcs.now c.requires.below _ _ _ _ (inv.descent.falls c.loop-level.level (omega arith) low).residual.leads).1;
      intact = λ whole. absurd (c.in-None.ensures.none (inv.intact whole));
    }
