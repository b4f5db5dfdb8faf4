use Rattle.std.proofs.Common.{◌≡◌, ℕ, ◌+◌, ◌<◌, ◌≤◌, length, ap, ◌∙◌, arith, rules, w64, Vec, Global}
use Rattle.std.proofs.lemmas.Int.{to_z-of_z}
use mir.Val.{SFits}
use Rattle.pgr_route.specs.declared.step.Step.{Step}
use Rattle.pgr_points.proofs.Gathering.{Stands-first, Stands-last, sum_fits, goes, stays}
use Rattle.pgr_points.proofs.collapsing.collapse.Goals.{then-row-lt0, else-row-lt0}
use Rattle.pgr_points.proofs.collapsing.collapse.Goals as goal

pub loop-i-init : goal.loop-i-init
loop-i-init c = Stands-first c.args.rows.now.items c.index-held.result.now (omega arith) c.requires.sum c.index-held.ensures

pub loop-i-preserved : goal.loop-i-preserved
loop-i-preserved c =
    let all = c.args.rows.now.items in
    let rows = c.loop-i.rows.items in
    let row = c.index-row.result.now in
    let node_fits : SFits w64 row.node = search rules in
    let more : c.loop-i.i + 1 < length all = omega arith in
    elim c.if-row-lt0.branch [
      | then-row-lt0 w ↦ goes all rows c.loop-i.kept c.loop-i.i c.loop-i.held c.loop-i.invariant row more c.index-row.ensures c.if-row-lt0.rows.items c.if-row-lt0.kept
          c.if-row-lt0.held
          (simp to_z-of_z at w.if-row-lt0.true) (ap (λ (v : Vec Step Global). v.items) w.rows-is) w.kept-is w.held-is
      | else-row-lt0 w ↦ stays all rows c.loop-i.kept c.loop-i.i c.loop-i.held c.loop-i.invariant row more c.index-row.ensures c.if-row-lt0.rows.items c.if-row-lt0.kept
          c.if-row-lt0.held
          (simp to_z-of_z at w.if-row-lt0.false) (ap (λ (v : Vec Step Global). v.items) w.rows-is) w.kept-is w.held-is
    ]

pub returns : goal.returns
returns c =
    let size = c.loop-i.invariant.size in
    c.truncate.ensures.items ∙ Stands-last c.args.rows.now.items c.loop-i.rows.items c.loop-i.kept c.loop-i.i c.loop-i.held c.loop-i.invariant _ c.index.result.now (omega
    arith) (omega arith) c.index.ensures
