-- A place with values that differ adds its id, and others add nothing.
use Rattle.std.proofs.Common.{◌≡◌, ◌+◌, ◌<◌, ◌++◌, ◌∷◌, [], length, sym, subst, ◌∙◌, ap, rules, arith}
use Rattle.pgr_spans.proofs.Corners.{ArePointsUpTo, points_push, points_skip, points_all}
use Rattle.pgr_numbers.specs.Names.{id_at}
use Rattle.pgr_spans.proofs.results.points_of.Goals as goal
use Rattle.pgr_spans.proofs.results.points_of.Goals.{then-is_parting+in_ok-map_err, else-is_parting}

pub loop-v-preserved : goal.loop-v-preserved
loop-v-preserved c =
    let names = c.args.names.now in
    let found = c.args.found.now in
    let v = c.loop-v.v in
    let inside : v < length names = (let e = c.len-v-end.ensures.len in let t = c.loop-v-test.true in omega arith) in
    elim c.if-is_parting.branch [
      | then-is_parting+in_ok-map_err w ↦
          let items : c.if-is_parting.points.items ≡ c.loop-v.points.items ++ w.name.result ∷ [] = search rules in
          let pushed : c.if-is_parting.points.items ≡ c.loop-v.points.items ++ id_at names v ∷ [] = items ∙ ap (λ x. c.loop-v.points.items ++ x ∷ []) w.name.ensures.id in
          subst (ArePointsUpTo names found (v + 1)) (sym pushed)
          (points_push names found v c.loop-v.points.items c.len-v-end.ensures.rise inside (sym c.is_parting.ensures ∙ w.if-is_parting.true) c.loop-v.invariant)
      | else-is_parting w ↦
          let items : c.if-is_parting.points.items ≡ c.loop-v.points.items = search rules in
          subst (ArePointsUpTo names found (v + 1)) (sym items)
          (points_skip names found v c.loop-v.points.items (sym c.is_parting.ensures ∙ w.if-is_parting.false) c.loop-v.invariant)
    ]

pub returns : goal.returns
returns c =
    points_all c.args.names.now c.args.found.now c.loop-v.v c.loop-v.points.items
    (let e = c.len-v-end.ensures.len in let le = c.loop-v.auto.v-end in let t = c.loop-v-test.false in omega arith) c.loop-v.invariant
