use Rattle.std.proofs.Common.{List, [], ◌∷◌, ◌++◌, sym, ap, ◌∙◌, arith}
use Rattle.std.proofs.lemmas.List.{take_all}
use Rattle.pgr_table.specs.declared.row.PointRow.{PointRow}
use Rattle.pgr_outside.proofs.Lists.{take_one_more}
use Rattle.pgr_points.proofs.places.rows_of.Goals as goal

pub loop-i-init : goal.loop-i-init
loop-i-init c = c.in_ok-rows.ensures.items

pub loop-i-preserved : goal.loop-i-preserved
loop-i-preserved c =
    c.in_ok-push.ensures.items ∙ (ap (λ (rows : List PointRow). rows ++ c.row.result ∷ []) c.loop-i.invariant
    ∙ sym (take_one_more c.args.points.now c.loop-i.i c.row.result c.row.ensures))

pub returns : goal.returns
returns c = c.loop-i.invariant ∙ take_all c.loop-i.i c.args.points.now (omega (arith, c.len-i-end.ensures.len))
