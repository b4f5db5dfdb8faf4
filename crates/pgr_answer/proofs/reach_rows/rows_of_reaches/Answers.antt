-- The rows of each root are put behind the rows so far.
use Rattle.std.proofs.Common.{◌∙◌, ap, sym, subst, map, length, arith}
use Rattle.std.proofs.lemmas.List.{take_all}
use Rattle.pgr_reach.specs.Equicost.{listed}
use Rattle.pgr_reach.specs.declared.reach.Reach.{Reach}
use Rattle.pgr_answer.specs.DrivingDistance.{reach_rows, reach_table}
use Rattle.pgr_answer.specs.Rooted.{named_list, IsListBelow}
use Rattle.pgr_answer.proofs.ReachTables.{with_rows, reaches_more}
use Rattle.pgr_answer.proofs.reach_rows.rows_of_reaches.Goals as goal

pub push_reach-requires : goal.push_reach-requires
push_reach-requires c =
    subst (λ (reach : Reach). IsListBelow (length c.args.names.now) (listed reach)) (sym c.reach-item.is) (c.requires c.loop-reach.reach-index c.reach-item.result (omega arith))

pub loop-reach-preserved : goal.loop-reach-preserved
loop-reach-preserved c =
    reaches_more c.args.names.now c.args.reaches.now c.loop-reach.reach-index c.reach-item.result _ _ (omega arith) c.loop-reach.invariant
    (c.in_ok-push_reach.ensures ∙ ap (λ (reach : Reach). with_rows c.loop-reach.rows.items (reach_rows (named_list c.args.names.now (listed reach)))) c.reach-item.is)

pub returns : goal.returns
returns c =
    c.loop-reach.invariant
    ∙ ap (λ reaches. reach_table (map (λ (reach : Reach). named_list c.args.names.now (listed reach)) reaches))
    (take_all c.loop-reach.reach-index c.args.reaches.now (omega (arith, c.loop-reach-test.false)))
