use Rattle.std.proofs.Common.{ℕ, ◌+◌, List, Some, ap, sym, ◌∙◌, subst}
use Rattle.pgr_reach.specs.declared.reach.ReachedOf.{ReachedOf}
use Rattle.pgr_reach.specs.LabelRows.{AreRowsBelow}
use Rattle.pgr_reach.proofs.LabelRowLemmas.{next_none, next_some}
use Rattle.pgr_reach.proofs.limited.rows_of_labels.Goals as goal
use Rattle.pgr_reach.proofs.limited.rows_of_labels.Goals.{in-Some+in_ok-push, in_default}

pub loop-v-preserved : goal.loop-v-preserved
loop-v-preserved g c =
    let outs = g.G.Graph.outs c.args.turned.now in
    let labels = c.args.room.now in
    let root = c.args.root in
    let v = c.loop-v.v in
    let rows = c.loop-v.rows.items in
    let P : List (ReachedOf ℕ) → Type 0 = AreRowsBelow outs labels root (v + 1) in
    elim c.match-label.branch [
      | in-Some+in_ok-push w ↦
          subst P (sym (ap (λ list. list.items) w.rows-is ∙ w.in_ok-push.ensures.items))
          (next_some outs labels root v rows c.loop-v.invariant w.row_of.result w.row_of.ensures.node
          (sym c.label.ensures ∙ w.in-Some.is ∙ sym (ap Some w.row_of.ensures.label)) w.row_of.ensures.link)
      | in_default w ↦
          subst P (sym (ap (λ list. list.items) w.rows-is)) (next_none outs labels root v rows c.loop-v.invariant (sym c.label.ensures ∙ w.in_default.is))
    ]
