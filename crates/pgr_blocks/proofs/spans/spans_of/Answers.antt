-- A row with a direction adds its span, another one none; and a sort leaves the spans of all rows rising.
use Rattle.std.proofs.Common.{◌++◌, [], ◌∷◌, rules, arith, ap, ◌∙◌}
use Rattle.std.proofs.lemmas.Grind.{common_steps}
use Rattle.pgr_blocks.proofs.TableSpans.{spans_more, spans_without, sorted_spans}
use Rattle.pgr_blocks.proofs.spans.spans_of.Goals as goal
use Rattle.pgr_blocks.proofs.spans.spans_of.Goals.{then-has_direction+in_ok-push, else-has_direction}

pub loop-i-preserved : goal.loop-i-preserved
loop-i-preserved c =
    elim c.if-has_direction.branch [
      | then-has_direction+in_ok-push w ↦ record {
        are = rw w.spans-is (spans_more c.args.table.now c.loop-i.i c.row-row.result c.row-row.ensures c.loop-i.spans.items _ c.len-rows.ensures.accepted.distinct
            (c.has_direction.ensures.0 (search rules))
            (w.in_ok-push.ensures.items ∙ ap (λ span. c.loop-i.spans.items ++ span ∷ []) w.span_of.ensures)
            c.loop-i.invariant.are);
        few = rw w.spans-is (grind (arith, common_steps, w.in_ok-push.ensures.items, c.loop-i.invariant.few));
      }
      | else-has_direction w ↦ record {
        are = rw w.spans-is (spans_without c.args.table.now c.loop-i.i c.row-row.result c.row-row.ensures c.loop-i.spans.items
            (λ has. absurd (search (rules, c.has_direction.ensures.1 has, w.if-has_direction.false))) c.loop-i.invariant.are);
        few = rw w.spans-is (omega (arith, c.loop-i.invariant.few));
      }
    ]

pub returns-clause-spans : goal.returns-clause-spans
returns-clause-spans c =
    sorted_spans c.args.table.now c.loop-i.i c.loop-i.spans.items _ (omega (arith, c.len-rows.ensures.len)) c.loop-i.invariant.are c.sort_unstable.ensures.permutation
    c.sort_unstable.ensures.sorted
