-- Each row's line comes behind what is gathered, before the lines to come.
use Rattle.std.proofs.Common.{rules, ap, sym, ◌∙◌, ◌++◌, ◌+◌, drop}
use Rattle.pgr_outside.specs.Faults.{OnErr-always}
use Rattle.pgr_outside.specs.Parts.{texts_next, texts_end}
use Rattle.pgr_outside.specs.Sink.{HasGained-step, HasGained-stop, HasGained-prefix, HasGained-end}
use Rattle.pgr_rows.specs.Layout.{line_text, lines_of}
use Rattle.pgr_rows.proofs.writing.write_lines.Goals as goal

pub returns-in_err-gather-clause-front : goal.returns-in_err-gather-clause-front
returns-in_err-gather-clause-front g c =
    let rows = c.args.rows.now in
    let i = c.loop-row.row-index in
    let piece = c.loop-row.piece.bytes in
    let layout = g.R.Record.layout in
    let line = line_text layout in
    OnErr-always _ (HasGained-stop _ _ _ _ _ piece _ (lines_of layout (drop (i + 1) rows)) c.loop-row.invariant.gained
    (ap (λ left. piece ++ left) (texts_next line rows i c.row-item.result (search rules) ∙ ap (λ row. line row ++ lines_of layout (drop (i + 1) rows)) (sym c.row-item.is)))
    c.in_err-gather.ensures.front)

pub loop-row-preserved : goal.loop-row-preserved
loop-row-preserved g c =
    let rows = c.args.rows.now in
    let i = c.loop-row.row-index in
    let piece = c.loop-row.piece.bytes in
    let layout = g.R.Record.layout in
    let line = line_text layout in
    record {
      gained = HasGained-step _ _ _ _ _ piece _ (lines_of layout (drop (i + 1) rows)) _ c.loop-row.invariant.gained
          (ap (λ left. piece ++ left) (texts_next line rows i c.row-item.result (search rules) ∙ ap (λ row. line row ++ lines_of layout (drop (i + 1) rows)) (sym c.row-item.is)))
          c.in_ok-gather.ensures.all;
      count = search rules;
    }

pub returns-in_err-hand_on-clause-front : goal.returns-in_err-hand_on-clause-front
returns-in_err-hand_on-clause-front g c =
    let layout = g.R.Record.layout in
    let line = line_text layout in
    let all = texts_end line c.args.rows.now c.loop-row.row-index c.loop-row.piece.bytes (search rules) in
    OnErr-always _ (HasGained-prefix _ _ _ _ _ (rw all at c.loop-row.invariant.gained) c.in_err-hand_on.ensures.front)

pub returns-clause-text : goal.returns-clause-text
returns-clause-text g c =
    let layout = g.R.Record.layout in
    let line = line_text layout in
    let all = texts_end line c.args.rows.now c.loop-row.row-index c.loop-row.piece.bytes (search rules) in
    HasGained-end _ _ _ _ _ (rw all at c.loop-row.invariant.gained) c.in_ok-hand_on.ensures.all
