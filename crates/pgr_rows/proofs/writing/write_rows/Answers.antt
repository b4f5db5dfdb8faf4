-- The header line, and the lines behind it.
use Rattle.std.proofs.Common.{◌∙◌, ap}
use Rattle.pgr_outside.specs.Faults.{OnErr-always}
use Rattle.pgr_outside.specs.Sink.{with_added, AddsPrefix-first, AddsPrefix-second, with_added-twice}
use Rattle.pgr_rows.specs.Layout.{lines_of}
use Rattle.pgr_rows.proofs.writing.write_rows.Goals as goal

pub returns-in_err-write_all-clause-front : goal.returns-in_err-write_all-clause-front
returns-in_err-write_all-clause-front g c =
    OnErr-always _ (AddsPrefix-first _ _ _ (lines_of g.R.Record.layout c.args.rows.now)
    (rw c.as_bytes.ensures.value at c.in_err-write_all.ensures.front))

pub returns-in_err-write_lines-clause-front : goal.returns-in_err-write_lines-clause-front
returns-in_err-write_lines-clause-front g c =
    OnErr-always _ (AddsPrefix-second _ _ _ _ _
    (rw c.as_bytes.ensures.value at c.in_ok-write_all.ensures.all) c.in_err-write_lines.ensures.front)

pub returns-clause-text : goal.returns-clause-text
returns-clause-text g c =
    c.in_ok-write_lines.ensures.text
    ∙ ap (λ between. with_added between (lines_of g.R.Record.layout c.args.rows.now)) (rw c.as_bytes.ensures.value at c.in_ok-write_all.ensures.all)
    ∙ with_added-twice _ _ _
