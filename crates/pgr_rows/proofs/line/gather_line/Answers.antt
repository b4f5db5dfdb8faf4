-- Each field comes behind what is gathered, before the fields to come.
use Rattle.std.proofs.Common.{rules, refl, ◌-◌, take, drop, length, map}
use Rattle.pgr_outside.specs.Faults.{OnErr-always}
use Rattle.pgr_outside.specs.Parts.{part_text}
use Rattle.pgr_outside.specs.Sink.{HasGained-step, HasGained-stop}
use Rattle.pgr_rows.specs.Layout.{line_of}
use Rattle.pgr_rows.proofs.Lines.{next_field}
use Rattle.pgr_rows.proofs.line.gather_line.Goals as goal

pub loop-rest-preserved : goal.loop-rest-preserved
loop-rest-preserved g c =
    let rest = c.loop-rest.rest.now in
    let behind = take (length rest - 1) (drop 1 rest) in
    record {
      gained = HasGained-step _ _ _ _ _ c.loop-rest.piece.bytes _ (line_of (map part_text behind)) _ c.loop-rest.invariant.gained
          (next_field c.loop-rest.piece.bytes c.end.result.now rest behind _ (search rules) refl c.end.ensures)
          c.in_ok-gather_field.ensures.all;
      count = search rules;
    }

pub returns-in_err-gather_field-clause-front : goal.returns-in_err-gather_field-clause-front
returns-in_err-gather_field-clause-front g c =
    let rest = c.loop-rest.rest.now in
    let behind = take (length rest - 1) (drop 1 rest) in
    OnErr-always _ (HasGained-stop _ _ _ _ _ c.loop-rest.piece.bytes _ (line_of (map part_text behind)) c.loop-rest.invariant.gained
    (next_field c.loop-rest.piece.bytes c.end.result.now rest behind _ (search rules) refl c.end.ensures)
    c.in_err-gather_field.ensures.front)
