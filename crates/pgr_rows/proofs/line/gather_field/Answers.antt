-- What was gathered, the field and its end: one run of bytes.
use Rattle.std.proofs.Common.{refl}
use Rattle.pgr_outside.specs.Faults.{OnErr-always}
use Rattle.pgr_outside.specs.Parts.{part_text}
use Rattle.pgr_outside.specs.Sink.{HasGained-none, HasGained-step, HasGained-stop, HasGained-prefix, HasGained-then}
use Rattle.pgr_rows.proofs.line.gather_field.Goals as goal

pub returns-in_err-gather_part-clause-front : goal.returns-in_err-gather_part-clause-front
returns-in_err-gather_part-clause-front g c =
    let gathered = c.args.piece.now.bytes in
    OnErr-always _ (HasGained-stop _ _ _ _ _ gathered (part_text c.args.field) c.args.end.now (HasGained-none _ _) refl c.in_err-gather_part.ensures.front)

pub returns-in_err-gather-clause-front : goal.returns-in_err-gather-clause-front
returns-in_err-gather-clause-front g c =
    let gathered = c.args.piece.now.bytes in
    OnErr-always _ (HasGained-prefix _ _ _ _ _
    (HasGained-step _ _ _ _ _ gathered (part_text c.args.field) c.args.end.now _ (HasGained-none _ _) refl c.in_ok-gather_part.ensures.all)
    c.in_err-gather.ensures.front)

pub returns-clause-all : goal.returns-clause-all
returns-clause-all g c =
    let gathered = c.args.piece.now.bytes in
    HasGained-then _ _ _ _ _ _
    (HasGained-step _ _ _ _ _ gathered (part_text c.args.field) c.args.end.now _ (HasGained-none _ _) refl c.in_ok-gather_part.ensures.all)
    c.in_ok-gather.ensures.all
