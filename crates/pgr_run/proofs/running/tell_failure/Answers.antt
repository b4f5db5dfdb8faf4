-- Where the notes were told, the message is told as far as the sink takes it; else nothing is written.
use Rattle.std.proofs.Common.{◌≡◌, refl, sym, ◌∙◌}
use Rattle.pgr_outside.specs.Faults.{OnErr-always}
use Rattle.pgr_run.specs.declared.cause.Cause.TheVariants as cause
use Rattle.pgr_run.specs.Messages.{message_of}
use Rattle.pgr_run.specs.Promise.{WritesLines}
use Rattle.pgr_run.proofs.PromiseLemmas.{lines_told, on_ok_always, none_told, all_told}
use Rattle.pgr_run.proofs.running.tell_failure.Goals as goal

pub returns-then-is_err-clause-told : goal.returns-then-is_err-clause-told
returns-then-is_err-clause-told g c =
    let before = g.E.Sink.written c.args.err.now in
    let count = g.E.Sink.faults c.args.err.now in
    none_told c.args.told (WritesLines (message_of cause.WriteFailed) before before count count) (sym c.is_err.ensures.value ∙ c.if-is_err.true)

pub returns-then-is_err-clause-not_told : goal.returns-then-is_err-clause-not_told
returns-then-is_err-clause-not_told g c = OnErr-always c.args.told refl

pub returns-clause-told : goal.returns-clause-told
returns-clause-told g c =
    on_ok_always c.args.told (lines_told c.write_parts.result _ _ _ _ _ (rw c.message.ensures at c.write_parts.ensures.all) c.write_parts.ensures.failed
    (rw c.message.ensures at c.write_parts.ensures.front))

pub returns-clause-not_told : goal.returns-clause-not_told
returns-clause-not_told g c = all_told c.args.told (c.write_parts.new.out ≡ c.args.err.now) (sym c.is_err.ensures.value ∙ c.if-is_err.false)
