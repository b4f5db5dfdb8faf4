-- The notes are told, and the message of a failed write behind them.
use Rattle.std.proofs.Common.{◌≡◌, refl, inl, inr, sym, ◌∙◌, arith}
use Rattle.pgr_run.specs.Messages.{message_of, notes_text}
use Rattle.pgr_run.specs.declared.cause.Cause.TheVariants as cause
use Rattle.pgr_run.specs.declared.status.Status.TheVariants.{Done, Outside}
use Rattle.pgr_run.proofs.PromiseLemmas.{lines_told, failure_told}
use Rattle.pgr_run.proofs.running.write_answer.Goals as goal

pub returns-in-Ok-clause-written : goal.returns-in-Ok-clause-written
returns-in-Ok-clause-written g c =
    inl (
      refl,
      c.in-Ok.ensures.text,
      lines_told c.write_notes-told.result _ _ _ _ _ (rw c.as_slice.ensures at c.write_notes-told.ensures.all) c.write_notes-told.ensures.failed
          (rw c.as_slice.ensures at c.write_notes-told.ensures.front),
    )

pub returns-in-Ok-clause-silent : goal.returns-in-Ok-clause-silent
returns-in-Ok-clause-silent g c = λ done none. c.write_notes-told.ensures.silent (c.as_slice.ensures ∙ none)

pub returns-in-Err-clause-silent : goal.returns-in-Err-clause-silent
returns-in-Err-clause-silent g c = λ done none. let both : Outside ≡ Done = sym c.status.ensures ∙ done in absurd cc

pub returns-in-Err-clause-err_faults : goal.returns-in-Err-clause-err_faults
returns-in-Err-clause-err_faults g c = omega (arith, c.write_notes-told.ensures.faults, c.tell_failure.ensures.faults)

pub returns-in-Err-clause-written : goal.returns-in-Err-clause-written
returns-in-Err-clause-written g c =
    inr (
      c.status.ensures,
      c.in-Err.ensures.failed,
      c.in-Err.ensures.front,
      failure_told g.E.Sink.written g.E.Sink.faults c.write_notes-told.result (notes_text c.args.answered.now.notes) (message_of cause.WriteFailed) _ _ _
          (rw c.as_slice.ensures at c.write_notes-told.ensures.all) c.write_notes-told.ensures.failed
          (rw c.as_slice.ensures at c.write_notes-told.ensures.front) c.write_notes-told.ensures.faults
          c.tell_failure.ensures.told c.tell_failure.ensures.not_told,
    )
