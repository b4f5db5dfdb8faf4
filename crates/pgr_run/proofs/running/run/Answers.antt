use Rattle.std.proofs.Common.{[], refl, sym, ◌∙◌, ⊎_elim}
use Rattle.pgr_words.specs.Commands.{command_of}
use Rattle.pgr_rows.specs.Text.{text_of}
use Rattle.pgr_answer.specs.Allowed.{AnswersCommand}
use Rattle.pgr_run.specs.declared.cause.Cause.TheVariants as cause
use Rattle.pgr_run.specs.Messages.{notes_text}
use Rattle.pgr_run.specs.Promise.{texts}
use Rattle.pgr_run.proofs.PromiseLemmas.{if_ok, asks_then, asks_no_fault, completes, refused_where, done_where, words_where, lines_told, not_done, done_or_outside, done_written, failed_written, done_unless_risen, not_words_written, out_tells, err_tells}
use Rattle.pgr_run.proofs.running.run.Goals as goal

pub returns-in-Err-clause-done : goal.returns-in-Err-clause-done
returns-in-Err-clause-done g c = λ done. absurd (not_done c.in-Err.cause (sym c.status.ensures ∙ done))

pub returns-in-Err-clause-cause : goal.returns-in-Err-clause-cause
returns-in-Err-clause-cause g c = λ other. (
  c.in-Err.cause,
  [],
  c.status.ensures,
  c.in-Err.ensures.cause (g.O.Sink.written c.args.out.now) (g.O.Sink.faults c.args.out.now),
  lines_told c.write_parts.result _ _ _ _ _ (rw c.message.ensures at c.write_parts.ensures.all) c.write_parts.ensures.failed
      (rw c.message.ensures at c.write_parts.ensures.front),
  λ differ. (refl, refl),
)

pub returns-in-Err-clause-refused_where : goal.returns-in-Err-clause-refused_where
returns-in-Err-clause-refused_where g c =
    refused_where (texts c.args.words.now) _ _ c.in-Err.cause _ refl c.status.ensures
    (c.in-Err.ensures.cause (g.O.Sink.written c.args.out.now) (g.O.Sink.faults c.args.out.now)) c.in-Err.ensures.refused_where

pub returns-in-Err-clause-words_where : goal.returns-in-Err-clause-words_where
returns-in-Err-clause-words_where g c = words_where _ _ c.in-Err.cause _ refl c.status.ensures c.in-Err.ensures.words_where

pub returns-in-Err-clause-completes : goal.returns-in-Err-clause-completes
returns-in-Err-clause-completes g c =
    completes (texts c.args.words.now) _ c.in-Err.cause _ c.status.ensures
    (c.in-Err.ensures.cause (g.O.Sink.written c.args.out.now) (g.O.Sink.faults c.args.out.now))

pub returns-in-Ok-clause-done : goal.returns-in-Ok-clause-done
returns-in-Ok-clause-done g c = λ done.
    let answered = c.in-Ok.answered in
    let written = done_written (text_of answered.rows) (notes_text answered.notes) c.write_answer.result _ _ _ _ _ _ _ _ c.write_answer.ensures.written done in (
      answered.notes,
      asks_then (texts c.args.words.now) (λ command. AnswersCommand command (g.S.Store.content c.args.store.now) answered.rows answered.notes) _
          (λ command answers. record { rows = answered.rows; answers = answers; written = written.0 }) c.in-Ok.ensures.answers,
      written.1,
      c.write_answer.ensures.silent done,
    )

pub returns-in-Ok-clause-cause : goal.returns-in-Ok-clause-cause
returns-in-Ok-clause-cause g c = λ other.
    let answered = c.in-Ok.answered in
    let failed = failed_written (text_of answered.rows) (notes_text answered.notes) c.write_answer.result _ _ _ _ _ _ _ _ c.write_answer.ensures.written other in (
      cause.WriteFailed,
      answered.notes,
      failed.0,
      asks_then (texts c.args.words.now) (λ command. AnswersCommand command (g.S.Store.content c.args.store.now) answered.rows answered.notes) _
          (λ command answers. (failed.1, record { rows = answered.rows; answers = answers; written = failed.2 })) c.in-Ok.ensures.answers,
      failed.3,
      λ differ. absurd (differ refl),
    )

pub returns-in-Ok-clause-words_where : goal.returns-in-Ok-clause-words_where
returns-in-Ok-clause-words_where g c = λ err. absurd (asks_no_fault (texts c.args.words.now) _ c.in-Ok.ensures.answers err)

pub returns-in-Ok-clause-words_first : goal.returns-in-Ok-clause-words_first
returns-in-Ok-clause-words_first g c = λ words. absurd (not_words_written _ _ _ _ _ _ _ _ _ _ _ c.write_answer.ensures.written words)

pub returns-in-Ok-clause-refused_where : goal.returns-in-Ok-clause-refused_where
returns-in-Ok-clause-refused_where g c =
    done_where (texts c.args.words.now) (g.S.Store.content c.args.store.now) _ _ c.in-Ok.answered refl c.in-Ok.ensures.refused_where

pub returns-in-Ok-clause-completes : goal.returns-in-Ok-clause-completes
returns-in-Ok-clause-completes g c =
    let unless = done_unless_risen _ _ _ _ _ _ _ _ _ _ _ c.write_answer.ensures.written in
    if_ok (command_of (texts c.args.words.now)) _ (λ command is known together kept wrote. unless wrote)

pub returns-in-Ok-clause-untouched : goal.returns-in-Ok-clause-untouched
returns-in-Ok-clause-untouched g c = λ not_done not_outside.
    absurd (⊎_elim not_done not_outside (done_or_outside _ _ _ _ _ _ _ _ _ _ _ c.write_answer.ensures.written))

pub returns-in-Ok-clause-unchanged : goal.returns-in-Ok-clause-unchanged
returns-in-Ok-clause-unchanged g c = λ not_done not_outside.
    absurd (⊎_elim not_done not_outside (done_or_outside _ _ _ _ _ _ _ _ _ _ _ c.write_answer.ensures.written))

pub returns-in-Ok-clause-out_tells : goal.returns-in-Ok-clause-out_tells
returns-in-Ok-clause-out_tells g c = out_tells _ _ _ _ _ _ _ _ _ _ _ c.write_answer.ensures.written

pub returns-in-Ok-clause-err_tells : goal.returns-in-Ok-clause-err_tells
returns-in-Ok-clause-err_tells g c = err_tells _ _ _ _ _ _ _ _ _ _ _ c.write_answer.ensures.written
