use Rattle.std.proofs.Common.{refl, []}
use Rattle.pgr_run.specs.Promise.{texts}
use Rattle.pgr_run.proofs.PromiseLemmas.{err_made, not_words, holds_refused, first_told, none_first}
use Rattle.pgr_run.proofs.running.answer_words.Goals as goal

pub returns-in_err-answered-clause-cause : goal.returns-in_err-answered-clause-cause
returns-in_err-answered-clause-cause g c =
    err_made _ _ _ c.from_residual-in_err-answered.ensures.1 (λ out faults.
    holds_refused (texts c.args.words.now) (record {
      content = g.S.Store.content c.args.store.now;
      names_before = g.S.Store.faults c.args.store.now;
      names_after = g.S.Store.faults c.answer.new.store;
      out_before = out;
      out_after = out;
      faults_before = faults;
      faults_after = faults;
      notes = [];
    })
    c.in_ok-command.command c.in_ok-command.ensures.verdict refl c.in_err-answered.field-0.0 c.in_err-answered.ensures.refused)

pub returns-in_err-answered-clause-words_first : goal.returns-in_err-answered-clause-words_first
returns-in_err-answered-clause-words_first g c =
    err_made _ _ _ c.from_residual-in_err-answered.ensures.1 (λ e. absurd (not_words c.in_err-answered.field-0.0 e))

pub returns-in_err-answered-clause-refused_where : goal.returns-in_err-answered-clause-refused_where
returns-in_err-answered-clause-refused_where g c =
    first_told (texts c.args.words.now) c.in_ok-command.command c.in_ok-command.ensures.verdict (g.S.Store.content c.args.store.now)
    _ c.in_err-answered.ensures.first _ c.in_err-answered.field-0.0 refl c.from_residual-in_err-answered.ensures.1

pub returns-clause-refused_where : goal.returns-clause-refused_where
returns-clause-refused_where g c =
    none_first (texts c.args.words.now) c.in_ok-command.command c.in_ok-command.ensures.verdict (g.S.Store.content c.args.store.now)
    _ c.in_ok-answered.ensures.first c.in_ok-answered.answered _ refl
