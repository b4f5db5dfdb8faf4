use Rattle.std.proofs.Common.{sym, ◌∙◌}
use Rattle.pgr_words.proofs.Drafting.{is_repeated, is_bad, is_taken}
use Rattle.pgr_words.proofs.draft.Draft.take.Goals as goal

pub returns-then-is_given-clause-fault : goal.returns-then-is_given-clause-fault
returns-then-is_given-clause-fault c =
    is_repeated c.args.options.now c.args.place c.args.word.now c.in_ok-option.option c.in_ok-option.value.now c.args.self.now c.in_ok-option.ensures
    (rw (← c.as_slice.ensures.value) (sym c.is_given.ensures ∙ c.if-is_given.true))

pub returns-in-Err-Form-clause-fault : goal.returns-in-Err-Form-clause-fault
returns-in-Err-Form-clause-fault c =
    is_bad c.args.options.now c.args.place c.args.word.now c.in_ok-option.option c.in_ok-option.value.now c.args.self.now c.in_ok-option.ensures
    (rw (← c.as_slice.ensures.value) (sym c.is_given.ensures ∙ c.if-is_given.false))
    (rw c.in-Err-Form.field-0-is at c.in-Err-Form.ensures)

pub returns-clause-ok : goal.returns-clause-ok
returns-clause-ok c =
    is_taken c.args.options.now c.args.place c.args.word.now c.in_ok-option.option c.in_ok-option.value.now c.args.self.now
    (record { command = c.set_option.new.command; stood = c.push.new.self })
    c.in_ok-option.ensures
    (rw (← c.as_slice.ensures.value) (sym c.is_given.ensures ∙ c.if-is_given.false))
    c.in-Ok.ensures
    c.in_ok-push.ensures.items
