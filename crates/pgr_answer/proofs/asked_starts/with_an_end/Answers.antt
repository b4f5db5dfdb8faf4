-- Without an end no start has one, and with an end each has.
use Rattle.std.proofs.Common.{sym, ◌∙◌}
use Rattle.pgr_answer.proofs.StartLemmas.{some_end, all_listed}
use Rattle.pgr_answer.proofs.asked_starts.with_an_end.Goals as goal

pub returns-else-is_empty : goal.returns-else-is_empty
returns-else-is_empty c = all_listed c.args.starts.now c.args.ends.now (some_end c.args.ends.now (sym c.is_empty.ensures ∙ c.if-is_empty.false))
