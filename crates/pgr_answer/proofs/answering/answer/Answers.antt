-- A refusal of the files, or of their tables together, is the answer; where there is none, there is no first refusal.
use Rattle.std.proofs.Common.{◌≡◌, refl, inl, inr, sym, subst, None}
use Rattle.pgr_answer.specs.Files.{files_of}
use Rattle.pgr_answer.specs.Together.{refusal_together}
use Rattle.pgr_answer.specs.declared.refused.Refused.TheVariants.{Memory}
use Rattle.pgr_answer.proofs.FirstRefusals.{first_of_file, first_together, outside_among, refused_read, not_together, no_first, if_err, errs_this, errs_outside}
use Rattle.pgr_answer.proofs.answering.answer.Goals as goal

pub returns-in_err-tables-clause-refused : goal.returns-in_err-tables-clause-refused
returns-in_err-tables-clause-refused g c = if_err c.from_residual.result c.in_err-tables.field-0.0 _ c.from_residual.ensures.1 (λ _. inl c.in_err-tables.ensures.refused)

pub returns-in_err-tables-clause-first : goal.returns-in_err-tables-clause-first
returns-in_err-tables-clause-first g c refused first =
    errs_this c.from_residual.result c.in_err-tables.field-0.0 refused c.from_residual.ensures.1
    (first_of_file (g.S.Store.content c.args.store.now) (g.S.Store.faults c.args.store.now) (g.S.Store.faults c.read_tables.new.store)
    c.args.command.now c.in_err-tables.field-0.0 refused c.in_err-tables.ensures.refused first)

pub returns-in_err-tables-clause-completes : goal.returns-in_err-tables-clause-completes
returns-in_err-tables-clause-completes g c known together =
    errs_outside c.from_residual.result c.in_err-tables.field-0.0 c.from_residual.ensures.1
    (outside_among (g.S.Store.content c.args.store.now) (g.S.Store.faults c.args.store.now) (g.S.Store.faults c.read_tables.new.store)
    (files_of c.args.command.now) c.in_err-tables.field-0.0 c.in_err-tables.ensures.refused known)

pub returns-in_err-judge_together-clause-refused : goal.returns-in_err-judge_together-clause-refused
returns-in_err-judge_together-clause-refused g c =
    if_err c.from_residual-in_err-judge_together.result c.in_err-judge_together.field-0.0 _ c.from_residual-in_err-judge_together.ensures.1
    (λ _. inr (refused_read (g.S.Store.content c.args.store.now) c.args.command.now c.in_err-judge_together.field-0.0 c.in_ok-tables.ensures.tables
    (sym c.in_err-judge_together.ensures)))

pub returns-in_err-judge_together-clause-first : goal.returns-in_err-judge_together-clause-first
returns-in_err-judge_together-clause-first g c refused first =
    errs_this c.from_residual-in_err-judge_together.result c.in_err-judge_together.field-0.0 refused c.from_residual-in_err-judge_together.ensures.1
    (first_together (g.S.Store.content c.args.store.now) (g.S.Store.faults c.args.store.now) (g.S.Store.faults c.read_tables.new.store)
    c.args.command.now c.in_err-judge_together.field-0.0 refused
    (refused_read (g.S.Store.content c.args.store.now) c.args.command.now c.in_err-judge_together.field-0.0 c.in_ok-tables.ensures.tables
    (sym c.in_err-judge_together.ensures)) first)

pub returns-in_err-judge_together-clause-completes : goal.returns-in_err-judge_together-clause-completes
returns-in_err-judge_together-clause-completes g c known together =
    absurd (not_together (g.S.Store.content c.args.store.now) (g.S.Store.faults c.args.store.now) (g.S.Store.faults c.read_tables.new.store)
    c.args.command.now c.in_err-judge_together.field-0.0
    (refused_read (g.S.Store.content c.args.store.now) c.args.command.now c.in_err-judge_together.field-0.0 c.in_ok-tables.ensures.tables
    (sym c.in_err-judge_together.ensures)) together)

pub returns-in_err-rows-clause-refused : goal.returns-in_err-rows-clause-refused
returns-in_err-rows-clause-refused g c =
    if_err c.from_residual-in_err-rows.result Memory _ c.from_residual-in_err-rows.ensures.1 (λ other. absurd (other refl))

pub returns-in_err-rows-clause-first : goal.returns-in_err-rows-clause-first
returns-in_err-rows-clause-first g c refused first =
    errs_this c.from_residual-in_err-rows.result Memory refused c.from_residual-in_err-rows.ensures.1 (inr (inl refl))

pub returns-in_err-rows-clause-completes : goal.returns-in_err-rows-clause-completes
returns-in_err-rows-clause-completes g c known together = errs_outside c.from_residual-in_err-rows.result Memory c.from_residual-in_err-rows.ensures.1 (inl refl)

pub returns-clause-allowed : goal.returns-clause-allowed
returns-clause-allowed g c =
    let read = c.in_ok-tables.ensures.tables in
    record {
      contents = read.contents;
      accepted = read.accepted;
      together = subst (λ tables. refusal_together c.args.command.now tables ≡ None) read.tables (sym c.in_ok-judge_together.ensures);
      allowed = rw read.tables at c.in_ok-rows.ensures.rows;
      noted = rw c.from_vec.ensures (rw read.tables at c.in_ok-rows.ensures.notes);
    }

pub returns-clause-first : goal.returns-clause-first
returns-clause-first g c refused first =
    let read = c.in_ok-tables.ensures.tables in
    absurd (no_first (g.S.Store.content c.args.store.now) (g.S.Store.faults c.args.store.now) (g.S.Store.faults c.args.store.now) c.args.command.now refused read.contents
    read.accepted (subst (λ tables. refusal_together c.args.command.now tables ≡ None) read.tables (sym c.in_ok-judge_together.ensures)) first)

pub allowed_rows-requires-clause-factor : goal.allowed_rows-requires-clause-factor
allowed_rows-requires-clause-factor g c = (c.fields_of_well_formed_commands_are_in_form.ensures c.args.command.now c.requires).factor

pub allowed_rows-requires-clause-places : goal.allowed_rows-requires-clause-places
allowed_rows-requires-clause-places g c = c.in_ok-tables.ensures.places
