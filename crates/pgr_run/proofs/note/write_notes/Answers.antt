-- Each line comes behind those of the notes before.
use Rattle.std.proofs.Common.{rules, refl, ap, ◌+◌, [], length, drop, arith}
use Rattle.pgr_outside.specs.Faults.{OnErr-always}
use Rattle.pgr_outside.specs.Parts.{texts_next, texts_end}
use Rattle.pgr_outside.specs.Sink.{HasGained-none, HasGained-all, HasGained-step, HasGained-stop}
use Rattle.pgr_run.specs.Messages.{note_text, notes_text}
use Rattle.pgr_run.proofs.PromiseLemmas.{gained_all}
use Rattle.pgr_run.proofs.note.write_notes.Goals as goal

pub returns-in_err-write_parts-clause-front : goal.returns-in_err-write_parts-clause-front
returns-in_err-write_parts-clause-front g c =
    let notes = c.args.notes.now in
    let i = c.loop-note.note-index in
    OnErr-always _ (HasGained-stop _ _ _ _ _ [] _ (notes_text (drop (i + 1) notes)) c.loop-note.invariant.gained
    (texts_next note_text notes i _ (search rules)) (rw c.note_line.ensures at c.in_err-write_parts.ensures.front))

pub returns-in_err-write_parts-clause-silent : goal.returns-in_err-write_parts-clause-silent
returns-in_err-write_parts-clause-silent g c = λ none. absurd (omega (arith, ap length none, c.loop-note-test.true))

pub loop-note-init : goal.loop-note-init
loop-note-init g c = record { gained = HasGained-none _ _; faults = omega arith; silent = λ none. refl }

pub loop-note-preserved : goal.loop-note-preserved
loop-note-preserved g c =
    let notes = c.args.notes.now in
    let i = c.loop-note.note-index in
    let added = rw c.note_line.ensures at c.in_ok-write_parts.ensures.all in
    record {
      gained = HasGained-step _ _ _ _ _ [] _ (notes_text (drop (i + 1) notes)) [] c.loop-note.invariant.gained
          (texts_next note_text notes i _ (search rules)) (HasGained-all _ _ _ [] added refl);
      faults = omega (arith, c.loop-note.invariant.faults, c.write_parts.ensures.faults);
      silent = λ none. absurd (omega (arith, ap length none, c.loop-note-test.true));
    }

pub returns-clause-all : goal.returns-clause-all
returns-clause-all g c =
    let all = texts_end note_text c.args.notes.now c.loop-note.note-index [] (search rules) in
    gained_all _ _ _ (rw all at c.loop-note.invariant.gained)
