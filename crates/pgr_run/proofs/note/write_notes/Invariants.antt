use Rattle.std.proofs.Common.{◌≡◌, ◌≤◌, drop, []}
use Rattle.std.specs.Prelude.{flat_map}
use Rattle.pgr_outside.specs.Sink.{HasGained}
use Rattle.pgr_run.specs.Messages.{note_text, notes_text}
use Rattle.pgr_run.proofs.note.write_notes.Given as goal

-- of the lines all before this note were added
abbrev pub invariant-loop-note : goal.invariant-loop-note
invariant-loop-note g l = record {
  gained : HasGained (g.E.Sink.written l.fn.err) (g.E.Sink.written l.err) (notes_text l.notes) (flat_map note_text (drop l.note-index l.notes));
  faults : g.E.Sink.faults l.fn.err ≤ g.E.Sink.faults l.err;
  silent : l.notes ≡ [] → l.err ≡ l.fn.err;
}
