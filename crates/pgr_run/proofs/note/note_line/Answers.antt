-- The numbers that a line shows are those of the note.
use Rattle.std.proofs.Common.{w64, rules, append_assoc}
use Rattle.std.proofs.Math.Facts.{to_z-of_z}
use mir.Val.{SFits}
use Rattle.pgr_run.proofs.note.note_line.Goals as goal

pub returns : goal.returns
returns c =
    let note = c.args.note.now in
    let start : SFits w64 note.start = search rules in
    let edge : SFits w64 note.link.edge = search rules in
    let from : SFits w64 note.link.from = search rules in
    let to : SFits w64 note.link.to = search rules in
    rw (
      to_z-of_z {w = w64} {z = note.start} start,
      to_z-of_z {w = w64} {z = note.link.edge} edge,
      to_z-of_z {w = w64} {z = note.link.from} from,
      to_z-of_z {w = w64} {z = note.link.to} to,
    )
    (simp append_assoc)
