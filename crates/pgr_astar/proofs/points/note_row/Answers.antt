use Rattle.std.proofs.Common.{rules, None, cond, get_or, Some, ap, ◌∙◌, to_z-of_z, w64}
use mir.Val.{SFits}
use Rattle.std.specs.Option.{option_or}
use Rattle.std.specs.Ordering.{int_eq}
use Rattle.pgr_numbers.specs.Names.{id_at}
use Rattle.pgr_astar.specs.Points.{second_point}
use Rattle.pgr_astar.proofs.PointLemmas.{both_ends}
use Rattle.pgr_astar.proofs.points.note_row.Goals as goal

pub returns-in-Some-clause-notes : goal.returns-in-Some-clause-notes
returns-in-Some-clause-notes c = λ v below.
    let name = id_at c.args.names.now v in
    let source : SFits w64 c.args.row.source = search rules in
    let target : SFits w64 c.args.row.target = search rules in
    let x1 : SFits w64 c.in-Some.place.x1 = search rules in
    let y1 : SFits w64 c.in-Some.place.y1 = search rules in
    let x2 : SFits w64 c.in-Some.place.x2 = search rules in
    let y2 : SFits w64 c.in-Some.place.y2 = search rules in
    let first = simp to_z-of_z at (c.note.ensures.notes v below) in
    let second = simp to_z-of_z at (c.note-in-Some.ensures.notes v below) in
    second
    ∙ ap (λ o. option_or o (cond (int_eq c.args.row.target name) (Some (second_point c.in-Some.place)) None)) first
    ∙ both_ends (get_or c.args.points.now.items v None) c.args.row c.in-Some.place name c.in-Some.is
