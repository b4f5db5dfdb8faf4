-- The fields in front, the list, and the fields behind it, one after another.
use Rattle.std.proofs.Common.{◌++◌, [], ◌∷◌, codes}
use Rattle.pgr_outside.specs.Faults.{OnErr-always}
use Rattle.pgr_outside.specs.Parts.{part_text}
use Rattle.pgr_rows.specs.Layout.{line_of}
use Rattle.pgr_rows.specs.ListText.{list_text}
use Rattle.pgr_rows.proofs.ListLines.{as_whole, as_whole_front, first_front, second_added, second_front, two_fields}
use Rattle.pgr_rows.proofs.list.gather_list_line.Goals as goal

pub returns-in_err-gather_field-clause-front : goal.returns-in_err-gather_field-clause-front
returns-in_err-gather_field-clause-front g c =
    let line = c.args.line in
    let kind = line.kind.now in
    let id = part_text line.id in
    let text = list_text line.ids.now in
    let comma = codes "," in
    let back = line_of (part_text line.source ∷ part_text line.target ∷ part_text line.cost ∷ []) in
    let rest = text ++ (comma ++ back) in
    let whole = two_fields kind id comma rest in
    OnErr-always _ (as_whole_front _ _ c.args.piece.now.bytes _ _ whole
    (first_front _ _ c.args.piece.now.bytes (kind ++ comma) ((id ++ comma) ++ rest) c.in_err-gather_field.ensures.front))

pub returns-in_err-gather_field-2-clause-front : goal.returns-in_err-gather_field-2-clause-front
returns-in_err-gather_field-2-clause-front g c =
    let line = c.args.line in
    let kind = line.kind.now in
    let id = part_text line.id in
    let text = list_text line.ids.now in
    let comma = codes "," in
    let back = line_of (part_text line.source ∷ part_text line.target ∷ part_text line.cost ∷ []) in
    let rest = text ++ (comma ++ back) in
    let whole = two_fields kind id comma rest in
    OnErr-always _ (as_whole_front _ _ c.args.piece.now.bytes _ _ whole
    (second_front _ _ _ c.args.piece.now.bytes (kind ++ comma) ((id ++ comma) ++ rest) _ c.in_ok-gather_field.ensures.all
    (first_front _ _ _ (id ++ comma) rest c.in_err-gather_field-2.ensures.front)))

pub returns-in_err-gather_list-clause-front : goal.returns-in_err-gather_list-clause-front
returns-in_err-gather_list-clause-front g c =
    let line = c.args.line in
    let kind = line.kind.now in
    let id = part_text line.id in
    let text = list_text line.ids.now in
    let comma = codes "," in
    let back = line_of (part_text line.source ∷ part_text line.target ∷ part_text line.cost ∷ []) in
    let rest = text ++ (comma ++ back) in
    let whole = two_fields kind id comma rest in
    OnErr-always _ (as_whole_front _ _ c.args.piece.now.bytes _ _ whole
    (second_front _ _ _ c.args.piece.now.bytes (kind ++ comma) ((id ++ comma) ++ rest) _ c.in_ok-gather_field.ensures.all
    (second_front _ _ _ _ (id ++ comma) rest _ c.in_ok-gather_field-2.ensures.all
    (first_front _ _ _ text (comma ++ back) c.in_err-gather_list.ensures.front))))

pub returns-in_err-gather-clause-front : goal.returns-in_err-gather-clause-front
returns-in_err-gather-clause-front g c =
    let line = c.args.line in
    let kind = line.kind.now in
    let id = part_text line.id in
    let text = list_text line.ids.now in
    let comma = codes "," in
    let back = line_of (part_text line.source ∷ part_text line.target ∷ part_text line.cost ∷ []) in
    let rest = text ++ (comma ++ back) in
    let whole = two_fields kind id comma rest in
    OnErr-always _ (as_whole_front _ _ c.args.piece.now.bytes _ _ whole
    (second_front _ _ _ c.args.piece.now.bytes (kind ++ comma) ((id ++ comma) ++ rest) _ c.in_ok-gather_field.ensures.all
    (second_front _ _ _ _ (id ++ comma) rest _ c.in_ok-gather_field-2.ensures.all
    (second_front _ _ _ _ text (comma ++ back) _ c.in_ok-gather_list.ensures.all
    (first_front _ _ _ comma back c.in_err-gather.ensures.front)))))

pub returns-in_err-gather_line-clause-front : goal.returns-in_err-gather_line-clause-front
returns-in_err-gather_line-clause-front g c =
    let line = c.args.line in
    let kind = line.kind.now in
    let id = part_text line.id in
    let text = list_text line.ids.now in
    let comma = codes "," in
    let back = line_of (part_text line.source ∷ part_text line.target ∷ part_text line.cost ∷ []) in
    let rest = text ++ (comma ++ back) in
    let whole = two_fields kind id comma rest in
    OnErr-always _ (as_whole_front _ _ c.args.piece.now.bytes _ _ whole
    (second_front _ _ _ c.args.piece.now.bytes (kind ++ comma) ((id ++ comma) ++ rest) _ c.in_ok-gather_field.ensures.all
    (second_front _ _ _ _ (id ++ comma) rest _ c.in_ok-gather_field-2.ensures.all
    (second_front _ _ _ _ text (comma ++ back) _ c.in_ok-gather_list.ensures.all
    (second_front _ _ _ _ comma back _ c.in_ok-gather.ensures.all c.in_err-gather_line.ensures.front)))))

pub returns-clause-all : goal.returns-clause-all
returns-clause-all g c =
    let line = c.args.line in
    let kind = line.kind.now in
    let id = part_text line.id in
    let text = list_text line.ids.now in
    let comma = codes "," in
    let back = line_of (part_text line.source ∷ part_text line.target ∷ part_text line.cost ∷ []) in
    let rest = text ++ (comma ++ back) in
    let whole = two_fields kind id comma rest in
    as_whole _ _ c.args.piece.now.bytes _ _ _ whole
    (second_added _ _ _ c.args.piece.now.bytes (kind ++ comma) ((id ++ comma) ++ rest) _ _ c.in_ok-gather_field.ensures.all
    (second_added _ _ _ _ (id ++ comma) rest _ _ c.in_ok-gather_field-2.ensures.all
    (second_added _ _ _ _ text (comma ++ back) _ _ c.in_ok-gather_list.ensures.all
    (second_added _ _ _ _ comma back _ _ c.in_ok-gather.ensures.all
    c.in_ok-gather_line.ensures.all))))
