-- The row of one shortcut after another.
use Rattle.std.proofs.Common.{rules, [], ◌∷◌, ◌++◌, ap, ◌∙◌}
use Rattle.std.proofs.lemmas.Iterator.Adapters.{YieldsList-from_vec}
use Rattle.std.proofs.lemmas.Iterator.Consumers.{YieldsList-end}
use Rattle.std.proofs.lemmas.List.Concat.{flat_map_single}
use Rattle.pgr_answer.specs.Contraction.{shortcut_row}
use Rattle.pgr_answer.proofs.ContractionRows.{more_rows, all_rows}
use Rattle.pgr_answer.proofs.contraction.push_shortcuts.Goals as goal

pub loop-shortcut-preserved : goal.loop-shortcut-preserved
loop-shortcut-preserved c =
    more_rows (λ shown. shortcut_row shown ∷ []) c.args.rows.now.items c.loop-shortcut.rows.items _ c.loop-shortcut.yielded _ c.loop-shortcut.invariant (search rules)

pub returns : goal.returns
returns c =
    let shortcuts = c.args.shortcuts.items in
    let end = YieldsList-end (YieldsList-from_vec shortcuts (search rules) (search rules)) c.loop-shortcut.yielded _ c.loop-shortcut.yielded_by _ c.next.new.self c.in-None.is
    c.next.ensures.steps in
    all_rows (λ shown. shortcut_row shown ∷ []) c.args.rows.now.items c.loop-shortcut.rows.items c.loop-shortcut.yielded shortcuts c.loop-shortcut.invariant end.0
    ∙ ap (λ rows. c.args.rows.now.items ++ rows) (flat_map_single shortcut_row shortcuts)
