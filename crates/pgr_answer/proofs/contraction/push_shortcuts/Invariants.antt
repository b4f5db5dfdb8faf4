use Rattle.std.proofs.Common.{◌≡◌, ◌++◌, ◌∷◌, []}
use Rattle.std.specs.Prelude.{flat_map}
use Rattle.pgr_answer.specs.Contraction.{shortcut_row}
use Rattle.pgr_answer.proofs.contraction.push_shortcuts.Given as goal

-- the rows of those so far were appended
abbrev pub invariant-loop-shortcut : goal.invariant-loop-shortcut
invariant-loop-shortcut l = l.rows.items ≡ l.fn.rows.items ++ flat_map (λ shown. shortcut_row shown ∷ []) l.yielded
