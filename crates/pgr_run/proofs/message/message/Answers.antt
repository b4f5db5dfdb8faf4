-- The text of the cause stands between the program's name and the line feed.
use Rattle.std.proofs.Common.{rules, ◌≡◌, ◌++◌, ◌∙◌, ap, length}
use Rattle.std.specs.Prelude.{codes}
use Rattle.pgr_run.proofs.Pieces.{six_parts}
use Rattle.pgr_run.proofs.message.message.Goals as goal

pub returns : goal.returns
returns c =
    let six : length c.text.result ≡ 6 = search rules in
    six_parts c.text.result _ (codes "pgr: ") (codes "\n") six ∙ ap (λ text. codes "pgr: " ++ text ++ codes "\n") c.text.ensures
