-- One state more is looked at.
use Rattle.std.proofs.Common.{◌≡◌, ◌∙◌, ◌+◌, ◌++◌, ◌∷◌, [], ℕ, List, sym, subst}
use Rattle.std.proofs.lemmas.Result.{IfOk-weaker}
use Rattle.pgr_turns.specs.Allowed.{AreTargets}
use Rattle.pgr_turns.specs.Seen.{vertex_at}
use Rattle.pgr_turns.proofs.AllowedLabels.{targets_hit, targets_miss}
use Rattle.pgr_turns.proofs.allowed.append_target.Goals as goal

pub returns-then-vertex_of-to : goal.returns-then-vertex_of-to
returns-then-vertex_of-to g c =
    let vertex = vertex_at g.G.Graph c.args.turned.now in
    targets_miss c.args.x vertex c.args.to c.args.targets.now.items c.requires.before (λ e. c.if-vertex_of-to.true (c.vertex_of.ensures.vertex ∙ e))

pub returns : goal.returns
returns g c =
    let vertex = vertex_at g.G.Graph c.args.turned.now in
    let old = c.args.targets.now.items in
    let new = c.push.new.list.items in
    IfOk-weaker c.push.result (λ _. new ≡ old ++ c.args.x ∷ []) (λ _. AreTargets (c.args.x + 1) vertex c.args.to new)
    (λ u pushed. subst (λ (ts : List ℕ). AreTargets (c.args.x + 1) vertex c.args.to ts) (sym pushed)
    (targets_hit c.args.x vertex c.args.to old c.requires.before (sym c.vertex_of.ensures.vertex ∙ c.if-vertex_of-to.false))) c.push.ensures
