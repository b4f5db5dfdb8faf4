-- The targets are states, and the starts have their labels.
use Rattle.std.proofs.Common.{ℕ, List, sym, subst}
use Rattle.pgr_walks.specs.LinksOf.{LinksOf}
use Rattle.pgr_turns.specs.Allowed.{AreTargets}
use Rattle.pgr_turns.specs.Seen.{vertex_at}
use Rattle.pgr_turns.proofs.AllowedLabels.{targets_below, search_holds}
use Rattle.pgr_turns.proofs.allowed.search_allowed.Goals as goal

pub labels_until-requires-clause-targets : goal.labels_until-requires-clause-targets
labels_until-requires-clause-targets g c =
    let size = g.M.Graph.count c.args.turned.now.moved in
    let vertex = vertex_at g.G.Graph c.args.turned.now in
    let are : AreTargets size vertex c.args.to c.as_slice.result.now = subst (λ (ts : List ℕ). AreTargets size vertex c.args.to ts)
    (sym c.as_slice.ensures.value) c.in_ok-targets.ensures in
    targets_below size vertex c.args.to c.as_slice.result.now are

pub returns-clause-holds : goal.returns-clause-holds
returns-clause-holds g c = λ start there.
    let size = g.M.Graph.count c.args.turned.now.moved in
    let vertex = vertex_at g.G.Graph c.args.turned.now in
    let are : AreTargets size vertex c.args.to c.as_slice.result.now = subst (λ (ts : List ℕ). AreTargets size vertex c.args.to ts)
    (sym c.as_slice.ensures.value) c.in_ok-targets.ensures in
    search_holds size (LinksOf g.M.Graph c.args.turned.now.moved) vertex c.args.to c.as_slice.result.now c.args.starts.now c.labels_until.new.room are c.labels_until.ensures.labels
    c.labels_until.ensures.bound start there
