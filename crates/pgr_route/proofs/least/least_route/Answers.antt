use Rattle.std.proofs.Common.{◌≡◌, refl, sym, ◌∙◌, subst, arith}
use Rattle.pgr_route.specs.Chain.{walk_chain}
use Rattle.pgr_search.specs.Tight.{label_at, IsLeastTight}
use Rattle.pgr_route.proofs.TightWalks.{IsBest, walk_push, best_cost}
use Rattle.pgr_route.proofs.LeastWalk.{best_is_least, no_label_nowhere, label_there, label_gone}
use Rattle.pgr_route.proofs.least.least_route.Goals as goal

pub returns-then-is_none-clause-none : goal.returns-then-is_none-clause-none
returns-then-is_none-clause-none g c =
    no_label_nowhere _ _ c.args.room.now c.args.from (sym c.label.ensures ∙ label_gone c.label.result c.if-is_none.ensures)

pub loop-link-preserved : goal.loop-link-preserved
loop-link-preserved g c =
    let size = g.G.Graph.count c.args.g.now in
    let law = (g.met.G.Graph.lawful c.args.g.now).at c.loop-link.at c.loop-link.invariant.within in
    let link = c.in-Some.link in
    let from : link.from ≡ c.loop-link.at = c.in-Some.ensures.from in
    let least = c.in-Some.ensures.least in
    let best : IsBest size (g.G.Graph.outs c.args.g.now) c.args.room.now link =
    record { from_in = omega arith; least = subst (λ v. IsLeastTight (g.G.Graph.outs c.args.g.now v) c.args.room.now link) (sym from) least } in
    record {
      within = (law.out_ends link least.among).1;
      labelled = rw least.tight.there_is refl;
      best = rw c.in_ok-push.ensures
          (walk_push (IsBest size (g.G.Graph.outs c.args.g.now) c.args.room.now) c.args.from c.loop-link.links.items c.loop-link.at link c.loop-link.invariant.best best from);
    }

pub of-requires-clause-chain : goal.of-requires-clause-chain
of-requires-clause-chain g c = walk_chain
    (IsBest (g.G.Graph.count c.args.g.now) (g.G.Graph.outs c.args.g.now) c.args.room.now) c.args.from c.loop-link.links.items c.loop-link.at c.loop-link.invariant.best

pub of-requires-clause-cost : goal.of-requires-clause-cost
of-requires-clause-cost g c =
    let last = label_there (label_at c.args.room.now c.loop-link.at) c.loop-link.invariant.labelled in
    best_cost _ _ _ _ (g.met.G.Graph.lawful c.args.g.now) c.requires.fits c.loop-link.links.items c.args.from c.loop-link.at last.0 c.loop-link.invariant.best last.1

pub returns-clause-least : goal.returns-clause-least
returns-clause-least g c = λ targets holds.
    let last = label_there (label_at c.args.room.now c.loop-link.at) c.loop-link.invariant.labelled in
    rw c.of.ensures (best_is_least _ _ _ _ (g.met.G.Graph.lawful c.args.g.now) targets holds.final
    (c.least_walks_follow_tight_links.ensures.first targets c.args.room.now holds.final) c.loop-link.links.items c.args.from c.loop-link.at last.0
    c.loop-link.invariant.best last.1 c.in_default.ensures.none)
