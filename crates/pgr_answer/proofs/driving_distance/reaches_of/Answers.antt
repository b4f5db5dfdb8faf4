-- Each root adds the vertices within the distance of it.
use Rattle.std.proofs.Common.{◌∙◌, ◌<◌, length, get_or, arith}
use Rattle.std.specs.Ordering.{nat_cmp}
use Rattle.std.proofs.lemmas.List.{take_all}
use Rattle.std.proofs.lemmas.List.Elements.{All-push}
use Rattle.pgr_walks.specs.LinksOf.{LinksOf}
use Rattle.pgr_reach.specs.declared.reach.Reach.{Reach}
use Rattle.pgr_reach.specs.Within.{AreWithin}
use Rattle.pgr_answer.proofs.ReachTables.{roots_more}
use Rattle.pgr_answer.proofs.driving_distance.reaches_of.Goals as goal

pub within-requires-clause-root : goal.within-requires-clause-root
within-requires-clause-root g c =
    let below : get_or c.args.roots.now c.loop-root.root-index 0 < length c.args.network.now.names = c.requires.roots c.loop-root.root-index 0 (omega arith) in
    omega (arith, below, c.args.network.now.size_is)

pub loop-root-preserved : goal.loop-root-preserved
loop-root-preserved g c =
    let reach = c.in_ok-reach.reach in
    let Good = λ (reach : Reach). AreWithin nat_cmp (LinksOf g.G.Graph c.args.network.now.graph) reach.root c.args.distance reach.rows.items in
    record {
      roots = roots_more c.args.roots.now c.loop-root.root-index 0 _ _ reach (omega arith) c.loop-root.invariant.roots c.in_ok-push.ensures.items c.in_ok-reach.ensures.root;
      within = rw c.in_ok-push.ensures.items (All-push Good _ reach c.loop-root.invariant.within (rw c.in_ok-reach.ensures.root c.in_ok-reach.ensures.within));
    }

pub returns-clause-roots : goal.returns-clause-roots
returns-clause-roots g c = c.loop-root.invariant.roots ∙ take_all c.loop-root.root-index c.args.roots.now (omega (arith, c.loop-root-test.false))
