use Rattle.std.proofs.Common.{ℕ, List, refl, sym, subst, arith}
use Rattle.std.specs.Ordering.{nat_cmp}
use Rattle.pgr_walks.specs.declared.link.LinkOf.{LinkOf}
use Rattle.pgr_walks.specs.LinksOf.{LinksOf}
use Rattle.pgr_ksp.specs.Routes.{AreFirstK}
use Rattle.pgr_answer.proofs.KspFound.{first_so_far}
use Rattle.pgr_answer.proofs.ksp.first_routes.Goals as goal

pub returns-in_default : goal.returns-in_default
returns-in_default g c =
    let inv = c.loop-turn.invariant in
    let same = rw c.in_default.is at c.in_ok-route.ensures.same in
    let first = rw same at c.given_routes_are_first.ensures in
    let all = (rw c.in_default.is at c.in_ok-route.ensures.none).0 refl in
    subst (λ (xs : List (List (LinkOf ℕ))). AreFirstK nat_cmp (LinksOf g.G.Graph c.args.graph.now) c.args.start c.args.end c.args.k xs) (sym c.from_vec.ensures)
    (first_so_far (LinksOf g.G.Graph) _ c.args.graph.now _ c.args.start _ c.args.end c.args.k _ c.loop-turn.routes.items inv.graph inv.start inv.end inv.given first
    (omega (arith, inv.count, c.loop-turn-test.true)) (λ h. all))

pub returns : goal.returns
returns g c =
    let inv = c.loop-turn.invariant in
    subst (λ (xs : List (List (LinkOf ℕ))). AreFirstK nat_cmp (LinksOf g.G.Graph c.args.graph.now) c.args.start c.args.end c.args.k xs) (sym c.from_vec-2.ensures)
    (first_so_far (LinksOf g.G.Graph) _ c.args.graph.now _ c.args.start _ c.args.end c.args.k _ c.loop-turn.routes.items inv.graph inv.start inv.end inv.given
    c.given_routes_are_first-2.ensures
    (omega (arith, inv.count, c.loop-turn.auto.turn-end)) (λ h. absurd (omega (arith, h, inv.count, c.loop-turn-test.false))))
