-- The route is put behind what was found, or there is no allowed walk.
use Rattle.std.proofs.Common.{◌≡◌, ℕ, List, rules, subst, true}
use Rattle.std.specs.Prelude.{Contains}
use Rattle.std.specs.Ordering.{nat_cmp}
use Rattle.std.specs.Result.{is_ok}
use Rattle.pgr_walks.specs.declared.link.LinkOf.{LinkOf}
use Rattle.pgr_walks.specs.LinksOf.{LinksOf}
use Rattle.pgr_walks.specs.RouteOrder.{IsLeast}
use Rattle.pgr_turns.specs.Restrictions.{IsAllowedWalk}
use Rattle.pgr_turns.specs.Seen.{restrictions_of}
use Rattle.pgr_answer.proofs.ClassTables.{links_named}
use Rattle.pgr_answer.proofs.FoundLemmas.{extends_some, extends_none}
use Rattle.pgr_answer.proofs.AllowedById.{allowed_route_is, none_allowed}
use Rattle.pgr_answer.specs.Networks.{id_links}
use Rattle.pgr_answer.proofs.NetworkLemmas.{is_network}
use Rattle.pgr_answer.proofs.trsp.allow_pair.Goals as goal

pub returns-in_ok-push : goal.returns-in_ok-push
returns-in_ok-push g c =
    let pushed : is_ok c.push.result ≡ true = search rules in
    let names = c.args.network.now.names in
    let links = id_links c.args.network.now in
    let network = is_network c.args.network.now in
    let stand = links_named names links network.numbers _ _ (Contains links) network.numbered network.exactly (λ link. ((λ h. h), (λ h. h))) in
    let restrictions = restrictions_of c.args.turned.now in
    let least = subst (λ graph. IsLeast nat_cmp (IsAllowedWalk (LinksOf g.G.Graph graph) restrictions c.args.start c.args.end) c.in-Some.kept) c.requires.graph
    (rw c.in-Some.is at c.in_ok-kept.ensures.least) in
    let shows = allowed_route_is names network.ends.rise (λ m n. c.numbers_rise_with_ids.ensures.one names m n network.ends.rise)
    (λ walk other. c.route_order_is_kept.ensures names walk other network.ends.rise) (LinksOf g.G.Graph c.args.network.now.graph) links stand
    restrictions c.args.start c.args.end c.requires.start c.requires.end c.requires.differ c.in-Some.kept least in
    extends_some _ _ _ c.args.start c.args.end c.in-Some.kept _ _ shows (rw pushed at c.push.ensures.items)

pub returns-in_default : goal.returns-in_default
returns-in_default g c =
    let names = c.args.network.now.names in
    let links = id_links c.args.network.now in
    let network = is_network c.args.network.now in
    let stand = links_named names links network.numbers _ _ (Contains links) network.numbered network.exactly (λ link. ((λ h. h), (λ h. h))) in
    let restrictions = restrictions_of c.args.turned.now in
    let none = subst (λ graph. (walk : List (LinkOf ℕ)) → IsAllowedWalk (LinksOf g.G.Graph graph) restrictions c.args.start c.args.end walk → ⊥) c.requires.graph
    (rw c.in_default.is at c.in_ok-kept.ensures.none) in
    extends_none _ _ _ (record { end = c.args.end; start = c.args.start }) _
    (none_allowed names network.ends.rise (λ m n. c.numbers_rise_with_ids.ensures.one names m n network.ends.rise)
    (λ walk other. c.route_order_is_kept.ensures names walk other network.ends.rise) (LinksOf g.G.Graph c.args.network.now.graph) (Contains links) stand
    restrictions c.args.start c.args.end c.requires.start c.requires.end none)
