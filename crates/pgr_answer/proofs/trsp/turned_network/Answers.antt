-- An edge has at most two ends, so the states are few; and the restrictions don't take the sum of the costs too far, so the states fit.
use Rattle.std.proofs.Common.{◌≡◌, ◌≤◌, ◌+◌, ◌*◌, ⊎_elim, length, sym, ap, subst, ◌∙◌}
use Rattle.std.proofs.lemmas.Result.{IfOk-weaker}
use Rattle.pgr_walks.specs.Walk.{cost_of}
use Rattle.pgr_walks.specs.LinksOf.{LinksOf}
use Rattle.pgr_graph.specs.Links.{IsLinkOfTable}
use Rattle.pgr_graph.specs.Restricted.{table_cost}
use Rattle.pgr_table.specs.Rows.{greatest, most_elements}
use Rattle.pgr_turns.specs.Trie.{elements}
use Rattle.pgr_numbers.specs.Names.{named}
use Rattle.pgr_answer.proofs.ClassTables.{links_named}
use Rattle.pgr_answer.proofs.RestrictedSums.{bounded, elements_nonempty}
use Rattle.pgr_answer.proofs.TwoEnds.{same_ends, same_number_ends, few_states}
use Rattle.pgr_answer.specs.Networks.{id_links}
use Rattle.pgr_answer.proofs.NetworkLemmas.{is_network}
use Rattle.pgr_answer.proofs.trsp.turned_network.Goals as goal

pub make-requires : goal.make-requires
make-requires g c =
    let names = c.args.network.now.names in
    let links = id_links c.args.network.now in
    let network = is_network c.args.network.now in
    let Has = IsLinkOfTable c.args.tables.now.edges c.args.directed in
    let stand = links_named names links network.numbers _ _ Has network.numbered network.exactly c.requires.links in
    let few = c.edges_with_two_ends_have_few_states.ensures
    (λ link other has also edges. same_number_ends names (LinksOf g.G.Graph c.args.network.now.graph) Has stand
    (λ m n. c.numbers_rise_with_ids.ensures.one names m n network.ends.rise) link other has also
    (same_ends c.args.tables.now.edges c.args.directed c.len-rows.ensures.accepted.distinct (named names link) (named names other)
    (stand.to link has) (stand.to other also) edges)) in
    let ids : elements c.args.turns.now ≡ elements c.args.tables.now.restrictions = ap elements c.requires.turns ∙ elements_nonempty c.args.tables.now.restrictions in
    few_states _ _ (length names) (elements c.args.turns.now) few network.size_is c.requires.few (subst (λ n. n ≤ most_elements) (sym ids) c.len-lists.ensures.accepted.elements)

pub returns-clause-fits : goal.returns-clause-fits
returns-clause-fits g c =
    let names = c.args.network.now.names in
    let links = id_links c.args.network.now in
    let network = is_network c.args.network.now in
    let total = table_cost c.args.directed c.args.tables.now.edges in
    let cost : cost_of network.numbers ≡ total =
    sym (c.costs_and_hops_are_kept.ensures.cost names network.numbers)
    ∙ (ap cost_of network.numbered.same ∙ c.links_have_one_cost.ensures c.args.directed links c.args.network.now.once c.requires.links) in
    let ids : elements c.args.turns.now ≡ elements c.args.tables.now.restrictions = ap elements c.requires.turns ∙ elements_nonempty c.args.tables.now.restrictions in
    ⊎_elim
    (λ none. IfOk-weaker c.make.result _ _ (λ turned fits. fits (ids ∙ none)
    c.args.network.now.fits) c.make.ensures.fits)
    (λ small. IfOk-weaker c.make.result _ _ (λ turned costs. costs network.numbers (λ link has. (network.exactly link).0 has)
    (subst (λ w. w * (1 + elements c.args.turns.now) ≤ greatest) (sym cost) (subst (λ e. total * (1 + e) ≤ greatest) (sym ids) small))) c.make.ensures.costs)
    (bounded total c.args.tables.now.restrictions c.requires.sum)
