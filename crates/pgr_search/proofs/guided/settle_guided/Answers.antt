use Rattle.std.proofs.Common.{rules, ◌-◌, All, length, ap, ◌∙◌, sym, subst}
use Rattle.std.proofs.lemmas.List.{length-set}
use Rattle.std.proofs.lemmas.List.Elements.{recursion_from_All}
use Rattle.pgr_search.specs.Guiding.{CanGuide, label_of_key}
use Rattle.pgr_search.proofs.GuidedSearch.{Admits-from_parts, keys_after}
use Rattle.pgr_search.proofs.guided.settle_guided.Goals as goal

pub each_in-requires-clause-ready : goal.each_in-requires-clause-ready
each_in-requires-clause-ready g c =
    let values = g.E.Estimate.values c.args.estimate.now in
    let here = label_of_key values c.args.nearest.vertex c.args.nearest.key in
    let links = g.G.Graph.ins c.args.g.now c.args.nearest.vertex in
    Admits-from_parts _ _ _ _ values _ here links (ap length c.settle.ensures ∙ length-set _ _ _ ∙ c.requires.settled ∙ sym c.requires.size)
    (ap length c.remove.ensures ∙ length-set _ _ _ ∙ c.requires.keys ∙ sym c.requires.size)
    (λ i. record { cost = c.args.nearest.key.cost - c.value.ensures i; hops = c.args.nearest.key.hops })
    (recursion_from_All _ _ (subst (λ n. All (CanGuide n values here) links) (sym c.requires.size) c.requires.links))

pub returns-clause-keys : goal.returns-clause-keys
returns-clause-keys g c = rw (← c.value.ensures) (search (rules, keys_after))
