use Rattle.std.proofs.Common.{rules, length, ap, ◌∙◌}
use Rattle.std.proofs.lemmas.List.{length-set}
use Rattle.std.proofs.lemmas.List.Elements.{recursion_from_All}
use Rattle.pgr_search.proofs.Shown.{Admits-from_parts, labels_after}
use Rattle.pgr_search.proofs.search.settle.Goals as goal

pub each_in-requires-clause-ready : goal.each_in-requires-clause-ready
each_in-requires-clause-ready g c =
    Admits-from_parts (g.G.Graph.count c.args.g.now) _ _ _ _ _ (ap length c.settle.ensures ∙ length-set _ _ _ ∙ c.requires.settled)
    (ap length c.remove.ensures ∙ length-set _ _ _ ∙ c.requires.waiting) (recursion_from_All _ _ c.requires.links)

pub returns-clause-waiting : goal.returns-clause-waiting
returns-clause-waiting g c = search (rules, labels_after)
