-- Sorted by where they lead from, they are the arrows of the links.
use Rattle.std.proofs.Common.{rules}
use Rattle.std.proofs.lemmas.List.Sorted.{IsNonDecreasingBy-from_sort_by_key}
use Rattle.pgr_spans.specs.declared.arrow.Arrow.{Arrow}
use Rattle.pgr_spans.proofs.Arrows.{are_arrows}
use Rattle.pgr_spans.proofs.network.arrows_of.Goals as goal

pub returns : goal.returns
returns c =
    are_arrows c.args.size c.args.links.now c.requires c.in_ok-arrows.arrows.items c.sort_unstable_by_key.new.self.items c.in_ok-arrows.ensures
    c.sort_unstable_by_key.ensures.permutation
    (IsNonDecreasingBy-from_sort_by_key (λ (arrow : Arrow). arrow.from) _ c.sort_unstable_by_key.ensures.sorted (λ a r q k. search rules))
