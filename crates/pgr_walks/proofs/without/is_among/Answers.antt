-- Links are equal exactly where they compare as equal.
use Rattle.std.proofs.Common.{◌∙◌}
use Rattle.pgr_walks.proofs.LinkTests.{is_link, list_any_same, is_link_by_cmp}
use Rattle.pgr_walks.proofs.without.is_among.Goals as goal

pub returns : goal.returns
returns c = c.contains.ensures.value ∙ list_any_same (λ y. is_link y c.args.link) _ (λ y. is_link_by_cmp y c.args.link) c.args.links.now
