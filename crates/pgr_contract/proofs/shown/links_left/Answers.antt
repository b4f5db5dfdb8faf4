use Rattle.std.proofs.lemmas.List.Filters.{dedup_is}
use Rattle.pgr_contract.proofs.LinkSorting.{parts_tie, links_kept, links_rise}
use Rattle.pgr_contract.proofs.shown.links_left.Goals as goal

pub returns-clause-rise : goal.returns-clause-rise
returns-clause-rise c =
    links_rise _ parts_tie _ _ c.sort_unstable.ensures.sorted (dedup_is _ _ _ c.dedup.ensures.filtered)

pub returns-clause-links : goal.returns-clause-links
returns-clause-links c =
    links_kept _ parts_tie _ _ _ _ c.in_ok-left.ensures c.sort_unstable.ensures.permutation (dedup_is _ _ _ c.dedup.ensures.filtered)
