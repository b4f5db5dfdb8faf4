use Rattle.std.proofs.lemmas.List.Filters.{dedup_is}
use Rattle.pgr_words.proofs.RisingNumbers.{sorted_is_rising}
use Rattle.pgr_words.proofs.value.make_rising.Goals as goal

pub returns : goal.returns
returns c = sorted_is_rising _ _ _ c.sort_unstable.ensures.permutation c.sort_unstable.ensures.sorted (dedup_is _ _ _ c.dedup.ensures.filtered)
