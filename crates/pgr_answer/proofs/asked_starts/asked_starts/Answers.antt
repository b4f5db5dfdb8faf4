-- A sort and a `dedup` leave the numbers of the starts, each once and rising.
use Rattle.std.specs.Ordering.{nat_cmp}
use Rattle.std.proofs.lemmas.Cmp.{nat_cmp_total}
use Rattle.std.proofs.lemmas.List.Filters.{dedup_is}
use Rattle.pgr_walks.specs.LinkOrders.{nat_tie}
use Rattle.pgr_answer.specs.Pairs.{IsAsked}
use Rattle.pgr_answer.specs.Noting.{IsNumberedStart}
use Rattle.pgr_answer.proofs.PairLemmas.{numbers_tie, once_kept, once_rise}
use Rattle.pgr_answer.proofs.StartLemmas.{starts_asked}
use Rattle.pgr_answer.proofs.asked_starts.asked_starts.Goals as goal

pub returns-clause-exactly : goal.returns-clause-exactly
returns-clause-exactly c =
    let asked = starts_asked c.args.names.now c.args.starts.now c.args.ends.now c.args.combinations.now c.with_an_end-listed.result.now _ _
    c.with_an_end-listed.ensures c.in_ok-numbers.ensures c.in_ok-push_sources.ensures in
    once_kept nat_cmp nat_cmp_total nat_tie _ numbers_tie (IsNumberedStart c.args.names.now (IsAsked c.args.starts.now c.args.ends.now c.args.combinations.now)) _ _ _
    asked c.sort_unstable.ensures.permutation (dedup_is _ _ _ c.dedup.ensures.filtered)

pub returns-clause-rise : goal.returns-clause-rise
returns-clause-rise c = once_rise nat_cmp nat_cmp_total nat_tie _ numbers_tie _ _ c.sort_unstable.ensures.sorted (dedup_is _ _ _ c.dedup.ensures.filtered)
