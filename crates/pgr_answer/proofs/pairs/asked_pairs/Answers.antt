-- The pairs of the lists and of the rows are those that are asked for; a sort and a `dedup` keep them.
use Rattle.std.proofs.lemmas.List.Filters.{dedup_is}
use Rattle.pgr_answer.specs.Gathering.{pair_cmp, IsNumberedPair}
use Rattle.pgr_answer.specs.Pairs.{IsAsked}
use Rattle.pgr_answer.proofs.PairLemmas.{gained_is_asked, pair_total, pair_tie, parts_tie, once_kept, once_rise}
use Rattle.pgr_answer.proofs.pairs.asked_pairs.Goals as goal

pub returns-clause-exactly : goal.returns-clause-exactly
returns-clause-exactly c =
    let names = c.args.names.now in
    let asked = gained_is_asked names c.args.starts.now c.args.ends.now c.args.combinations.now c.as_slice.result.now c.as_slice-2.result.now _ _ _ c.new-pairs.ensures.items
    (rw c.as_slice.ensures.value c.in_ok-starts.ensures) (rw c.as_slice-2.ensures.value c.in_ok-ends.ensures) c.in_ok-push_lists.ensures c.in_ok-push_rows.ensures in
    once_kept pair_cmp pair_total pair_tie _ parts_tie (IsNumberedPair names (IsAsked c.args.starts.now c.args.ends.now c.args.combinations.now))
    _ _ _ asked c.sort_unstable.ensures.permutation
    (dedup_is _ _ _ c.dedup.ensures.filtered)

pub returns-clause-rise : goal.returns-clause-rise
returns-clause-rise c = once_rise pair_cmp pair_total pair_tie _ parts_tie _ _ c.sort_unstable.ensures.sorted (dedup_is _ _ _ c.dedup.ensures.filtered)
