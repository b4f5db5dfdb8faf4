-- A sort and a `dedup` leave the numbers of the starts, each once and rising.
use Rattle.std.proofs.Common.{ℕ, ◌<◌, length}
use Rattle.std.specs.Prelude.{Contains}
use Rattle.std.specs.Ordering.{nat_cmp}
use Rattle.std.proofs.lemmas.Cmp.{nat_cmp_total}
use Rattle.std.proofs.lemmas.List.Filters.{dedup_is}
use Rattle.pgr_walks.specs.LinkOrders.{nat_tie}
use Rattle.pgr_numbers.specs.Names.{id_at}
use Rattle.pgr_answer.proofs.PairLemmas.{numbers_tie, once_kept, once_rise}
use Rattle.pgr_answer.proofs.driving_distance.roots_of.Goals as goal

pub returns-clause-exactly : goal.returns-clause-exactly
returns-clause-exactly c =
    once_kept nat_cmp nat_cmp_total nat_tie _ numbers_tie (λ (n : ℕ). (n < length c.args.names.now) × Contains c.args.starts.now (id_at c.args.names.now n)) _ _ _
    c.in_ok-roots.ensures c.sort_unstable.ensures.permutation (dedup_is _ _ _ c.dedup.ensures.filtered)

pub returns-clause-rise : goal.returns-clause-rise
returns-clause-rise c = once_rise nat_cmp nat_cmp_total nat_tie _ numbers_tie _ _ c.sort_unstable.ensures.sorted (dedup_is _ _ _ c.dedup.ensures.filtered)
