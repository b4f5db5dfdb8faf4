-- A sorted copy holds the same links, and rises strictly where no link stands twice.
use Rattle.std.proofs.Common.{◌≡◌, ℕ, rules}
use Rattle.std.specs.Ordering.{nat_cmp}
use Rattle.std.specs.List.Sorted.{IsPermutation, IsSorted}
use Rattle.std.proofs.lemmas.Cmp.{nat_cmp_total}
use Rattle.std.proofs.lemmas.List.Sorted.{All-permutation, answers_always}
use Rattle.pgr_walks.specs.declared.link.LinkOf.{LinkOf}
use Rattle.pgr_walks.specs.ListGraph.{arrival_cmp, HasEndsBelow}
use Rattle.pgr_walks.specs.LinkOrders.{link_total, link_tie, nat_tie, arrival_total, arrival_tie}
use Rattle.pgr_walks.specs.ListGraphLaws.{same_from_permutations, links_exactly}
use Rattle.pgr_walks.proofs.Rising.{rising_from_permutation, sorted_by_end}
use Rattle.pgr_walks.proofs.list_graph.ListGraph.from_links.Goals as goal

pub invariant_of-result : goal.invariant_of-result
invariant_of-result c =
    let links = c.args.links.items in
    let by_start = c.sort_unstable.new.self.items in
    let by_end = c.sort_unstable_by_key.new.self.items in
    let copied : c.in_ok-by_start.by_start.items ≡ links = search rules in
    let to_start : IsPermutation links by_start = rw copied at c.sort_unstable.ensures.permutation in
    let to_end : IsPermutation links by_end = c.sort_unstable_by_key.ensures.permutation in
    let end_sorted : IsSorted arrival_cmp by_end = sorted_by_end by_end
    (c.sort_unstable_by_key.ensures.sorted (λ (link : LinkOf ℕ). (link.to, link.edge, link.cost, link.from)) (answers_always _ _ _ (λ f a r g h. search rules))) in
    record {
      ends_below = All-permutation (HasEndsBelow c.args.size) links by_start to_start c.requires.ends;
      starts_rise = rising_from_permutation (link_total nat_cmp nat_cmp_total) (link_tie nat_cmp nat_tie) links by_start c.requires.once to_start c.sort_unstable.ensures.sorted;
      ends_rise = rising_from_permutation arrival_total arrival_tie links by_end c.requires.once to_end end_sorted;
      same = same_from_permutations links by_start by_end to_start to_end;
    }

pub returns-clause-links : goal.returns-clause-links
returns-clause-links c = links_exactly c.args.size c.args.links.items c.sort_unstable_by_key.new.self.items c.requires.ends c.sort_unstable_by_key.ensures.permutation
