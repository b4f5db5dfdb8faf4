-- Lists of the links in order rise strictly where no link stands twice.
use Rattle.std.proofs.Common.{◌≡◌, ℕ, List, sym, subst}
use Rattle.std.specs.Ordering.{nat_cmp}
use Rattle.std.specs.List.{All}
use Rattle.std.specs.List.Sorted.{IsPermutation, IsNonDecreasingBy}
use Rattle.std.proofs.lemmas.Cmp.{nat_cmp_total}
use Rattle.std.proofs.lemmas.List.Sorted.{All-permutation, IsPermutation-trans}
use Rattle.pgr_walks.specs.declared.link.LinkOf.{LinkOf}
use Rattle.pgr_walks.specs.Link.{step_cmp, entry_cmp}
use Rattle.pgr_walks.specs.ListGraph.{HasEndsBelow}
use Rattle.pgr_walks.specs.LinkOrders.{link_total, link_tie, nat_tie, arrival_total, arrival_tie}
use Rattle.pgr_walks.specs.ListGraphLaws.{same_from_permutations, links_exactly}
use Rattle.pgr_walks.specs.Parts.{AreBeginnings}
use Rattle.pgr_walks.proofs.Rising.{rising_from_permutation}
use Rattle.pgr_walks.proofs.VertexRuns.{stands_by_vertex}
use Rattle.pgr_walks.proofs.row_graph.RowGraph.from_links.Goals as goal

pub in_order-requires : goal.in_order-requires
in_order-requires c = λ k d inside. (subst (All (HasEndsBelow c.args.size)) (sym c.deref.ensures.value) c.requires.ends k d inside).0

pub in_order-requires-2 : goal.in_order-requires-2
in_order-requires-2 c =
    let below = All-permutation (HasEndsBelow c.args.size) c.deref.result.now c.in_ok-by_start.by_start.items c.in_ok-by_start.ensures.permutation
    (subst (All (HasEndsBelow c.args.size)) (sym c.deref.ensures.value) c.requires.ends) in
    λ k d inside. (subst (All (HasEndsBelow c.args.size)) (sym c.deref-2.ensures.value) below k d inside).1

pub beginnings-requires : goal.beginnings-requires
beginnings-requires c =
    subst (IsNonDecreasingBy (λ (link : LinkOf ℕ). link.from)) (sym c.deref-3.ensures.value)
    (stands_by_vertex (λ (link : LinkOf ℕ). link.from) (step_cmp nat_cmp) c.in_ok-by_start.by_start.items c.in_ok-by_start.ensures.sorted)

pub beginnings-requires-2 : goal.beginnings-requires-2
beginnings-requires-2 c =
    subst (IsNonDecreasingBy (λ (link : LinkOf ℕ). link.to)) (sym c.deref-4.ensures.value)
    (stands_by_vertex (λ (link : LinkOf ℕ). link.to) (entry_cmp nat_cmp) c.in_ok-by_end.by_end.items c.in_ok-by_end.ensures.sorted)

-- what the two lists in order are to the links
record AreBoth (links by_start by_end : List (LinkOf ℕ)) : Type 0 where
  to_start : IsPermutation links by_start
  to_end : IsPermutation links by_end

both : (links given by_start again by_end : List (LinkOf ℕ)) → given ≡ links → IsPermutation given by_start → again ≡ by_start → IsPermutation again by_end
    → AreBoth links by_start by_end
both links given by_start again by_end given_is first again_is second =
    let to_start = subst (λ xs. IsPermutation xs by_start) given_is first in
    record {
      to_start = to_start;
      to_end = IsPermutation-trans links by_start by_end to_start (subst (λ xs. IsPermutation xs by_end) again_is second);
    }

pub invariant_of-result : goal.invariant_of-result
invariant_of-result c =
    let links = c.args.links.items in
    let by_start = c.in_ok-by_start.by_start.items in
    let by_end = c.in_ok-by_end.by_end.items in
    let moved = both links c.deref.result.now by_start c.deref-2.result.now by_end c.deref.ensures.value c.in_ok-by_start.ensures.permutation c.deref-2.ensures.value
    c.in_ok-by_end.ensures.permutation in
    record {
      ends_below = All-permutation (HasEndsBelow c.args.size) links by_start moved.to_start c.requires.ends;
      starts_rise = rising_from_permutation (link_total nat_cmp nat_cmp_total) (link_tie nat_cmp nat_tie) links by_start c.requires.once moved.to_start
          c.in_ok-by_start.ensures.sorted;
      ends_rise = rising_from_permutation arrival_total arrival_tie links by_end c.requires.once moved.to_end c.in_ok-by_end.ensures.sorted;
      same = same_from_permutations links by_start by_end moved.to_start moved.to_end;
      start_parts = subst (λ xs. AreBeginnings (λ (link : LinkOf ℕ). link.from) c.args.size xs c.in_ok-starts.starts.items) c.deref-3.ensures.value c.in_ok-starts.ensures;
      end_parts = subst (λ xs. AreBeginnings (λ (link : LinkOf ℕ). link.to) c.args.size xs c.in_ok-ends.ends.items) c.deref-4.ensures.value c.in_ok-ends.ensures;
    }

pub returns-clause-links : goal.returns-clause-links
returns-clause-links c =
    let moved = both c.args.links.items c.deref.result.now c.in_ok-by_start.by_start.items c.deref-2.result.now c.in_ok-by_end.by_end.items c.deref.ensures.value
    c.in_ok-by_start.ensures.permutation c.deref-2.ensures.value c.in_ok-by_end.ensures.permutation in
    links_exactly c.args.size c.args.links.items c.in_ok-by_end.by_end.items c.requires.ends moved.to_end
