-- A sorted list of the arcs of a table holds the same arcs, and rises strictly: no two of them have one key.
use Rattle.std.proofs.Common.{◌≡◌, ℕ, ◌+◌, ◌↔◌, ℤ, List, length, ◌≤◌, map, take, Ordering, Less, Equal, Greater, get_or, refl, sym, ap, subst, ◌∙◌, arith}
use Rattle.std.specs.List.{Contains}
use Rattle.std.specs.List.Sorted.{IsSorted, IsSortedByKey, IsPermutation}
use Rattle.std.specs.Ordering.{int_cmp, ordering_then, is_lt}
use Rattle.std.specs.Cmp.{IsTotalOrder}
use Rattle.std.proofs.lemmas.Cmp.{int_cmp_total, on_total, then_total}
use Rattle.std.proofs.lemmas.List.{length-map, take_all}
use Rattle.std.proofs.lemmas.List.Sorted.{Contains-permutation, IsPermutation-sym, IsPermutation-map}
use Rattle.std.proofs.lemmas.Map.Lookups.{exact_pairs, exact_signed}
use Rattle.std.proofs.Math.ListN.{get_or-map}
use Rattle.pgr_outside.specs.Lists.{IsWithoutRepeats, IsStrictlyRising}
use Rattle.pgr_walks.specs.declared.link.LinkOf.{LinkOf}
use Rattle.pgr_walks.specs.Link.{arc_cmp}
use Rattle.pgr_walks.proofs.Repeats.{Apart, IsWithoutRepeats-from_Apart}
use Rattle.pgr_walks.proofs.Rising.{rising_from_permutation}
use Rattle.pgr_table.specs.declared.row.CapacityRow.{CapacityRow}
use Rattle.pgr_graph.specs.Arcs.{IsArcOfTable}
use Rattle.pgr_graph.proofs.ArcLists.{key, arcs_of_rows, apart_keys, table_from_rows, rows_from_table}

-- the order of keys, and that different keys aren't equal in it
abbrev key_cmp : ℤ × (ℤ × ℤ) → ℤ × (ℤ × ℤ) → Ordering
key_cmp x y = ordering_then (int_cmp x.0 y.0) (ordering_then (int_cmp x.1.0 y.1.0) (int_cmp x.1.1 y.1.1))

key_total : IsTotalOrder key_cmp
key_total = then_total (on_total (λ (x : ℤ × (ℤ × ℤ)). x.0) int_cmp_total)
    (then_total (on_total (λ (x : ℤ × (ℤ × ℤ)). x.1.0) int_cmp_total) (on_total (λ (x : ℤ × (ℤ × ℤ)). x.1.1) int_cmp_total))

key_tie : (x y : ℤ × (ℤ × ℤ)) → key_cmp x y ≡ Equal → x ≡ y
key_tie = exact_pairs int_cmp (λ (p q : ℤ × ℤ). ordering_then (int_cmp p.0 q.0) (int_cmp p.1 q.1)) exact_signed (exact_pairs int_cmp int_cmp exact_signed exact_signed)

-- orders one after the other, from the left and from the right
then_assoc : (a b c : Ordering) → ordering_then (ordering_then a b) c ≡ ordering_then a (ordering_then b c)
then_assoc Less b c = refl
then_assoc Equal b c = refl
then_assoc Greater b c = refl

-- an arc with the key
with_key : ℤ × (ℤ × ℤ) → LinkOf ℤ
with_key k = record { from = k.1.0; edge = k.0; cost = 0; to = k.1.1 }

-- where arcs are sorted by the tuples of edge, start and end, their keys are sorted
sorted_keys : (arcs : List (LinkOf ℤ)) → IsSortedByKey (λ arc. arc)
    (λ a b. ordering_then (ordering_then (int_cmp a.edge b.edge) (int_cmp a.from b.from)) (int_cmp a.to b.to)) arcs
    → IsSorted key_cmp (map key arcs)
unfolding with_key
sorted_keys arcs sorted k d low high =
    let a = get_or-map key arcs (k + 1) (with_key d) in
    let b = get_or-map key arcs k (with_key d) in
    let x = get_or arcs (k + 1) (with_key d) in
    let y = get_or arcs k (with_key d) in
    rw (a, b) (ap is_lt (sym (then_assoc (int_cmp x.edge y.edge) (int_cmp x.from y.from) (int_cmp x.to y.to)))
    ∙ sorted k (with_key d) low (omega (arith, high, length-map arcs key)))

-- arcs whose keys rise strictly do
rising_by_keys : (arcs : List (LinkOf ℤ)) → IsStrictlyRising key_cmp (map key arcs) → IsStrictlyRising (arc_cmp int_cmp) arcs
rising_by_keys arcs rising i j d before inside =
    let a = get_or-map key arcs i d in
    let b = get_or-map key arcs j d in
    rw (a, b) at (rising i j (key d) before (omega (arith, inside, length-map arcs key)))

module _ (rows : List CapacityRow) (i : ℕ) (past : length rows ≤ i) (arcs sorted : List (LinkOf ℤ)) (made : arcs ≡ arcs_of_rows (take i rows)) (moved : IsPermutation arcs
    sorted) where
  all_made : arcs ≡ arcs_of_rows rows
  all_made = made ∙ ap arcs_of_rows (take_all i rows past)

  pub arcs_kept : (arc : LinkOf ℤ) → Contains sorted arc ↔ IsArcOfTable rows arc
  arcs_kept arc = let P : List (LinkOf ℤ) → Type 0 = λ list. Contains list arc in (
    λ h. table_from_rows rows arc (subst P all_made (Contains-permutation sorted arcs arc (IsPermutation-sym arcs sorted moved) h)),
    λ h. Contains-permutation arcs sorted arc moved (subst P (sym all_made) (rows_from_table rows arc h)),
  )

  pub arcs_rise : IsWithoutRepeats (map (λ (r : CapacityRow). r.id) rows) → IsSortedByKey (λ arc. arc)
      (λ a b. ordering_then (ordering_then (int_cmp a.edge b.edge) (int_cmp a.from b.from)) (int_cmp a.to b.to)) sorted
      → IsStrictlyRising (arc_cmp int_cmp) sorted
  arcs_rise ids in_order =
      let P : List (LinkOf ℤ) → Type 0 = λ list. Apart (map key list) in
      let apart = subst P (sym all_made) (apart_keys rows ids) in
      rising_by_keys sorted (rising_from_permutation key_total key_tie (map key arcs) (map key sorted) (IsWithoutRepeats-from_Apart (map key arcs) apart)
      (IsPermutation-map key arcs sorted moved) (sorted_keys sorted in_order))
