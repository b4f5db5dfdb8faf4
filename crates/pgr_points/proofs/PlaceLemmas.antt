-- Points by their places: by edge and along it, each place once.
use Rattle.std.proofs.Common.{◌≡◌, ℕ, ◌+◌, ◌*◌, ◌<◌, ◌≤◌, max, ◌⊎◌, inl, inr, ⊎_elim, true, false, List, length, map, get_or, drop, Some, slice_get, ℤ, ◌≤ℤ◌, ◌<ℤ◌, refl, sym, ap, ◌∙◌, arith, Ordering, Less, Equal, Greater}
use Rattle.std.specs.Prelude.{int_lt, int_le}
use Rattle.std.specs.Ordering.{nat_cmp, int_cmp, int_eq, ordering_then, is_lt, is_eq, eq_by_cmp}
use Rattle.std.specs.Cmp.{Equal-is}
use Rattle.std.specs.List.{All, AllPairs, IsDistinct}
use Rattle.std.specs.List.Sorted.{IsSorted, IsPermutation, IsPartitionedBy}
use Rattle.std.proofs.lemmas.Cmp.{ranked, int_ranked, eq_by_cmp_equiv, tied_itself, int_cmp_total}
use Rattle.std.proofs.lemmas.Int.{ints}
use Rattle.std.proofs.lemmas.Bool.{cases_Bool, cases_lt}
use Rattle.std.proofs.lemmas.Option.{slice_get-get_or}
use Rattle.std.proofs.lemmas.List.{get_or-map, length-map, get_or-drop, length-drop}
use Rattle.std.proofs.lemmas.List.Sorted.{sorted_far, ranks_by}
use Rattle.std.proofs.lemmas.List.Kept.{AllPairs-filter}
use Rattle.std.proofs.lemmas.List.Elements.{All-filter, filter_passes}
use Rattle.std.proofs.lemmas.Map.Keys.{IsDistinct-from_apart, IsDistinct-IsPermutation, apart_from_distinct}
use Rattle.pgr_outside.specs.Lists.{IsWithoutRepeats, IsStrictlyRising}
use Rattle.pgr_table.specs.declared.row.PointRow.{PointRow}
use Rattle.pgr_table.specs.Points.{IsPoint}
use Rattle.pgr_walks.specs.LinkOrders.{then_tie, int_tie}
use Rattle.pgr_walks.proofs.Rising.{less_by_rest}
use Rattle.pgr_points.specs.Fractions.{fraction_cmp, along_cmp}
use Rattle.pgr_points.specs.Places.{value_cmp, place_cmp}
use Rattle.pgr_points.specs.Senses.{points_of, AreInOrder}
use Rattle.pgr_points.proofs.FractionLemmas.{place_total}

-- an order after another is less where the first is, or the first is equal and it is
pub then_less : (o p : Ordering) → ordering_then o p ≡ Less → (o ≡ Less) ⊎ ((o ≡ Equal) × (p ≡ Less))
then_less Less p e = inl refl
then_less Equal p e = inr (refl, e)
then_less Greater p e = cc

-- two points of one place have one id
pub same_place : (a b : PointRow) → place_cmp a b ≡ Equal → a.pid ≡ b.pid
same_place a b e =
    let first = then_tie (int_cmp a.edge_id b.edge_id) (ordering_then (value_cmp a b) (int_cmp a.pid b.pid)) e in
    let second = then_tie (value_cmp a b) (int_cmp a.pid b.pid) first.1 in
    int_tie a.pid b.pid second.1

module _ (points : List PointRow) (once : IsWithoutRepeats (map (λ (row : PointRow). row.pid) points)) where
  pids_differ : (i j : ℕ) (d : PointRow) → i < j → j < length points → (get_or points i d).pid ≡ (get_or points j d).pid → ⊥
  pids_differ i j d before inside e =
      let size = length-map points (λ (row : PointRow). row.pid) in
      let at_i : slice_get (map (λ (row : PointRow). row.pid) points) i ≡ Some (get_or points i d).pid =
      slice_get-get_or (map (λ (row : PointRow). row.pid) points) i d.pid (omega arith) ∙ ap Some (get_or-map (λ (row : PointRow). row.pid) points i d d.pid (omega arith)) in
      let at_j : slice_get (map (λ (row : PointRow). row.pid) points) j ≡ Some (get_or points j d).pid =
      slice_get-get_or (map (λ (row : PointRow). row.pid) points) j d.pid (omega arith) ∙ ap Some (get_or-map (λ (row : PointRow). row.pid) points j d d.pid (omega arith)) in
      once i j before (omega arith) (at_i ∙ (ap Some e ∙ sym at_j))

  places_differ : IsDistinct (eq_by_cmp place_cmp) points
  places_differ = IsDistinct-from_apart (eq_by_cmp place_cmp) points
      (λ i j d before inside. ⊎_elim
      (λ e. absurd (pids_differ i j d before inside (same_place (get_or points i d) (get_or points j d) ((Equal-is (place_cmp (get_or points i d) (get_or points j d))).0 e))))
      (λ e. e) (cases_Bool (eq_by_cmp place_cmp (get_or points i d) (get_or points j d))))

  -- once sorted, the points of a table rise
  pub places_rise : (sorted : List PointRow) → IsPermutation points sorted → IsSorted place_cmp sorted → IsStrictlyRising place_cmp sorted
  places_rise sorted moved in_order i j d before inside =
      let differ = IsDistinct-IsPermutation (eq_by_cmp place_cmp) (eq_by_cmp_equiv place_total).symm points sorted moved places_differ in
      let a = get_or sorted i d in
      let b = get_or sorted j d in
      less_by_rest (place_cmp a b) (place_cmp b a) (place_total.antisymm a b) (apart_from_distinct (eq_by_cmp place_cmp) sorted i j d differ before inside)
      (sorted_far (λ x y. is_lt (place_cmp x y)) (ranks_by place_total (λ x. x)) sorted in_order i j d (omega arith) inside)

-- along rising places the edges don't fall
edges_rise : (a b : PointRow) → place_cmp a b ≡ Less → a.edge_id ≤ℤ b.edge_id
edges_rise a b less =
    ⊎_elim (λ e. let h : a.edge_id <ℤ b.edge_id = int_ranked a.edge_id b.edge_id Less (sym e) in omega (arith, ints))
    (λ e. let h : a.edge_id ≡ b.edge_id = int_tie a.edge_id b.edge_id e.0 in omega (arith, ints))
    (then_less (int_cmp a.edge_id b.edge_id) (ordering_then (value_cmp a b) (int_cmp a.pid b.pid)) less)

below_chain : (a b e : ℤ) → a ≤ℤ b → int_lt b e ≡ true → int_lt a e ≡ true
below_chain a b e less h = grind (arith, ints)

up_to_chain : (a b e : ℤ) → a ≤ℤ b → int_le b e ≡ true → int_le a e ≡ true
up_to_chain a b e less h = grind (arith, ints)

module _ (placed : List PointRow) (rise : IsStrictlyRising place_cmp placed) (edge : ℤ) where
  edge_at_most : (i j : ℕ) (d : PointRow) → i ≤ j → j < length placed → (get_or placed i d).edge_id ≤ℤ (get_or placed j d).edge_id
  edge_at_most i j d before inside =
      ⊎_elim (λ less. edges_rise (get_or placed i d) (get_or placed j d) (rise i j d less inside))
      (λ more. let same : i ≡ j = omega arith in
      let h : (get_or placed i d).edge_id ≡ (get_or placed j d).edge_id = ap (λ k. (get_or placed k d).edge_id) same in omega (arith, ints))
      (cases_lt i j)

  -- so binary searches find the edge
  pub edges_below : IsPartitionedBy (λ (point : PointRow). int_lt point.edge_id edge) placed
  edges_below i j d before inside h = below_chain (get_or placed i d).edge_id (get_or placed j d).edge_id edge (edge_at_most i j d before inside) h

  pub edges_up_to : IsPartitionedBy (λ (point : PointRow). int_le point.edge_id edge) placed
  edges_up_to i j d before inside h = up_to_chain (get_or placed i d).edge_id (get_or placed j d).edge_id edge (edge_at_most i j d before inside) h

pub between_edges : (a e : ℤ) → int_lt a e ≡ false → int_le a e ≡ true → int_eq a e ≡ true
between_edges a e low high = grind (arith, ints)

pub below_edge : (a e : ℤ) → int_lt a e ≡ true → int_eq a e ≡ false
below_edge a e low = grind (arith, ints)

pub above_edge : (a e : ℤ) → int_le a e ≡ false → int_eq a e ≡ false
above_edge a e high = grind (arith, ints)

pub is_edge : (a e : ℤ) → int_eq a e ≡ true → a ≡ e
is_edge a e h = int_tie a e ((Equal-is (int_cmp a e)).0 h)

pub edge_is : (a e : ℤ) → a ≡ e → int_eq a e ≡ true
edge_is a e same = ap (λ x. int_eq a x) (sym same) ∙ ap is_eq (tied_itself int_cmp_total a)

-- a denominator of a point is what is compared
under_is : (point : PointRow) → IsPoint point → max point.under 1 ≡ point.under
under_is point good = omega (arith, good.less)

value_is : (a b : PointRow) → IsPoint a → IsPoint b → value_cmp a b ≡ fraction_cmp a b
value_is a b ga gb = ap (λ n. nat_cmp (a.over * n) (b.over * max a.under 1)) (under_is b gb) ∙ ap (λ n. nat_cmp (a.over * b.under) (b.over * n)) (under_is a ga)

-- two points of one edge of which the first has the lesser place come in this order along it
pub along_less : (a b : PointRow) → IsPoint a → IsPoint b → a.edge_id ≡ b.edge_id → place_cmp a b ≡ Less → along_cmp a b ≡ Less
along_less a b ga gb same less =
    let same_edge : int_cmp a.edge_id b.edge_id ≡ Equal = ap (λ e. int_cmp a.edge_id e) (sym same) ∙ tied_itself int_cmp_total a.edge_id in
    let rest : ordering_then (value_cmp a b) (int_cmp a.pid b.pid) ≡ Less =
    sym (ap (λ o. ordering_then o (ordering_then (value_cmp a b) (int_cmp a.pid b.pid))) same_edge) ∙ less in
    sym (ap (λ o. ordering_then o (int_cmp a.pid b.pid)) (value_is a b ga gb)) ∙ rest

-- and their fractions are in order
pub fractions_in_order : (a b : PointRow) → along_cmp a b ≡ Less → AreInOrder a b
fractions_in_order a b less =
    ⊎_elim (λ e. let h : a.over * b.under < b.over * a.under = ranked (a.over * b.under) (b.over * a.under) Less (sym e) in omega arith)
    (λ e. let h : a.over * b.under ≡ b.over * a.under = ranked (a.over * b.under) (b.over * a.under) Equal (sym e.0) in omega arith)
    (then_less (fraction_cmp a b) (int_cmp a.pid b.pid) less)

-- the points of an edge are points of the table, and rise along it
pub points_good : (placed : List PointRow) (edge : ℤ) → All IsPoint placed → All IsPoint (points_of edge placed)
points_good placed edge good = All-filter (λ point. int_eq point.edge_id edge) IsPoint placed good

pub points_rise : (placed : List PointRow) (edge : ℤ) → All IsPoint placed → IsStrictlyRising place_cmp placed → IsStrictlyRising along_cmp (points_of edge placed)
points_rise placed edge good rise i j d before inside =
    let on_edge = filter_passes (λ (point : PointRow). int_eq point.edge_id edge) placed in
    let good_of = points_good placed edge good in
    let run = points_of edge placed in
    let a = get_or run i d in
    let b = get_or run j d in
    let inside_i : i < length run = omega arith in
    let a_edge : a.edge_id ≡ edge = is_edge a.edge_id edge (on_edge i d inside_i) in
    let b_edge : b.edge_id ≡ edge = is_edge b.edge_id edge (on_edge j d inside) in
    along_less a b (good_of i d inside_i) (good_of j d inside) (a_edge ∙ sym b_edge)
    (AllPairs-filter (λ x y. place_cmp x y ≡ Less) (λ point. int_eq point.edge_id edge) placed rise i j d before inside)

pub points_in_order : (placed : List PointRow) (edge : ℤ) → All IsPoint placed → IsStrictlyRising place_cmp placed → AllPairs AreInOrder (points_of edge placed)
points_in_order placed edge good rise i j d before inside =
    fractions_in_order (get_or (points_of edge placed) i d) (get_or (points_of edge placed) j d) (points_rise placed edge good rise i j d before inside)

-- what rises also does from a place on
pub rising_drop : (placed : List PointRow) (first : ℕ) → IsStrictlyRising place_cmp placed → IsStrictlyRising place_cmp (drop first placed)
rising_drop placed first rise i j d before inside =
    let size = length-drop first placed in
    rw (get_or-drop first placed i d, get_or-drop first placed j d) (rise (first + i) (first + j) d (omega arith) (omega arith))
