-- The arcs of a table, and their numbered images, meet what a flow network asks.
use Rattle.std.proofs.Common.{◌≡◌, ◌≢◌, ℕ, ◌<◌, ◌↔◌, ℤ, List, [], ◌∷◌, length, map, Less, Some, get_or, refl, sym, ap, ◌∙◌, arith}
use Rattle.std.specs.Prelude.{All, sum_by}
use Rattle.std.specs.List.{Contains}
use Rattle.std.specs.Ordering.{int_cmp, nat_cmp, ordering_then}
use Rattle.std.specs.Cmp.{IsTotalOrder}
use Rattle.std.proofs.lemmas.Cmp.{int_cmp_total, on_total, then_total}
use Rattle.std.proofs.lemmas.List.{length-map, get_or_default}
use Rattle.std.proofs.lemmas.List.Sums.{sum_by-cons}
use Rattle.std.proofs.lemmas.Option.{slice_get-get_or}
use Rattle.std.proofs.Math.ListN.{get_or-map}
use Rattle.pgr_outside.specs.Lists.{IsWithoutRepeats, IsStrictlyRising}
use Rattle.pgr_walks.specs.declared.link.LinkOf.{LinkOf}
use Rattle.pgr_walks.specs.Link.{arc_cmp}
use Rattle.pgr_walks.specs.ListGraph.{HasEndsBelow}
use Rattle.pgr_walks.specs.Walk.{cost_of}
use Rattle.pgr_walks.proofs.Repeats.{Apart-from_IsWithoutRepeats}
use Rattle.pgr_walks.proofs.Membership.{Among-from_Contains, Contains-from_Among}
use Rattle.pgr_table.specs.declared.row.CapacityRow.{CapacityRow}
use Rattle.pgr_table.specs.Capacities.{AreCapacities}
use Rattle.pgr_graph.specs.declared.links.Direction.{Direction}
use Rattle.pgr_graph.specs.declared.links.Direction.TheVariants.{Forward, Backward}
use Rattle.pgr_graph.specs.Arcs.{arc_along, IsArcOfRow, IsArcOfTable, AreNetworkArcs, renamed}
use Rattle.pgr_graph.proofs.OneCost.{same_cost}
use Rattle.pgr_graph.proofs.ArcLists.{key, arcs_of_rows, apart_keys, Apart-from_map, table_from_rows, rows_from_table, rows_sum}

-- the sum of capacities is what the arcs cost as links
sum_is_cost : {V : Type 0} (arcs : List (LinkOf V)) → sum_by (λ (arc : LinkOf V). arc.cost) arcs ≡ cost_of arcs
sum_is_cost [] = refl
sum_is_cost {V} (arc ∷ arcs) =
    let more = sum_is_cost arcs in
    let sums = sum_by-cons (λ (a : LinkOf V). a.cost) arc arcs in
    omega arith

-- an arc leads to another vertex
ends_apart : (row : CapacityRow) (direction : Direction) (n : ℕ) → row.source ≢ row.target → (arc_along row direction n).from ≢ (arc_along row direction n).to
ends_apart row Forward n apart same = apart same
ends_apart row Backward n apart same = apart (sym same)

arc_apart : (row : CapacityRow) (arc : LinkOf ℤ) → IsArcOfRow row arc → arc.from ≢ arc.to
arc_apart row arc has same =
    let from = ap (λ (l : LinkOf ℤ). l.from) has.along in
    let to = ap (λ (l : LinkOf ℤ). l.to) has.along in
    ends_apart row has.direction arc.cost has.apart (sym from ∙ (same ∙ to))

-- no arc stands twice in arcs that rise strictly
arc_total : IsTotalOrder (arc_cmp int_cmp)
arc_total = then_total (on_total (λ (arc : LinkOf ℤ). arc.edge) int_cmp_total)
    (then_total (on_total (λ (arc : LinkOf ℤ). arc.from) int_cmp_total) (on_total (λ (arc : LinkOf ℤ). arc.to) int_cmp_total))

less_than_itself : (arc : LinkOf ℤ) → arc_cmp int_cmp arc arc ≡ Less → ⊥
less_than_itself arc less = let mirrored = arc_total.antisymm arc arc in absurd cc

rising_once : (arcs : List (LinkOf ℤ)) → IsStrictlyRising (arc_cmp int_cmp) arcs → IsWithoutRepeats arcs
rising_once [] rise i j below inside same = absurd (omega arith)
rising_once (arc ∷ arcs) rise i j below inside same =
    let left = get_or (arc ∷ arcs) i arc in
    let right = get_or (arc ∷ arcs) j arc in
    let both : Some left ≡ Some right = sym (slice_get-get_or (arc ∷ arcs) i arc (omega arith)) ∙ (same ∙ slice_get-get_or (arc ∷ arcs) j arc inside) in
    let equal : left ≡ right = cc both in
    let less : arc_cmp int_cmp left right ≡ Less = rise i j arc below inside in
    less_than_itself right (rw equal at less)

-- the arcs of a table make a network
module _ (rows : List CapacityRow) (accepted : AreCapacities rows) (arcs : List (LinkOf ℤ)) (rising : IsStrictlyRising (arc_cmp int_cmp) arcs)
    (exactly : (arc : LinkOf ℤ) → Contains arcs arc ↔ IsArcOfTable rows arc) where
  has_row : (k : ℕ) (d : LinkOf ℤ) → k < length arcs → IsArcOfTable rows (get_or arcs k d)
  has_row k d below = (exactly (get_or arcs k d)).0 (k, below, get_or_default arcs k (get_or arcs k d) d below)

  total : cost_of arcs ≡ cost_of (arcs_of_rows rows)
  total = same_cost arcs (arcs_of_rows rows) (Apart-from_IsWithoutRepeats arcs (rising_once arcs rising)) (Apart-from_map key (arcs_of_rows rows)
      (apart_keys rows accepted.distinct))
      (λ arc among. Among-from_Contains arc (arcs_of_rows rows) (rows_from_table rows arc ((exactly arc).0 (Contains-from_Among arc arcs among))))
      (λ arc among. Among-from_Contains arc arcs ((exactly arc).1 (table_from_rows rows arc (Contains-from_Among arc (arcs_of_rows rows) among))))

  pub table_network : AreNetworkArcs int_cmp arcs
  table_network = record {
    apart = λ k d below. let has = has_row k d below in arc_apart has.1 (get_or arcs k d) has.4;
    positive = λ k d below. (has_row k d below).4.positive;
    fits = let sum = sum_is_cost arcs in let same = total in let bound = rows_sum rows in omega (arith, accepted.sum);
    rising = rising;
  }

-- what names rise with keeps the order of arcs
same_order : (size : ℕ) (name : ℕ → ℤ) → ((m n : ℕ) → m < size → n < size → int_cmp (name m) (name n) ≡ nat_cmp m n) → (a b : LinkOf ℕ) → HasEndsBelow size a
    → HasEndsBelow size b → arc_cmp int_cmp (renamed name a) (renamed name b) ≡ arc_cmp nat_cmp a b
same_order size name order a b ends other =
    let from = order a.from b.from ends.0 other.0 in
    let to = order a.to b.to ends.1 other.1 in
    ap (ordering_then (int_cmp a.edge b.edge)) (ap (λ o. ordering_then o (int_cmp (name a.to) (name b.to))) from ∙ ap (ordering_then (nat_cmp a.from b.from)) to)

renamed_cost : (name : ℕ → ℤ) (numbers : List (LinkOf ℕ)) → cost_of (map (renamed name) numbers) ≡ cost_of numbers
renamed_cost name [] = refl
renamed_cost name (arc ∷ numbers) = let more = renamed_cost name numbers in omega arith

-- numbered arcs make a network where the arcs do
pub numbered_network : (size : ℕ) (name : ℕ → ℤ) (numbers : List (LinkOf ℕ)) → ((m n : ℕ) → m < size → n < size → int_cmp (name m) (name n) ≡ nat_cmp m n)
    → All (HasEndsBelow size) numbers → AreNetworkArcs int_cmp (map (renamed name) numbers) → AreNetworkArcs nat_cmp numbers
numbered_network size name numbers order below network =
    let arcs = map (renamed name) numbers in
    let long = length-map numbers (renamed name) in
    record {
      apart = λ k d inside same.
          let at = get_or-map (renamed name) numbers k d in
          network.apart k (renamed name d) (omega (arith, inside, long))
          (ap (λ (l : LinkOf ℤ). l.from) at ∙ (ap name same ∙ sym (ap (λ (l : LinkOf ℤ). l.to) at)));
      positive = λ k d inside.
          let at = ap (λ (l : LinkOf ℤ). l.cost) (get_or-map (renamed name) numbers k d) in
          let h = network.positive k (renamed name d) (omega (arith, inside, long)) in
          omega (arith, at, h);
      fits =
          let sum = sum_is_cost numbers in
          let other = sum_is_cost arcs in
          let same = renamed_cost name numbers in
          omega (arith, network.fits);
      rising = λ i j d before inside.
          let a = get_or-map (renamed name) numbers i d in
          let b = get_or-map (renamed name) numbers j d in
          let h = rw (a, b) at (network.rising i j (renamed name d) before (omega (arith, inside, long))) in
          sym (same_order size name order (get_or numbers i d) (get_or numbers j d) (below i d (omega (arith, before, inside))) (below j d inside)) ∙ h;
    }
