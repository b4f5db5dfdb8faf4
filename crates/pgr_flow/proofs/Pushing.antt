-- An amount that is sent over an arc: flows stay within the capacities, and every set of vertices gains or loses the amount.
use Rattle.std.proofs.Common.{◌≡◌, ℕ, ◌+◌, ◌-◌, ◌<◌, ◌≤◌, Bool, true, false, cond, List, length, get_or, set, refl, sym, ⊎_elim, subst, arith}
use Rattle.std.proofs.lemmas.Bool.{cases_eq}
use Rattle.std.proofs.lemmas.List.{get_or-set_same, get_or-set_other}
use Rattle.pgr_walks.specs.declared.link.LinkOf.{LinkOf}
use Rattle.pgr_flow.specs.declared.residual.Way.{Way}
use Rattle.pgr_flow.specs.declared.residual.Way.TheVariants.{Along, Against}
use Rattle.pgr_flow.specs.Flow.{AreWithin}
use Rattle.pgr_flow.specs.Residual.{no_arc, arc_at, start_of, end_of, room_of, room, flow_after, LeadsOver}
use Rattle.pgr_flow.specs.Sending.{IsMoved}
use Rattle.pgr_flow.proofs.Sums.{sum_where-set, AreWithin-set, AreWithin-length, AreWithin-at}

-- along: what is at the start leaves more, what is at the end comes in more
along_sum : (bu bv : Bool) (f m l l' e e' : ℕ) → l' + cond bu f 0 ≡ l + cond bu (f + m) 0 → e' + cond bv f 0 ≡ e + cond bv (f + m) 0 → l' + e + cond bv m 0 ≡ l + e' + cond bu m 0
along_sum true true f m l l' e e' h k = omega arith
along_sum true false f m l l' e e' h k = omega arith
along_sum false true f m l l' e e' h k = omega arith
along_sum false false f m l l' e e' h k = omega arith

-- against: the arc's start is where the step leads
against_sum : (bu bv : Bool) (f m l l' e e' : ℕ) → m ≤ f → l' + cond bv f 0 ≡ l + cond bv (f - m) 0 → e' + cond bu f 0 ≡ e + cond bu (f - m) 0
    → l' + e + cond bv m 0 ≡ l + e' + cond bu m 0
against_sum true true f m l l' e e' small h k = omega arith
against_sum true false f m l l' e e' small h k = omega arith
against_sum false true f m l l' e e' small h k = omega arith
against_sum false false f m l l' e e' small h k = omega arith

module _ (arcs : List (LinkOf ℕ)) (flows : List ℕ) (within : AreWithin arcs flows) (k : ℕ) (inside : k < length arcs) where
  moved_by : (way : Way) (amount : ℕ) → amount ≤ room arcs flows k way
      → IsMoved arcs (start_of way (arc_at arcs k)) (end_of way (arc_at arcs k)) amount flows (set flows k (flow_after way (get_or flows k 0) amount))
  moved_by Along amount small M =
      let f = get_or flows k 0 in
      along_sum (M (arc_at arcs k).from) (M (arc_at arcs k).to) f amount _ _ _ _
      (sum_where-set (λ (a : LinkOf ℕ). M a.from) arcs flows k (f + amount) no_arc within inside)
      (sum_where-set (λ (a : LinkOf ℕ). M a.to) arcs flows k (f + amount) no_arc within inside)
  moved_by Against amount small M =
      let f = get_or flows k 0 in
      against_sum (M (arc_at arcs k).to) (M (arc_at arcs k).from) f amount _ _ _ _ small
      (sum_where-set (λ (a : LinkOf ℕ). M a.from) arcs flows k (f - amount) no_arc within inside)
      (sum_where-set (λ (a : LinkOf ℕ). M a.to) arcs flows k (f - amount) no_arc within inside)

  within_by : (way : Way) (amount : ℕ) → amount ≤ room arcs flows k way → AreWithin arcs (set flows k (flow_after way (get_or flows k 0) amount))
  within_by Along amount small = AreWithin-set arcs flows k (get_or flows k 0 + amount) no_arc within inside (omega (arith, AreWithin-at arcs flows k no_arc within inside))
  within_by Against amount small = AreWithin-set arcs flows k (get_or flows k 0 - amount) no_arc within inside (omega (arith, AreWithin-at arcs flows k no_arc within inside))

  -- nothing but the same arc taken the same way loses room
  room_by : (way : Way) (amount j : ℕ) (other : Way) → amount ≤ room arcs flows k way → (j ≡ k → other ≡ way → ⊥)
      → room arcs flows j other ≤ room arcs (set flows k (flow_after way (get_or flows k 0) amount)) j other
  room_by way amount j other small apart = ⊎_elim
      (λ (same : j ≡ k). let P : ℕ → Type 0 = λ x. room arcs flows x other ≤ room arcs (set flows k (flow_after way (get_or flows k 0) amount)) x other in
      subst P (sym same) (subst (λ f. room arcs flows k other ≤ room_of other (arc_at arcs k).cost f)
      (sym (get_or-set_same flows k (flow_after way (get_or flows k 0) amount) 0 (omega (arith, AreWithin-length arcs flows within)))) (grown way other small (apart same))))
      (λ (ne : j ≡ k → ⊥). subst (λ f. room arcs flows j other ≤ room_of other (arc_at arcs j).cost f) (sym (get_or-set_other flows k j (flow_after way
      (get_or flows k 0) amount) 0 ne)) (omega arith))
      (cases_eq j k)
    where
      grown : (way other : Way) → amount ≤ room arcs flows k way → (other ≡ way → ⊥)
          → room arcs flows k other ≤ room_of other (arc_at arcs k).cost (flow_after way (get_or flows k 0) amount)
      grown Along Along small ne = absurd (ne refl)
      grown Along Against small ne = omega arith
      grown Against Along small ne = omega arith
      grown Against Against small ne = absurd (ne refl)

-- an amount sent from u to v
pub moved_over : (arcs : List (LinkOf ℕ)) (flows : List ℕ) → AreWithin arcs flows → (k : ℕ) (way : Way) (u v amount : ℕ) → LeadsOver arcs k way u v → amount ≤ room arcs flows k way
    → IsMoved arcs u v amount flows (set flows k (flow_after way (get_or flows k 0) amount))
moved_over arcs flows within k way u v amount leads small =
    subst (λ x. IsMoved arcs x v amount flows (set flows k (flow_after way (get_or flows k 0) amount))) leads.start
    (subst (λ x. IsMoved arcs (start_of way (arc_at arcs k)) x amount flows (set flows k (flow_after way (get_or flows k 0) amount))) leads.end
    (moved_by arcs flows within k leads.inside way amount small))

pub within_after : (arcs : List (LinkOf ℕ)) (flows : List ℕ) → AreWithin arcs flows → (k : ℕ) (way : Way) (amount : ℕ) → k < length arcs → amount ≤ room arcs flows k way
    → AreWithin arcs (set flows k (flow_after way (get_or flows k 0) amount))
within_after arcs flows within k way amount inside small = within_by arcs flows within k inside way amount small

pub room_after : (arcs : List (LinkOf ℕ)) (flows : List ℕ) → AreWithin arcs flows → (k : ℕ) (way : Way) (amount j : ℕ) (other : Way) → k < length arcs
    → amount ≤ room arcs flows k way → (j ≡ k → other ≡ way → ⊥)
    → room arcs flows j other ≤ room arcs (set flows k (flow_after way (get_or flows k 0) amount)) j other
room_after arcs flows within k way amount j other inside small apart = room_by arcs flows within k inside way amount j other small apart

-- amounts from u to v and on to w
pub moved_on : (arcs : List (LinkOf ℕ)) (a b c : List ℕ) (u v w amount : ℕ) → IsMoved arcs u v amount a b → IsMoved arcs v w amount b c → IsMoved arcs u w amount a c
moved_on arcs a b c u v w amount first second M = omega (arith, first M, second M)

pub moved_none : (arcs : List (LinkOf ℕ)) (a : List ℕ) (u amount : ℕ) → IsMoved arcs u u amount a a
moved_none arcs a u amount M = refl
