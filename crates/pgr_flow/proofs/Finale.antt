-- From no flow at the start to the least side at the end.
use Rattle.std.proofs.Common.{◌≡◌, ℕ, ◌+◌, ◌-◌, ◌<◌, ◌≤◌, ⊎_elim, Bool, true, false, cond, List, [], ◌∷◌, length, map, replicate, get_or, nat_eq, refl, sym, ap, ◌∙◌, subst, arith, Option, Some, None, is_some, All, Contains}
use Rattle.std.specs.List.{sum_by}
use Rattle.std.proofs.Math.ListN.{get_or-map}
use Rattle.std.proofs.lemmas.List.{get_or_default}
use Rattle.std.proofs.lemmas.Bool.{cases_Bool}
use Rattle.pgr_walks.specs.declared.link.LinkOf.{LinkOf}
use Rattle.pgr_walks.specs.ListGraph.{HasEndsBelow}
use Rattle.pgr_flow.specs.declared.residual.Way.{Way}
use Rattle.pgr_flow.specs.declared.residual.Way.TheVariants.{Along, Against}
use Rattle.pgr_flow.specs.declared.incidence.Incident.{Incident}
use Rattle.pgr_flow.specs.Flow.{sum_where, leaving, entering, AreWithin, IsFlow, HasValue, IsGreatestValue, among}
use Rattle.pgr_flow.specs.Cut.{IsCut, IsLeastSide, capacity_of, marked}
use Rattle.pgr_flow.specs.Residual.{room, turned, IsResidual}
use Rattle.pgr_flow.specs.Incidence.{HoldsIncidence, incident_at, incident_of}
use Rattle.pgr_flow.specs.Levels.{level_at, labelled, AreLevels, AreClosed, NoneIsLabelled, IsFedFrom}
use Rattle.pgr_flow.specs.Descent.{IsIntact, IsOpen}
use Rattle.pgr_flow.specs.Sending.{AreRooted, RisesAbove}
use Rattle.pgr_flow.proofs.Sums.{sum_where-le}
use Rattle.pgr_flow.proofs.Tight.{value_is_capacity, flow_is_greatest, side_is_least}
use Rattle.pgr_flow.proofs.Passing.{among_place}
use Rattle.pgr_flow.proofs.Descents.{turned_leads}

-- no flow is a flow
zeros_within : {V : Type 0} (arcs : List (LinkOf V)) → AreWithin arcs (replicate (length arcs) 0)
zeros_within [] = tt
zeros_within (a ∷ arcs) = (omega arith, zeros_within arcs)

zeros_sum : {V : Type 0} (p : LinkOf V → Bool) (arcs : List (LinkOf V)) → sum_where p arcs (replicate (length arcs) 0) ≡ 0
unfolding sum_where
zeros_sum p [] = refl
zeros_sum p (a ∷ arcs) = omega (arith, nothing (p a), zeros_sum p arcs)
  where
    nothing : (b : Bool) → (let z : ℕ = cond b 0 0 in z ≡ 0)
    nothing true = refl
    nothing false = refl

pub zeros_flow : (arcs : List (LinkOf ℕ)) (source sink : ℕ → Bool) → IsFlow nat_eq arcs source sink (replicate (length arcs) 0)
zeros_flow arcs source sink = record {
  within = zeros_within arcs;
  kept = λ v no_source no_sink. zeros_sum (λ (a : LinkOf ℕ). nat_eq v a.from) arcs ∙ sym (zeros_sum (λ (a : LinkOf ℕ). nat_eq v a.to) arcs);
}

turned_twice : (way : Way) → turned (turned way) ≡ way
turned_twice Along = refl
turned_twice Against = refl

module _ (size : ℕ) (arcs : List (LinkOf ℕ)) (flows sources : List ℕ) (levels : List (Option ℕ)) (found : AreLevels arcs flows (among nat_eq sources) size levels) where
  -- level 0 is that of sources
  pub levels_rooted : AreRooted (among nat_eq sources) levels
  levels_rooted v e = ⊎_elim (λ root. root.1) (λ fed. absurd (let up : 0 ≡ fed.0 + 1 = fed.1 in omega arith)) (found.grounded v 0 e)

  -- at the start of a phase each vertex is led to from the level below
  pub levels_intact : (starts : List ℕ) (list : List Incident) → HoldsIncidence size arcs starts list → IsIntact arcs flows starts list levels starts
  levels_intact starts list holds v level e = ⊎_elim
      (λ root. absurd (let zero_is : level + 1 ≡ 0 = root.0 in omega arith))
      (λ fed. (let up : level + 1 ≡ fed.0 + 1 = fed.1 in let same : fed.0 ≡ level = omega arith in opened v level fed.0 same fed.2))
      (found.grounded v (level + 1) e)
    where
      opened : (v level lower : ℕ) → lower ≡ level → IsFedFrom arcs flows levels lower v
          → (p : ℕ) × (get_or starts v 0 ≤ p) × (p < get_or starts (v + 1) 0) × IsOpen arcs flows levels level (incident_at list p)
      opened v level lower same fed =
          let back = turned_leads arcs fed.arc fed.way fed.start v fed.residual.leads in
          let there = holds.complete fed.arc (turned fed.way) back.inside in
          let p = there.0 in
          let is : incident_at list p ≡ incident_of arcs fed.arc (turned fed.way) = there.3 in
          let other : (incident_at list p).other ≡ fed.start = ap (λ (i : Incident). i.other) is ∙ back.end in (
            p,
            subst (λ x. get_or starts x 0 ≤ p) back.start there.1,
            subst (λ x. p < get_or starts (x + 1) 0) back.start there.2,
            record {
              level_is = ap (level_at levels) other ∙ (fed.level_is ∙ ap Some same);
              has_room = subst (λ (i : Incident). 0 < room arcs flows i.arc (turned i.out)) (sym is) (subst (λ w. 0 < room arcs flows fed.arc w) (sym
                  (turned_twice fed.way)) fed.residual.has_room);
            },
          )

-- the cut of the marked vertices
module _ (size : ℕ) (arcs : List (LinkOf ℕ)) (flows sources sinks : List ℕ) (levels : List (Option ℕ)) (side : List Bool) (below : All (HasEndsBelow size) arcs)
    (flow : IsFlow nat_eq arcs (among nat_eq sources) (among nat_eq sinks) flows) (found : AreLevels arcs flows (among nat_eq sources) size levels)
    (none : NoneIsLabelled sinks levels)
    (closed : AreClosed arcs flows levels) (marks : side ≡ map is_some levels) where
  marked_is : (v : ℕ) → marked side v ≡ labelled levels v
  marked_is v = ap (λ x. marked x v) marks ∙ get_or-map is_some levels v None

  side_cut : IsCut (among nat_eq sources) (among nat_eq sinks) (marked side)
  side_cut = record {
    sources = λ v is. marked_is v ∙ found.sources v is;
    sinks = λ v is. (let at = among_place sinks v is in marked_is v ∙ subst (λ x. labelled levels x ≡ false) at.2 (none at.0 at.1));
  }

  side_closed : (k : ℕ) (way : Way) (u v : ℕ) → IsResidual arcs flows k way u v → marked side u ≡ true → marked side v ≡ true
  side_closed k way u v r is = marked_is v ∙ closed u (sym (marked_is u) ∙ is) k way v r

  side_level : (v : ℕ) → marked side v ≡ true → labelled levels v ≡ true
  side_level v is = sym (marked_is v) ∙ is

  pub value_found : HasValue arcs (among nat_eq sources) flows (capacity_of (marked side) arcs)
  value_found = value_is_capacity size arcs (among nat_eq sources) (among nat_eq sinks) flows below flow levels (marked side) side_cut side_closed side_level found.grounded

  pub greatest_found : IsGreatestValue nat_eq arcs (among nat_eq sources) (among nat_eq sinks) (capacity_of (marked side) arcs)
  greatest_found = flow_is_greatest size arcs (among nat_eq sources) (among nat_eq sinks) flows below flow levels (marked side) side_cut side_closed side_level found.grounded

  pub side_found : IsLeastSide arcs (among nat_eq sources) (among nat_eq sinks) (marked side)
  side_found = side_is_least size arcs (among nat_eq sources) (among nat_eq sinks) flows below flow levels (marked side) side_cut side_closed side_level found.grounded

-- a value that rises leaves less to come
pub less_to_come : (arcs : List (LinkOf ℕ)) (source : ℕ → Bool) (old new : List ℕ) → AreWithin arcs old → AreWithin arcs new → RisesAbove arcs source old new
    → sum_by (λ (a : LinkOf ℕ). a.cost) arcs + entering source arcs new - leaving source arcs new < sum_by (λ
    (a : LinkOf ℕ). a.cost) arcs + entering source arcs old - leaving source arcs old
less_to_come arcs source old new before after rises = omega (
  arith,
  rises,
  sum_where-le (λ (a : LinkOf ℕ). source a.from) arcs old before,
  sum_where-le (λ
      (a : LinkOf ℕ). source a.from) arcs new after,
)

-- no vertex of one list stands in the other
pub lists_apart : (sources sinks : List ℕ) → ((v : ℕ) → Contains sources v → Contains sinks v → ⊥) → (k : ℕ) → k < length sinks → among nat_eq sources (get_or sinks k 0) ≡ false
lists_apart sources sinks apart k lt = ⊎_elim
    (λ (is : among nat_eq sources (get_or sinks k 0) ≡ true). absurd (let v = get_or sinks k 0 in let at = among_place sources (get_or sinks k 0) is in
    apart (get_or sinks k 0) (at.0, at.1, get_or_default sources at.0 (get_or sinks k 0) 0 at.1 ∙ at.2) (k, lt, get_or_default sinks k (get_or sinks k 0) 0 lt)))
    (λ no. no)
    (cases_Bool (among nat_eq sources (get_or sinks k 0)))

-- all that is said of the answer, where the sides of what is said are equal lists
pub all_found : (size : ℕ) (arcs : List (LinkOf ℕ)) (flows sources sinks : List ℕ) (levels : List (Option ℕ)) (side : List Bool) → All (HasEndsBelow size) arcs
    → IsFlow nat_eq arcs (among nat_eq sources) (among nat_eq sinks) flows → AreLevels arcs flows (among nat_eq sources) size levels → NoneIsLabelled sinks levels
    → AreClosed arcs flows levels
    → side ≡ map is_some levels
    → HasValue arcs (among nat_eq sources) flows (capacity_of (marked side) arcs)
    × IsGreatestValue nat_eq arcs (among nat_eq sources) (among nat_eq sinks) (capacity_of (marked side) arcs)
    × IsLeastSide arcs (among nat_eq sources) (among nat_eq sinks) (marked side)
all_found size arcs flows sources sinks levels side below flow found none closed marks = (
  value_found size arcs flows sources sinks levels side below flow found none closed marks,
  greatest_found size arcs flows sources sinks levels side below flow found none closed marks,
  side_found size arcs flows sources sinks levels side below flow found none closed marks,
)

-- the same of lists that are equal to those, and of a number that is the capacity
pub all_found_of : (size : ℕ) (arcs there : List (LinkOf ℕ)) (flows written sources sinks : List ℕ) (levels : List (Option ℕ)) (side : List Bool) (value : ℕ)
    → All (HasEndsBelow size) arcs
    → IsFlow nat_eq arcs (among nat_eq sources) (among nat_eq sinks) flows → AreLevels arcs flows (among nat_eq sources) size levels → NoneIsLabelled sinks levels
    → AreClosed arcs flows levels
    → side ≡ map is_some levels → arcs ≡ there → flows ≡ written → capacity_of (marked side) arcs ≡ value
    → HasValue there (among nat_eq sources) written value × IsGreatestValue nat_eq there (among nat_eq sources) (among nat_eq sinks) value
    × IsLeastSide there (among nat_eq sources) (among nat_eq sinks) (marked side)
all_found_of size arcs there flows written sources sinks levels side value below flow found none closed marks arcs_are flows_are value_is =
    subst (λ a. HasValue a (among nat_eq sources) written value × IsGreatestValue nat_eq a (among nat_eq sources) (among nat_eq sinks) value
    × IsLeastSide a (among nat_eq sources) (among nat_eq sinks) (marked side)) arcs_are
    (subst (λ f. HasValue arcs (among nat_eq sources) f value × IsGreatestValue nat_eq arcs (among nat_eq sources) (among nat_eq sinks) value
    × IsLeastSide arcs (among nat_eq sources) (among nat_eq sinks) (marked side)) flows_are
    (subst (λ n. HasValue arcs (among nat_eq sources) flows n × IsGreatestValue nat_eq arcs (among nat_eq sources) (among nat_eq sinks) n
    × IsLeastSide arcs (among nat_eq sources) (among nat_eq sinks) (marked side)) value_is
    (all_found size arcs flows sources sinks levels side below flow found none closed marks)))
