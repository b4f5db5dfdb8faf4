-- A sorted list of ends stands in parts: where each begins, and what stands there.
use Rattle.std.proofs.Common.{◌≡◌, ℕ, ◌+◌, ◌<◌, ◌≤◌, List, [], ◌∷◌, ◌++◌, length, get_or, refl, sym, ap, ◌∙◌, subst, arith, ⊎_elim, All, Contains}
use Rattle.std.specs.List.Sorted.{IsNonDecreasingBy, IsPermutation}
use Rattle.std.proofs.lemmas.Bool.{cases_lt}
use Rattle.std.proofs.lemmas.List.{length-append, get_or_append_left, get_or_push, get_or_default}
use Rattle.std.proofs.lemmas.List.Elements.{All-push, Contains-push, Contains-append_left}
use Rattle.std.proofs.lemmas.List.Sorted.{All-permutation, Contains-permutation}
use Rattle.pgr_walks.specs.declared.link.LinkOf.{LinkOf}
use Rattle.pgr_walks.specs.ListGraph.{HasEndsBelow}
use Rattle.pgr_flow.specs.declared.residual.Way.{Way}
use Rattle.pgr_flow.specs.declared.residual.Way.TheVariants.{Along, Against}
use Rattle.pgr_flow.specs.declared.incidence.Incident.{Incident}
use Rattle.pgr_flow.specs.Residual.{no_arc, arc_at, start_of, LeadsOver}
use Rattle.pgr_flow.specs.Incidence.{no_incident, incident_at, incident_of, IsEndOf, HoldsEnds, IsBeginning, AreBeginnings, HoldsIncidence}

-- the elements before the place are those at lesser vertices than v, as far as they were looked at
pub record HasPassed (list : List Incident) (v place : ℕ) : Type 0 where
  pub within : place ≤ length list
  pub before : (p : ℕ) → p < place → (incident_at list p).vertex < v

module _ (list : List Incident) where
  pub passed_start : (v place : ℕ) → IsBeginning list v place → HasPassed list (v + 1) place
  passed_start v place here = record { within = here.within; before = λ p inside. omega (arith, here.before p inside) }

  pub passed_one : (v place : ℕ) → HasPassed list v place → place < length list → (incident_at list place).vertex < v → HasPassed list v (place + 1)
  passed_one v place passed inside is = record {
    within = omega arith;
    before = λ p earlier. ⊎_elim (λ less. passed.before p less)
        (λ more. let same : place ≡ p = omega arith in subst (λ x. (incident_at list x).vertex < v) same is)
        (cases_lt p place);
  }

  -- at the end of the list
  pub passed_all : (v place : ℕ) → HasPassed list v place → length list ≤ place → IsBeginning list v place
  passed_all v place passed past = record { within = passed.within; before = passed.before; after = λ p from inside. absurd (omega arith) }

  -- at an element of a vertex from v on
  pub passed_part : (v place : ℕ) → IsNonDecreasingBy (λ (i : Incident). i.vertex) list → HasPassed list v place → place < length list → v ≤ (incident_at list place).vertex
      → IsBeginning list v place
  passed_part v place sorted passed inside is = record {
    within = passed.within;
    before = passed.before;
    after = λ p from inside_p. omega (arith, sorted place p no_incident from inside_p);
  }

  pub first_beginning : IsBeginning list 0 0
  first_beginning = record { within = omega arith; before = λ p inside. absurd (omega arith); after = λ p from inside. omega arith }

  -- the places of the vertices below v
  pub record ArePlacesBelow (v : ℕ) (places : List ℕ) : Type 0 where
    pub size_is : length places ≡ v
    pub at : (u : ℕ) → u < v → IsBeginning list u (get_or places u 0)

  pub no_places : ArePlacesBelow 0 []
  no_places = record { size_is = refl; at = λ u below. absurd (omega arith) }

  pub more_places : (v place : ℕ) (places : List ℕ) → ArePlacesBelow v places → IsBeginning list v place → ArePlacesBelow (v + 1) (places ++ place ∷ [])
  more_places v place places placed here = record {
    size_is = omega (arith, length-append places (place ∷ []), placed.size_is);
    at = λ u below. ⊎_elim
        (λ less. subst (IsBeginning list u) (sym (get_or_append_left places (place ∷ []) 0 u (omega (arith, placed.size_is)))) (placed.at u less))
        (λ more. let same : v ≡ u = omega arith in subst (λ w. IsBeginning list w (get_or (places ++ place ∷ []) w 0)) same
        (subst (IsBeginning list v) (sym (get_or_push places place 0 v placed.size_is)) here))
        (cases_lt u v);
  }

  pub all_places : (size v : ℕ) (places : List ℕ) → v ≡ size + 1 → ArePlacesBelow v places → AreBeginnings size list places
  all_places size v places e placed = record { size_is = placed.size_is ∙ e; at = λ u at_most. placed.at u (omega arith) }

-- one more arc: both its ends
both_ends : (arcs : List (LinkOf ℕ)) (k : ℕ) (list : List Incident) → HoldsEnds arcs k list → k < length arcs
    → HoldsEnds arcs (k + 1) ((list ++ incident_of arcs k Along ∷ []) ++ incident_of arcs k Against ∷ [])
both_ends arcs k list held lt = record {
  each = All-push (IsEndOf arcs) (list ++ incident_of arcs k Along ∷ []) (incident_of arcs k Against)
      (All-push (IsEndOf arcs) list (incident_of arcs k Along) held.each (record { inside = lt; start = refl; end = refl })) (record { inside = lt; start = refl; end = refl });
  all = λ j way below. ⊎_elim
      (λ (earlier : j < k). Contains-append_left (list ++ incident_of arcs k Along ∷ []) (incident_of arcs k Against ∷ []) (incident_of arcs j way)
      (Contains-append_left list (incident_of arcs k Along ∷ []) (incident_of arcs j way) (held.all j way earlier)))
      (λ (past : k ≤ j). (let same : k ≡ j = omega arith in subst (λ x. Contains ((list ++ incident_of arcs k Along ∷ []) ++ incident_of arcs k Against ∷ [])
      (incident_of arcs x way)) same (last way)))
      (cases_lt j k);
}
  where
    last : (way : Way) → Contains ((list ++ incident_of arcs k Along ∷ []) ++ incident_of arcs k Against ∷ []) (incident_of arcs k way)
    last Along = Contains-append_left (list ++ incident_of arcs k Along ∷ []) (incident_of arcs k Against ∷ []) (incident_of arcs k Along) (Contains-push list
        (incident_of arcs k Along))
    last Against = Contains-push (list ++ incident_of arcs k Along ∷ []) (incident_of arcs k Against)

pub one_more_arc : (arcs : List (LinkOf ℕ)) (k : ℕ) (arc : LinkOf ℕ) (list list' list'' : List Incident) → HoldsEnds arcs k list → k < length arcs → arc ≡ arc_at arcs k
    → list' ≡ list ++ record { vertex = arc.from; other = arc.to; arc = k; out = Along } ∷ []
    → list'' ≡ list' ++ record { vertex = arc.to; other = arc.from; arc = k; out = Against } ∷ []
    → HoldsEnds arcs (k + 1) list''
one_more_arc arcs k arc list list' list'' held lt is e f =
    let first : list' ≡ list ++ incident_of arcs k Along ∷ [] = e ∙ ap (λ (a : LinkOf ℕ). list ++ record { vertex = a.from; other = a.to; arc = k; out = Along } ∷ []) is in
    let second : list'' ≡ list' ++ incident_of arcs k Against ∷ [] = f ∙ ap (λ (a : LinkOf ℕ). list' ++ record { vertex = a.to; other = a.from; arc = k; out = Against } ∷ []) is in
    subst (HoldsEnds arcs (k + 1)) (sym (second ∙ ap (λ l. l ++ incident_of arcs k Against ∷ []) first)) (both_ends arcs k list held lt)

pub no_ends : (arcs : List (LinkOf ℕ)) → HoldsEnds arcs 0 []
no_ends arcs = record { each = λ k d lt. absurd (omega arith); all = λ k way lt. absurd (omega arith) }

module _ (size : ℕ) (arcs : List (LinkOf ℕ)) (list : List Incident) (starts : List ℕ) (below : All (HasEndsBelow size) arcs) (ends : HoldsEnds arcs (length arcs) list)
    (begins : AreBeginnings size list starts) where
  in_order : (v : ℕ) → v < size → get_or starts v 0 ≤ get_or starts (v + 1) 0
  in_order v lt = ⊎_elim
      (λ (less : get_or starts (v + 1) 0 < get_or starts v 0).
      (let low = begins.at v (omega arith) in let high = begins.at (v + 1) (omega arith) in
      let p = get_or starts (v + 1) 0 in
      absurd (omega (arith, low.before p less, low.within, high.after p (omega arith) (omega (arith, low.within))))))
      (λ more. more)
      (cases_lt (get_or starts (v + 1) 0) (get_or starts v 0))

  start_below : (k : ℕ) (way : Way) → k < length arcs → start_of way (arc_at arcs k) < size
  start_below k Along lt = (below k no_arc lt).0
  start_below k Against lt = (below k no_arc lt).1

  part_sound : (v p : ℕ) → v < size → get_or starts v 0 ≤ p → p < get_or starts (v + 1) 0
      → LeadsOver arcs (incident_at list p).arc (incident_at list p).out v (incident_at list p).other
  part_sound v p lt low high =
      let a = begins.at v (omega arith) in
      let b = begins.at (v + 1) (omega arith) in
      let inside : p < length list = omega (arith, b.within) in
      let is : (incident_at list p).vertex ≡ v = omega (arith, a.after p low inside, b.before p high) in
      subst (λ x. LeadsOver arcs (incident_at list p).arc (incident_at list p).out x (incident_at list p).other) is (ends.each p no_incident inside)

  part_complete : (k : ℕ) (way : Way) → k < length arcs
      → (p : ℕ) × (get_or starts (start_of way (arc_at arcs k)) 0 ≤ p) × (p < get_or starts (start_of way (arc_at arcs k) + 1) 0) × (incident_at list p ≡ incident_of arcs k way)
  part_complete k way lt =
      let v = start_of way (arc_at arcs k) in
      let has = ends.all k way lt in
      let p = has.0 in
      let is : incident_at list p ≡ incident_of arcs k way = get_or_default list p no_incident (incident_of arcs k way) has.1 ∙ has.2 in
      let vertex : (incident_at list p).vertex ≡ v = ap (λ (i : Incident). i.vertex) is in
      let small = start_below k way lt in
      let a = begins.at v (omega arith) in
      let b = begins.at (v + 1) (omega arith) in (
        p,
        ⊎_elim (λ (less : p < get_or starts v 0). absurd (omega (arith, a.before p less, vertex))) (λ more. more) (cases_lt p (get_or starts v 0)),
        ⊎_elim (λ less. less) (λ (more : get_or starts (v + 1) 0 ≤ p). absurd (omega (arith, b.after p more has.1, vertex))) (cases_lt p (get_or starts (v + 1) 0)),
        is,
      )

  pub holds_incidence : HoldsIncidence size arcs starts list
  holds_incidence = record {
    count = begins.size_is;
    order = in_order;
    inside = λ v at_most. (begins.at v at_most).within;
    sound = part_sound;
    complete = part_complete;
  }

-- the ends in another order
pub permuted_ends : (arcs : List (LinkOf ℕ)) (n : ℕ) (xs ys : List Incident) → IsPermutation xs ys → HoldsEnds arcs n xs → HoldsEnds arcs n ys
permuted_ends arcs n xs ys moved ends = record {
  each = All-permutation (IsEndOf arcs) xs ys moved ends.each;
  all = λ k way lt. Contains-permutation xs ys (incident_of arcs k way) moved (ends.all k way lt);
}
