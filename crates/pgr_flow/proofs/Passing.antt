-- The search from the sources: its start, one vertex passed, and what it gives at the end.
use Rattle.std.proofs.Common.{◌≡◌, ℕ, ◌+◌, ◌<◌, ◌≤◌, suc, inl, inr, ⊎_elim, Bool, true, false, List, [], ◌∷◌, ◌++◌, length, get_or, set, replicate, nat_eq, eqb, refl, sym, ap, ◌∙◌, subst, arith, Option, Some, None, is_some, not, All}
use Rattle.std.specs.List.{sum_by, list_any}
use Rattle.std.proofs.lemmas.Bool.{cases_lt, or_cases, eqb-true, eq-eqb}
use Rattle.std.proofs.lemmas.List.{get_or-set_same, get_or_append_left, get_or-replicate, get_or_past, length-append, length-replicate}
use Rattle.std.proofs.lemmas.List.Sums.{sum_by-cons}
use Rattle.std.proofs.lemmas.List.Folds.{list_any_at}
use Rattle.pgr_walks.specs.declared.link.LinkOf.{LinkOf}
use Rattle.pgr_walks.specs.ListGraph.{HasEndsBelow}
use Rattle.pgr_flow.specs.declared.residual.Way.{Way}
use Rattle.pgr_flow.specs.declared.residual.Way.TheVariants.{Along, Against}
use Rattle.pgr_flow.specs.declared.incidence.Incident.{Incident}
use Rattle.pgr_flow.specs.Flow.{among}
use Rattle.pgr_flow.specs.Residual.{no_arc, room, LeadsOver, IsResidual}
use Rattle.pgr_flow.specs.Incidence.{HoldsIncidence, incident_at, incident_of}
use Rattle.pgr_flow.specs.Levels.{level_at, labelled, IsFedFrom, IsPassed, Grows, one_if_none, IsSearched, AreLevels, AreClosed, AreLabelledUpTo, NoneIsLabelled}
use Rattle.pgr_flow.proofs.Tight.{level_of}
use Rattle.pgr_flow.proofs.Searching.{labelled_some, grows_labelled, Grows-then, grows_set, searched_more}

-- a list without levels
pub none_at : (n v : ℕ) → level_at (replicate n None) v ≡ None
none_at n v = ⊎_elim (λ (lt : v < n). get_or-replicate n v None None lt) (λ (past : n ≤ v). get_or_past (replicate n None) v None (omega
    (arith, length-replicate {A = Option ℕ} n None))) (cases_lt v n)

all_none : (levels : List (Option ℕ)) → ((v : ℕ) → level_at levels v ≡ None) → sum_by one_if_none levels ≡ length levels
all_none [] h = refl
all_none (x ∷ xs) h = omega (arith, sum_by-cons one_if_none x xs, ap one_if_none (h 0), all_none xs (λ v. h (suc v)))

pub searched_start : (arcs : List (LinkOf ℕ)) (flows : List ℕ) (source : ℕ → Bool) (levels : List (Option ℕ)) → ((v : ℕ) → level_at levels v ≡ None)
    → IsSearched arcs flows source (length levels) levels [] 0 0
searched_start arcs flows source levels none = record {
  size_is = refl;
  counted = omega (arith, all_none levels none);
  queued = λ i lt. absurd (omega arith);
  listed = λ v level e. absurd (let clash : None ≡ Some level = sym (none v) ∙ e in cc);
  passed = λ i lt. absurd (omega arith);
  grounded = λ v level e. absurd (let clash : None ≡ Some level = sym (none v) ∙ e in cc);
  low = λ v level e. absurd (let clash : None ≡ Some level = sym (none v) ∙ e in cc);
}

-- an element of a list stands in it
pub among_at : (list : List ℕ) (i : ℕ) → i < length list → among nat_eq list (get_or list i 0) ≡ true
among_at list i lt = list_any_at (nat_eq (get_or list i 0)) list i 0 lt (eq-eqb (get_or list i 0) (get_or list i 0) refl)

-- and what stands in it is one
pub among_place : (list : List ℕ) (v : ℕ) → among nat_eq list v ≡ true → (k : ℕ) × (k < length list) × (get_or list k 0 ≡ v)
among_place [] v h = absurd (cc)
among_place (x ∷ xs) v h = ⊎_elim
    (λ (here : eqb v x ≡ true). (0, omega arith, sym (eqb-true v x here)))
    (λ (later : list_any (nat_eq v) xs ≡ true). (let at = among_place xs v later in (suc at.0, omega (arith, at.1), at.2)))
    (or_cases (eqb v x) (list_any (nat_eq v) xs) h)

-- one source more has a level, or had one
pub labelled_more : (list : List ℕ) (old new : List (Option ℕ)) (i : ℕ) → AreLabelledUpTo list old i → Grows old new → labelled new (get_or list i 0) ≡ true
    → AreLabelledUpTo list new (i + 1)
labelled_more list old new i before grows here k lt = ⊎_elim
    (λ (earlier : k < i). grows_labelled old new grows (get_or list k 0) (before k earlier))
    (λ (past : i ≤ k). (let same : i ≡ k = omega arith in subst (λ x. labelled new (get_or list x 0) ≡ true) same here))
    (cases_lt k i)

pub labelled_grows : (list : List ℕ) (old new : List (Option ℕ)) (n : ℕ) → AreLabelledUpTo list old n → Grows old new → AreLabelledUpTo list new n
labelled_grows list old new n before grows k lt = grows_labelled old new grows (get_or list k 0) (before k lt)

-- a vertex without a level
pub no_level : (o : Option ℕ) → is_some o ≡ false → o ≡ None
no_level None h = refl
no_level (Some level) h = absurd (cc)

-- the ends of an arc are below the size, whichever way it is taken
pub end_below : (size : ℕ) (arcs : List (LinkOf ℕ)) → All (HasEndsBelow size) arcs → (k : ℕ) (way : Way) (u v : ℕ) → LeadsOver arcs k way u v → (u < size) × (v < size)
end_below size arcs below k Along u v leads = let at = below k no_arc leads.inside in (omega (arith, at.0, leads.start), omega (arith, at.1, leads.end))
end_below size arcs below k Against u v leads = let at = below k no_arc leads.inside in (omega (arith, at.1, leads.start), omega (arith, at.0, leads.end))

-- a vertex in passing: the ends before a place lead to vertices with levels, or have no room
pub record IsPassing (arcs : List (LinkOf ℕ)) (flows : List ℕ) (source : ℕ
    → Bool) (size : ℕ) (starts : List ℕ) (list : List Incident) (old : List (Option ℕ)) (levels : List (Option ℕ)) (queue : List ℕ) (head v level place : ℕ) : Type 0 where
  pub searched : IsSearched arcs flows source size levels queue head (head + 1)
  pub grows : Grows old levels
  pub in_queue : head < length queue
  pub at_head : get_or queue head 0 ≡ v
  pub level_is : level_at levels v ≡ Some level
  pub level_low : level ≤ head
  pub seen : (p : ℕ) → get_or starts v 0 ≤ p → p < place → 0 < room arcs flows (incident_at list p).arc (incident_at list p).out → labelled levels (incident_at list p).other ≡ true

module _ (arcs : List (LinkOf ℕ)) (flows : List ℕ) (source : ℕ
    → Bool) (size : ℕ) (starts : List ℕ) (list : List Incident) (old levels : List (Option ℕ)) (queue : List ℕ) (head v level : ℕ)
    (below : All (HasEndsBelow size) arcs) (holds : HoldsIncidence size arcs starts list) where
  pub passing_start : IsSearched arcs flows source size old queue head head → head < length queue → get_or queue head 0 ≡ v → level_at old v ≡ Some level
      → IsPassing arcs flows source size starts list old old queue head v level (get_or starts v 0)
  passing_start s lt at_head is = record {
    searched = record {
      size_is = s.size_is;
      counted = s.counted;
      queued = s.queued;
      listed = s.listed;
      passed = s.passed;
      grounded = s.grounded;
      low = λ u l e. omega
          (arith, s.low u l e);
    };
    grows = λ u l e. e;
    in_queue = lt;
    at_head = at_head;
    level_is = is;
    level_low = s.low v level is;
    seen = λ p low high. absurd (omega arith);
  }

  module _ (place : ℕ) (now : IsPassing arcs flows source size starts list old levels queue head v level place) (v_below : v < size) (from : get_or starts v 0 ≤ place)
      (to : place < get_or starts (v + 1) 0) where
    i : Incident
    i = incident_at list place

    leads : LeadsOver arcs (incident_at list place).arc (incident_at list place).out v (incident_at list place).other
    leads = holds.sound v place v_below from to

    pub other_below : (incident_at list place).other < size
    other_below = (end_below size arcs below _ _ _ _ leads).1

    pub arc_inside : (incident_at list place).arc < length arcs
    arc_inside = leads.inside

    -- the other end has a level, or there is no room
    pub passing_on : (0 < room arcs flows (incident_at list place).arc (incident_at list place).out → labelled levels (incident_at list place).other ≡ true)
        → IsPassing arcs flows source size starts list old levels queue head v level (place + 1)
    passing_on here = record {
      searched = now.searched;
      grows = now.grows;
      in_queue = now.in_queue;
      at_head = now.at_head;
      level_is = now.level_is;
      level_low = now.level_low;
      seen = λ p low high. ⊎_elim
          (λ (earlier : p < place). now.seen p low earlier)
          (λ (past : place ≤ p). (let same : place ≡ p = omega arith in
          subst (λ x. 0 < room arcs flows (incident_at list x).arc (incident_at list x).out → labelled levels (incident_at list x).other ≡ true) same here))
          (cases_lt p place);
    }

    -- the other end gets a level
    pub passing_label : level_at levels (incident_at list place).other ≡ None → 0 < room arcs flows (incident_at list place).arc (incident_at list place).out
        → IsPassing arcs flows source size starts list old (set levels (incident_at list place).other (Some (level + 1))) (queue ++
        (incident_at list place).other ∷ []) head v level (place + 1)
    passing_label none some =
        let w = (incident_at list place).other in
        let new = set levels w (Some (level + 1)) in
        let grows : Grows levels new = grows_set levels w (level + 1) none in
        let residual : IsResidual arcs flows (incident_at list place).arc (incident_at list place).out v w = record { leads = leads; has_room = some } in
        let fed : IsFedFrom arcs flows levels level w = record {
          start = v;
          arc = (incident_at list place).arc;
          way =
              (incident_at list place).out;
          residual = residual;
          level_is = now.level_is;
        } in
        record {
          searched = searched_more arcs flows source size levels queue head (head + 1) now.searched w (level + 1) other_below none (omega (arith, now.level_low)) (inr
              (level, refl, fed)) (omega (arith, now.in_queue));
          grows = Grows-then old levels new now.grows grows;
          in_queue = omega (arith, length-append queue (w ∷ []), now.in_queue);
          at_head = get_or_append_left queue (w ∷ []) 0 head now.in_queue ∙ now.at_head;
          level_is = grows v level now.level_is;
          level_low = now.level_low;
          seen = λ p low high room_p. ⊎_elim
              (λ (earlier : p < place). grows_labelled levels new grows (incident_at list p).other (now.seen p low earlier room_p))
              (λ (past : place ≤ p). (let same : place ≡ p = omega arith in
              subst (λ x. labelled new (incident_at list x).other ≡ true) same (labelled_some new w (level + 1) (get_or-set_same levels w (Some (level + 1)) None (omega
              (arith, other_below, now.searched.size_is))))))
              (cases_lt p place);
        }

  -- all ends were looked at
  pub passing_end : (place : ℕ) → IsPassing arcs flows source size starts list old levels queue head v level place → get_or starts (v + 1) 0 ≤ place
      → IsSearched arcs flows source size levels queue (head + 1) (head + 1)
  passing_end place now past = record {
    size_is = now.searched.size_is;
    counted = now.searched.counted;
    queued = now.searched.queued;
    listed = now.searched.listed;
    passed = λ n lt. ⊎_elim
        (λ (earlier : n < head). now.searched.passed n earlier)
        (λ (last : head ≤ n). (let same : head ≡ n = omega arith in subst (λ x. IsPassed arcs flows levels (get_or queue x 0)) same (subst (IsPassed arcs flows levels)
        (sym now.at_head) here)))
        (cases_lt n head);
    grounded = now.searched.grounded;
    low = now.searched.low;
  }
    where
      here : IsPassed arcs flows levels v
      here k way w r =
          let there = holds.complete k way r.leads.inside in
          let p = there.0 in
          let is : incident_at list p ≡ incident_of arcs k way = there.3 in
          let low : get_or starts v 0 ≤ p = subst (λ x. get_or starts x 0 ≤ p) r.leads.start there.1 in
          let high : p < get_or starts (v + 1) 0 = subst (λ x. p < get_or starts (x + 1) 0) r.leads.start there.2 in
          let has : 0 < room arcs flows (incident_at list p).arc (incident_at list p).out = subst (λ (x : Incident). 0 < room arcs flows x.arc x.out) (sym is) r.has_room in
          ap (labelled levels) (sym (ap (λ (x : Incident). x.other) is ∙ r.leads.end)) ∙ now.seen p low (omega arith) has

-- what the search gives
pub levels_found : (arcs : List (LinkOf ℕ)) (flows : List ℕ) (sources : List ℕ) (size : ℕ) (levels : List (Option ℕ)) (queue : List ℕ) (head : ℕ)
    → IsSearched arcs flows (among nat_eq sources) size levels queue head head
    → head ≤ length queue → AreLabelledUpTo sources levels (length sources) → AreLevels arcs flows (among nat_eq sources) size levels
levels_found arcs flows sources size levels queue head s inside rooted = record {
  size_is = s.size_is;
  grounded = s.grounded;
  low = λ v level e. omega (arith, s.low v level e, s.counted);
  sources = λ v is. let at = among_place sources v is in subst (λ x. labelled levels x ≡ true) at.2 (rooted at.0 at.1);
}

-- where the whole queue was passed, the levels are closed
pub closed_found : (arcs : List (LinkOf ℕ)) (flows : List ℕ) (source : ℕ → Bool) (size : ℕ) (levels : List (Option ℕ)) (queue : List ℕ) (head bound : ℕ)
    → IsSearched arcs flows source size levels queue head bound
    → length queue ≤ head → AreClosed arcs flows levels
closed_found arcs flows source size levels queue head bound s all v is =
    let at = level_of (level_at levels v) is in
    let there = s.listed v at.0 at.1 in
    subst (IsPassed arcs flows levels) there.2 (s.passed there.0 (omega (arith, there.1)))

-- a search that stopped early had met a sink
pub stopped_early : (sinks : List ℕ) (levels : List (Option ℕ)) (reached : ℕ) → AreLabelledUpTo sinks levels reached → 0 < reached → reached ≤ length sinks
    → NoneIsLabelled sinks levels → ⊥
stopped_early sinks levels reached met some inside none = let clash : true ≡ false = sym (met 0 some) ∙ none 0 (omega arith) in cc

-- one source more
pub source_searched : (arcs : List (LinkOf ℕ)) (flows sources : List ℕ) (size : ℕ) (levels : List (Option ℕ)) (queue : List ℕ) (i s : ℕ) (new : List (Option ℕ))
    (new_queue : List ℕ)
    → IsSearched arcs flows (among nat_eq sources) size levels queue 0 0 → i < length sources → s ≡ get_or sources i 0 → s < size → level_at levels s ≡ None
    → new ≡ set levels s (Some 0) → new_queue ≡ queue ++ s ∷ [] → IsSearched arcs flows (among nat_eq sources) size new new_queue 0 0
source_searched arcs flows sources size levels queue i s new new_queue searched lt is small none e f =
    subst (λ x. IsSearched arcs flows (among nat_eq sources) size x new_queue 0 0) (sym e)
    (subst (λ x. IsSearched arcs flows (among nat_eq sources) size (set levels s (Some 0)) x 0 0) (sym f)
    (searched_more arcs flows (among nat_eq sources) size levels queue 0 0 searched s 0 small none (omega arith) (inl (
      refl,
      ap (among nat_eq sources) is
          ∙ among_at sources i lt,
    )) (omega arith)))

pub source_labelled : (sources : List ℕ) (levels : List (Option ℕ)) (i s : ℕ) (new : List (Option ℕ)) → AreLabelledUpTo sources levels i → s ≡ get_or sources i 0
    → s < length levels → level_at levels s ≡ None
    → new ≡ set levels s (Some 0) → AreLabelledUpTo sources new (i + 1)
source_labelled sources levels i s new before is small none e =
    subst (λ x. AreLabelledUpTo sources x (i + 1)) (sym e)
    (labelled_more sources levels (set levels s (Some 0)) i before (grows_set levels s 0 none)
    (ap (labelled (set levels s (Some 0))) (sym is) ∙ labelled_some (set levels s (Some 0)) s 0 (get_or-set_same levels s (Some 0) None small)))

pub labelled_same : (sources : List ℕ) (levels : List (Option ℕ)) (i s : ℕ) (new : List (Option ℕ)) → AreLabelledUpTo sources levels i → s ≡ get_or sources i 0
    → labelled levels s ≡ true → new ≡ levels → AreLabelledUpTo sources new (i + 1)
labelled_same sources levels i s new before is has e =
    subst (λ x. AreLabelledUpTo sources x (i + 1)) (sym e) (labelled_more sources levels levels i before (λ v l h. h) (ap (labelled levels) (sym is) ∙ has))

-- a vertex with a level is below the size
pub labelled_inside : (levels : List (Option ℕ)) (v : ℕ) → labelled levels v ≡ true → v < length levels
labelled_inside levels v has = ⊎_elim (λ lt. lt)
    (λ (past : length levels ≤ v). absurd (let none : labelled levels v ≡ false = ap is_some (get_or_past levels v None past) in let clash : true ≡ false = sym has ∙ none in cc))
    (cases_lt v (length levels))

-- what a test for no level tells
pub has_level_by : (o : Option ℕ) (b : Bool) → is_some o ≡ not b → b ≡ false → is_some o ≡ true
has_level_by o b e f = e ∙ ap not f

pub no_level_by : (o : Option ℕ) (b : Bool) → is_some o ≡ not b → b ≡ true → o ≡ None
no_level_by o b e f = no_level o (e ∙ ap not f)
