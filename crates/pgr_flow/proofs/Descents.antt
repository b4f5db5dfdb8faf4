-- Walks down the levels: a step on, a step back, and the pointers into the parts.
use Rattle.std.proofs.Common.{◌≡◌, ℕ, ◌+◌, ◌<◌, ◌≤◌, ⊎_elim, false, cond, ltb, List, length, get_or, set, refl, sym, ap, ◌∙◌, subst, arith, Option, Some, None}
use Rattle.std.specs.List.{sum_by}
use Rattle.std.proofs.lemmas.Bool.{cases_eq, cases_lt, lt-ltb}
use Rattle.std.proofs.lemmas.Bool.Decides.{nat_tests}
use Rattle.std.proofs.lemmas.List.{get_or-set_same, get_or-set_other, length-set}
use Rattle.std.proofs.lemmas.List.Sums.{sum_by-set}
use Rattle.pgr_walks.specs.declared.link.LinkOf.{LinkOf}
use Rattle.pgr_flow.specs.declared.residual.Way.{Way}
use Rattle.pgr_flow.specs.declared.residual.Way.TheVariants.{Along, Against}
use Rattle.pgr_flow.specs.declared.residual.Step.{Step}
use Rattle.pgr_flow.specs.declared.incidence.Incident.{Incident}
use Rattle.pgr_flow.specs.Residual.{turned, LeadsOver}
use Rattle.pgr_flow.specs.Incidence.{HoldsIncidence, incident_at}
use Rattle.pgr_flow.specs.Levels.{level_at, one_if_some}
use Rattle.pgr_flow.specs.Descent.{no_step, step_at, ArePointers, IsOpen, IsIntact, IsFalling, node, IsDescent, Fades}

-- an arc taken the other way leads back
pub turned_leads : (arcs : List (LinkOf ℕ)) (k : ℕ) (way : Way) (u v : ℕ) → LeadsOver arcs k way u v → LeadsOver arcs k (turned way) v u
turned_leads arcs k Along u v leads = record { inside = leads.inside; start = leads.end; end = leads.start }
turned_leads arcs k Against u v leads = record { inside = leads.inside; start = leads.end; end = leads.start }

-- none of the ends from the pointer of a vertex up to a place is open
abbrev pub NoneIsOpen : List (LinkOf ℕ) → List ℕ → List (Option ℕ) → List Incident → ℕ → ℕ → ℕ → Type 0
NoneIsOpen arcs flows levels list level from to = (p : ℕ) → from ≤ p → p < to → IsOpen arcs flows levels level (incident_at list p) → ⊥

module _ (arcs : List (LinkOf ℕ)) (flows : List ℕ) (levels : List (Option ℕ)) (size : ℕ) (starts : List ℕ) (list : List Incident) (holds : HoldsIncidence size arcs starts list)
    (next : List ℕ) (pointers : ArePointers size starts next) (at level : ℕ) (below : at < size) (at_level : level_at levels at ≡ Some (level + 1)) where
  pub open_more : (place : ℕ) → NoneIsOpen arcs flows levels list level (get_or next at 0) place → (IsOpen arcs flows levels level (incident_at list place) → ⊥)
      → NoneIsOpen arcs flows levels list level (get_or next at 0) (place + 1)
  open_more place before here p from to is = ⊎_elim
      (λ (earlier : p < place). before p from earlier is)
      (λ (past : place ≤ p). (let same : p ≡ place = omega arith in here (subst (λ x. IsOpen arcs flows levels level (incident_at list x)) same is)))
      (cases_lt p place)

  pub pointers_set : (place : ℕ) → get_or starts at 0 ≤ place → place ≤ get_or starts (at + 1) 0 → ArePointers size starts (set next at place)
  pointers_set place low high = record {
    size_is = length-set next at place ∙ pointers.size_is;
    low = λ v lt. ⊎_elim
        (λ (same : v ≡ at). subst (λ x. get_or starts x 0 ≤ get_or (set next at place) x 0) (sym same) (omega (arith, here)))
        (λ ne. omega (arith, get_or-set_other next at v place 0 ne, pointers.low v lt))
        (cases_eq v at);
    high = λ v lt. ⊎_elim
        (λ (same : v ≡ at). subst (λ x. get_or (set next at place) x 0 ≤ get_or starts (x + 1) 0) (sym same) (omega (arith, here)))
        (λ ne. omega (arith, get_or-set_other next at v place 0 ne, pointers.high v lt))
        (cases_eq v at);
  }
    where
      here : get_or (set next at place) at 0 ≡ place
      here = get_or-set_same next at place 0 (omega (arith, pointers.size_is, holds.count))

  pub intact_set : (place : ℕ) → place < get_or starts (at + 1) 0 → IsOpen arcs flows levels level (incident_at list place)
      → IsIntact arcs flows starts list levels next → IsIntact arcs flows starts list levels (set next at place)
  intact_set place high is intact v l v_level = ⊎_elim
      (λ (same : v ≡ at). (let e : Some (l + 1) ≡ Some (level + 1) = sym v_level ∙ (ap (level_at levels) same ∙ at_level) in
      let f : l + 1 ≡ level + 1 = cc in
      let g : level ≡ l = omega arith in (
        place,
        subst (λ x. get_or (set next at place) x 0 ≤ place) (sym same) (omega (arith, get_or-set_same next at place 0 (omega (arith, pointers.size_is, holds.count)))),
        subst (λ x. place < get_or starts (x + 1) 0) (sym same) high,
        subst (λ x. IsOpen arcs flows levels x (incident_at list place)) g is,
      )))
      (λ ne. (let there = intact v l v_level in (there.0, omega (arith, get_or-set_other next at v place 0 ne, there.1), there.2, there.3)))
      (cases_eq v at)

  pub intact_none : NoneIsOpen arcs flows levels list level (get_or next at 0) (get_or starts (at + 1) 0) → IsIntact arcs flows starts list levels next → ⊥
  intact_none none intact = let there = intact at level at_level in none there.0 there.1 there.2 there.3

  pub falling_at : (place : ℕ) → get_or next at 0 ≤ place → place < get_or starts (at + 1) 0 → IsOpen arcs flows levels level (incident_at list place)
      → IsFalling arcs flows levels level (record { from = (incident_at list place).other; to = at; arc = (incident_at list place).arc; way = turned (incident_at list place).out })
  falling_at place low high is = record {
    residual = record { leads = turned_leads arcs _ _ _ _ (holds.sound at place below (omega (arith, pointers.low at below)) high); has_room = is.has_room };
    from_level = is.level_is;
    to_level = at_level;
  }

-- at the start of a phase the pointers are the starts
pub pointers_start : (size : ℕ) (arcs : List (LinkOf ℕ)) (starts : List ℕ) (list : List Incident) → HoldsIncidence size arcs starts list → ArePointers size starts starts
pointers_start size arcs starts list holds = record { size_is = refl; low = λ v lt. omega arith; high = λ v lt. holds.order v lt }

not_less : (n : ℕ) → ltb n n ≡ false
not_less n = grind (arith, nat_tests)

-- the vertex of a level below the top is where a step begins, that of the top the sink
pub node_below : (steps : List Step) (t top l : ℕ) → l < top → node steps t top l ≡ (step_at steps l).from
node_below steps t top l lt = ap (λ b. cond b (step_at steps l).from t) (lt-ltb l top lt)

pub node_top : (steps : List Step) (t top : ℕ) → node steps t top top ≡ t
node_top steps t top = ap (λ b. cond b (step_at steps top).from t) (not_less top)

node_set : (steps : List Step) (t top k l : ℕ) (s : Step) → (l ≡ k → ⊥) → node (set steps k s) t top l ≡ node steps t top l
node_set steps t top k l s ne = ap (λ (x : Step). cond (ltb l top) x.from t) (get_or-set_other steps k l s no_step ne)

module _ (arcs : List (LinkOf ℕ)) (flows : List ℕ) (levels : List (Option ℕ)) (steps : List Step) (t top : ℕ) where
  pub descent_start : level_at levels t ≡ Some top → top ≤ length steps → IsDescent arcs flows levels steps t top top t
  descent_start is small = record {
    at_level = is;
    low = omega arith;
    high = small;
    falls = λ l from to. absurd (omega arith);
    ends = λ l from to. absurd (omega arith);
    here = node_top steps t top;
  }

  -- a step down
  pub descent_down : (k level at : ℕ) (s : Step) → level ≡ k + 1 → IsDescent arcs flows levels steps t top level at → IsFalling arcs flows levels k s → s.to ≡ at
      → IsDescent arcs flows levels (set steps k s) t top k s.from
  descent_down k level at s up d falling into = record {
    at_level = falling.from_level;
    low = omega (arith, d.low);
    high = omega (arith, d.high, length-set steps k s);
    falls = λ l from to. ⊎_elim
        (λ (same : l ≡ k). subst (λ x. IsFalling arcs flows levels x (step_at (set steps k s) x)) (sym same) (subst (IsFalling arcs flows levels k) (sym here) falling))
        (λ ne. subst (IsFalling arcs flows levels l) (sym (get_or-set_other steps k l s no_step ne)) (d.falls l (omega (arith, apart l from ne)) to))
        (cases_eq l k);
    ends = λ l from to. ⊎_elim
        (λ (same : l ≡ k). subst (λ x. (step_at (set steps k s) x).to ≡ node (set steps k s) t top (x + 1)) (sym same)
        (ap (λ (x : Step). x.to) here ∙ (into ∙ (sym d.here ∙ (ap (node steps t top) up ∙ sym (node_set steps t top k (k + 1) s (λ e. omega arith)))))))
        (λ ne. ap (λ (x : Step). x.to) (get_or-set_other steps k l s no_step ne) ∙ (d.ends l (omega (arith, apart l from ne)) to
        ∙ sym (node_set steps t top k (l + 1) s (λ e. omega arith))))
        (cases_eq l k);
    here = node_below (set steps k s) t top k (omega (arith, d.low)) ∙ ap (λ (x : Step). x.from) here;
  }
    where
      here : step_at (set steps k s) k ≡ s
      here = get_or-set_same steps k s no_step (omega (arith, d.low, d.high))

      apart : (l : ℕ) → k ≤ l → (l ≡ k → ⊥) → k < l
      apart l from ne = grind arith

  -- a step back up: the vertex loses its level
  pub descent_up : (level at : ℕ) → IsDescent arcs flows levels steps t top level at → level < top
      → IsDescent arcs flows (set levels at None) steps t top (level + 1) (step_at steps level).to
  descent_up level at d lt = record {
    at_level = stays (step_at steps level).to (level + 1) (λ e. omega arith) (d.falls level (omega arith) lt).to_level;
    low = omega arith;
    high = d.high;
    falls = λ l from to. (let f = d.falls l (omega arith) to in
        record {
          residual = f.residual;
          from_level = stays (step_at steps l).from l (λ e. omega arith) f.from_level;
          to_level = stays (step_at steps l).to (l + 1)
              (λ e. omega arith) f.to_level;
        });
    ends = λ l from to. d.ends l (omega arith) to;
    here = sym (d.ends level (omega arith) lt);
  }
    where
      stays : (v m : ℕ) → (m ≡ level → ⊥) → level_at levels v ≡ Some m → level_at (set levels at None) v ≡ Some m
      stays v m ne is = ⊎_elim
          (λ (same : v ≡ at). (let e : Some m ≡ Some level = sym is ∙ (ap (level_at levels) same ∙ d.at_level) in let f : m ≡ level = cc in absurd (ne f)))
          (λ other. get_or-set_other levels at v None None other ∙ is)
          (cases_eq v at)

pub Fades-refl : (levels : List (Option ℕ)) → Fades levels levels
Fades-refl levels v level e = e

pub Fades-then : (a b c : List (Option ℕ)) → Fades a b → Fades b c → Fades a c
Fades-then a b c first second v level e = first v level (second v level e)

pub fades_set : (levels : List (Option ℕ)) (at : ℕ) → at < length levels → Fades levels (set levels at None)
fades_set levels at lt v level e = ⊎_elim
    (λ (same : v ≡ at). absurd (let clash : None ≡ Some level = sym (ap (level_at (set levels at None)) same ∙ get_or-set_same levels at None None lt) ∙ e in cc))
    (λ ne. sym (get_or-set_other levels at v None None ne) ∙ e)
    (cases_eq v at)

-- the measure of the way back
pub fewer_levels : (levels : List (Option ℕ)) (at level : ℕ) → at < length levels → level_at levels at ≡ Some level
    → sum_by one_if_some (set levels at None) + 1 ≡ sum_by one_if_some levels
fewer_levels levels at level lt is = omega (arith, sum_by-set one_if_some levels at None None lt, ap one_if_some is)
