-- Events are steps, and the vertices that qualify after one are those that did before, but for the neighbours of the one that went.
use Rattle.std.proofs.Common.{◌≡◌, ◌≢◌, ◌⊎◌, inl, inr, ℕ, ◌+◌, ◌≤◌, ◌<◌, ℤ, Bool, true, false, not, cond, List, [], ◌∷◌, ◌++◌, length, Option, Some, None, refl, sym, subst, ◌∙◌, ap, arith}
use Rattle.std.specs.Prelude.{◌↔◌, fold, IsSome}
use Rattle.std.specs.List.{Contains}
use Rattle.std.specs.Ordering.{int_eq}
use Rattle.std.specs.BTreeSet.{BTreeSet}
use Rattle.std.proofs.lemmas.List.Elements.{Contains-append_left, Contains-append_cases}
use Rattle.pgr_outside.proofs.Lists.{Contains-cons_cases, Contains-none}
use Rattle.pgr_walks.specs.declared.link.LinkOf.{LinkOf}
use Rattle.pgr_walks.specs.Reaches.{turned}
use Rattle.pgr_words.specs.declared.method.Method.{Method}
use Rattle.pgr_words.specs.declared.method.Method.TheVariants.{DeadEnd, Linear}
use Rattle.pgr_contract.specs.declared.event.Event.{Event}
use Rattle.pgr_contract.specs.declared.event.Event.TheVariants.{End, Pass}
use Rattle.pgr_contract.specs.State.{State, left_of, without_vertex, without_links_at, link_of_made, links_of_made}
use Rattle.pgr_contract.specs.Steps.{IsNeighbour, IsWay, IsWayCost, Qualifies, IsStep, shortcuts_between}
use Rattle.pgr_contract.specs.Run.{MayGo, IsNext}
use Rattle.pgr_contract.specs.Events.{IsEventOf, after, vertex_of, method_of}
use Rattle.pgr_contract.specs.Candidates.{Among, Covers, IsTakenOut, IsBeside, AreAdded}
use Rattle.pgr_contract.specs.Running.{IsLogFrom}
use Rattle.pgr_contract.proofs.Ids.{same_id, without_vertex-from, without_links-from, without_links-keeps, eq-int_eq}
use Rattle.pgr_contract.proofs.MadeLinks.{IsMade, IsMade-from}
use Rattle.pgr_contract.proofs.StepKeeps.{at_place}
use Rattle.pgr_contract.proofs.WayChanges.{none_not}
use Rattle.pgr_contract.proofs.Sound.{IsSound, step_sound, new_ends}

-- an event is a step
pub event_step : (directed : Bool) (S : State) (event : Event) → IsEventOf S.links event → IsStep directed (method_of event) (vertex_of event) S (after directed S event)
event_step directed S (End folded) one = record { neighbour = folded.into; one = one; after = refl }
event_step directed S (Pass passed) pass = record {
  low = passed.low;
  high = passed.high;
  there = passed.there;
  back = passed.back;
  two = pass.two;
  there_is = pass.there_is;
  back_is = pass.back_is;
  after = refl;
}

-- an event more
pub IsLogFrom-push : (directed : Bool) (S : State) (events : List Event) (event : Event) → IsLogFrom directed S events → IsEventOf (fold (after directed) S events).links event
    → IsLogFrom directed S (events ++ event ∷ [])
IsLogFrom-push directed S [] event log of = (of, tt)
IsLogFrom-push directed S (first ∷ more) event log of = (log.0, IsLogFrom-push directed (after directed S first) more event log.1 of)

-- the state after a log is sound
pub log_sound : (directed : Bool) (given : List (LinkOf ℤ)) (S : State) (events : List Event) → IsSound directed given S → IsLogFrom directed S events
    → IsSound directed given (fold (after directed) S events)
log_sound directed given S [] sound log = sound
log_sound directed given S (event ∷ more) sound log =
    log_sound directed given (after directed S event) more
    (step_sound directed given (method_of event) (vertex_of event) S (after directed S event) sound (event_step directed S event log.0)) log.1

-- two sets of links that are the same at x
module _ (Has Other : LinkOf ℤ → Type 0) (x : ℤ) (onward : (link : LinkOf ℤ) → Has link → (link.from ≡ x) ⊎ (link.to ≡ x) → Other link) where
  near_too : (y : ℤ) → IsNeighbour Has x y → IsNeighbour Other x y
  near_too y (differs, (link, (has, either))) = (
    differs,
    (
      link,
      (
        onward link has (elim either as (λ _. (link.from ≡ x) ⊎ (link.to ≡ x)) [
          | inl out ↦ inl out.0
          | inr into ↦ inr into.1
        ]),
        either,
      ),
    ),
  )

  way_too : (a b : ℤ) → IsWay Has a x b → IsWay Other a x b
  way_too a b ((into, (has_into, ends_into)), (out, (has_out, ends_out))) = (
    (into, (onward into has_into (inr ends_into.1), ends_into)),
    (out, (onward out has_out (inl ends_out.0), ends_out)),
  )

-- qualify it alike
pub qualifies_too : (method : Method) (Has Other : LinkOf ℤ → Type 0) (x : ℤ) → ((link : LinkOf ℤ) → Has link → (link.from ≡ x) ⊎ (link.to ≡ x) → Other link)
    → ((link : LinkOf ℤ) → Other link → (link.from ≡ x) ⊎ (link.to ≡ x) → Has link) → Qualifies method Has x → Qualifies method Other x
qualifies_too DeadEnd Has Other x onward back (u, one) = (
  u,
  record {
    neighbour = near_too Has Other x onward u one.neighbour;
    only = λ y near. one.only y (near_too Other Has x back y near);
  },
)
qualifies_too Linear Has Other x onward back (low, (high, (two, way))) = (
  low,
  (
    high,
    (
      record {
        less = two.less;
        first = near_too Has Other x onward low two.first;
        second = near_too Has Other x onward high two.second;
        only = λ y near. two.only y (near_too Other Has x back y near);
      },
      elim way as (λ _. IsWay Other low x high ⊎ IsWay Other high x low) [
        | inl there ↦ inl (way_too Has Other x onward low high there)
        | inr there ↦ inr (way_too Has Other x onward high low there)
      ],
    ),
  ),
)

-- the neighbours of the vertex that goes are those beside it
beside : (links : List (LinkOf ℤ)) (event : Event) (x : ℤ) → IsEventOf links event → IsNeighbour (Contains links) (vertex_of event) x → IsBeside event x
beside links (End folded) x one near = one.only x near
beside links (Pass passed) x pass near = pass.two.only x near

-- a link at another vertex that isn't beside it stays
stays : (directed : Bool) (S : State) (event : Event) (x : ℤ) → IsEventOf S.links event → x ≢ vertex_of event → (IsBeside event x → ⊥) → (link : LinkOf ℤ)
    → Contains S.links link → (link.from ≡ x) ⊎ (link.to ≡ x) → Contains (without_links_at (vertex_of event) S.links) link
stays directed S event x of differs apart link has at = by at where
  v_from : (link.to ≡ x) → link.from ≡ vertex_of event → ⊥
  v_from to from = apart (beside S.links event x of (differs, (link, (has, inl (from, to)))))

  v_to : (link.from ≡ x) → link.to ≡ vertex_of event → ⊥
  v_to from to = apart (beside S.links event x of (differs, (link, (has, inr (from, to)))))

  by : (link.from ≡ x) ⊎ (link.to ≡ x) → Contains (without_links_at (vertex_of event) S.links) link
  by (inl from) = without_links-keeps (vertex_of event) S.links link has (λ e. differs (sym from ∙ e)) (v_to from)
  by (inr to) = without_links-keeps (vertex_of event) S.links link has (v_from to) (λ e. differs (sym to ∙ e))

onward_at : (directed : Bool) (S : State) (event : Event) (x : ℤ) → IsEventOf S.links event → x ≢ vertex_of event → (IsBeside event x → ⊥) → (link : LinkOf ℤ)
    → Contains S.links link → (link.from ≡ x) ⊎ (link.to ≡ x) → Contains (after directed S event).links link
onward_at directed S (End folded) x of differs apart link has at = stays directed S (End folded) x of differs apart link has at
onward_at directed S (Pass passed) x of differs apart link has at =
    Contains-append_left (without_links_at passed.vertex S.links)
    (links_of_made directed (length S.made) (shortcuts_between directed passed.low passed.high passed.there passed.back (left_of S passed.vertex))) link
    (stays directed S (Pass passed) x of differs apart link has at)

-- a new link has its ends beside the vertex that went
new_beside : (directed : Bool) (n : ℕ) (low high : ℤ) (there back : Option ℕ) (inside : List ℤ) (link : LinkOf ℤ) (x : ℤ)
    → IsMade directed n (shortcuts_between directed low high there back inside) link → (link.from ≡ x) ⊎ (link.to ≡ x) → (x ≡ low) ⊎ (x ≡ high)
new_beside directed n low high there back inside link x made at =
    by made.either (new_ends directed low high there back inside made.shown (at_place (shortcuts_between directed low high there back inside) made.place made.shown made.at)) at
  where
    pick : (a b : ℤ) → ((a ≡ low) × (b ≡ high)) ⊎ ((a ≡ high) × (b ≡ low)) → (a ≡ x) ⊎ (b ≡ x) → (x ≡ low) ⊎ (x ≡ high)
    pick a b (inl ends) (inl is) = inl (sym is ∙ ends.0)
    pick a b (inl ends) (inr is) = inr (sym is ∙ ends.1)
    pick a b (inr ends) (inl is) = inr (sym is ∙ ends.0)
    pick a b (inr ends) (inr is) = inl (sym is ∙ ends.1)

    by : (link ≡ link_of_made (n + made.place) made.shown) ⊎ ((directed ≡ false) × (link ≡ turned (link_of_made (n + made.place) made.shown)))
        → ((made.shown.from ≡ low) × (made.shown.to ≡ high)) ⊎ ((made.shown.from ≡ high) × (made.shown.to ≡ low)) → (link.from ≡ x) ⊎ (link.to ≡ x) → (x ≡ low) ⊎ (x ≡ high)
    by (inl same) ends (inl is) = pick made.shown.from made.shown.to ends (inl (sym (ap (λ (l : LinkOf ℤ). l.from) same) ∙ is))
    by (inl same) ends (inr is) = pick made.shown.from made.shown.to ends (inr (sym (ap (λ (l : LinkOf ℤ). l.to) same) ∙ is))
    by (inr both) ends (inl is) = pick made.shown.from made.shown.to ends (inr (sym (ap (λ (l : LinkOf ℤ). l.from) both.1) ∙ is))
    by (inr both) ends (inr is) = pick made.shown.from made.shown.to ends (inl (sym (ap (λ (l : LinkOf ℤ). l.to) both.1) ∙ is))

back_at : (directed : Bool) (S : State) (event : Event) (x : ℤ) → (IsBeside event x → ⊥) → (link : LinkOf ℤ) → Contains (after directed S event).links link
    → (link.from ≡ x) ⊎ (link.to ≡ x) → Contains S.links link
back_at directed S (End folded) x apart link has at = (without_links-from folded.vertex S.links link has).0
back_at directed S (Pass passed) x apart link has at =
    elim (Contains-append_cases (without_links_at passed.vertex S.links)
    (links_of_made directed (length S.made) (shortcuts_between directed passed.low passed.high passed.there passed.back (left_of S passed.vertex))) link has)
    as (λ _. Contains S.links link) [
      | inl old ↦ (without_links-from passed.vertex S.links link old).0
      | inr new ↦ absurd (apart (new_beside directed (length S.made) passed.low passed.high passed.there passed.back (left_of S passed.vertex) link x
          (IsMade-from directed (length S.made) (shortcuts_between directed passed.low passed.high passed.there passed.back (left_of S passed.vertex)) link new) at))
    ]

-- what stands after a step stood before
pub vertices_after : (directed : Bool) (S : State) (event : Event) (x : ℤ) → Contains (after directed S event).vertices x → Contains S.vertices x × (x ≢ vertex_of event)
vertices_after directed S (End folded) x h = without_vertex-from folded.vertex S.vertices x h
vertices_after directed S (Pass passed) x h = without_vertex-from passed.vertex S.vertices x h

beside_or : (event : Event) (x : ℤ) → IsBeside event x ⊎ (IsBeside event x → ⊥)
beside_or (End folded) x = same_id x folded.into
beside_or (Pass passed) x = by (same_id x passed.low) (same_id x passed.high) where
  by : (x ≡ passed.low) ⊎ (x ≢ passed.low) → (x ≡ passed.high) ⊎ (x ≢ passed.high)
      → ((x ≡ passed.low) ⊎ (x ≡ passed.high)) ⊎ ((x ≡ passed.low) ⊎ (x ≡ passed.high) → ⊥)
  by (inl low) other = inl (inl low)
  by (inr low) (inl high) = inl (inr high)
  by (inr low) (inr high) = inr (λ either. elim either as (λ _. ⊥) [ inl a ↦ low a | inr b ↦ high b ])

-- candidates that had all but the one that went have all after it, once its neighbours were added
pub covers_after : (directed : Bool) (method : Method) (barred : BTreeSet ℤ) (S : State) (event : Event) (set new : BTreeSet ℤ) → IsEventOf S.links event
    → ((x : ℤ) → Contains S.vertices x → ¬ Among barred x → Qualifies method (Contains S.links) x → x ≢ vertex_of event → Among set x)
    → ((x : ℤ) → Among set x → ¬ Among barred x) → AreAdded barred event set new → Covers method barred (after directed S event) new
covers_after directed method barred S event set new of all allowed added = record {
  all = λ x stands free qualifies.
      let (stood, differs) = vertices_after directed S event x stands in
      elim (beside_or event x) as (λ _. Among new x) [
        | inl near ↦ added.added x near free
        | inr apart ↦ added.kept x (all x stood free
            (qualifies_too method (Contains (after directed S event).links) (Contains S.links) x (back_at directed S event x apart)
            (onward_at directed S event x of differs apart) qualifies)
            differs)
      ];
  allowed = λ x h. elim (added.allowed x h) as (λ _. ¬ Among barred x) [ inl old ↦ allowed x old | inr free ↦ free ];
}

-- a vertex that qualifies stands
pub qualifier_stands : (directed : Bool) (given : List (LinkOf ℤ)) (method : Method) (S : State) (v : ℤ) → IsSound directed given S → Qualifies method (Contains S.links) v
    → Contains S.vertices v
qualifier_stands directed given method S v sound qualifies = by method qualifies where
  at : (x : ℤ) → IsNeighbour (Contains S.links) v x → Contains S.vertices v
  at x (differs, (link, (has, either))) = elim either as (λ _. Contains S.vertices v) [
    | inl out ↦ subst (Contains S.vertices) out.0 (sound.ends link has).0
    | inr into ↦ subst (Contains S.vertices) into.1 (sound.ends link has).1
  ]

  by : (m : Method) → Qualifies m (Contains S.links) v → Contains S.vertices v
  by DeadEnd (u, one) = at u one.neighbour
  by Linear (low, (high, (two, way))) = at low two.first

-- an event's vertex qualifies
pub event_qualifies : (links : List (LinkOf ℤ)) (event : Event) → IsEventOf links event → Qualifies (method_of event) (Contains links) (vertex_of event)
event_qualifies links (End folded) one = (folded.into, one)
event_qualifies links (Pass passed) pass = (passed.low, (passed.high, (pass.two, way passed.there passed.back pass.there_is pass.back_is pass.some)))
  where
    way : (there back : Option ℕ) → IsWayCost (Contains links) passed.low passed.vertex passed.high there → IsWayCost (Contains links) passed.high passed.vertex passed.low back
        → IsSome there ⊎ IsSome back → IsWay (Contains links) passed.low passed.vertex passed.high ⊎ IsWay (Contains links) passed.high passed.vertex passed.low
    way None None first second some = elim some as (λ _. IsWay (Contains links) passed.low passed.vertex passed.high ⊎ IsWay (Contains links) passed.high passed.vertex passed.low)
        [ inl h ↦ absurd (none_not h) | inr h ↦ absurd (none_not h) ]
    way (Some c) back (i, (o, (into, (out, is)))) second some = inl ((into.link, (into.has, (into.from, into.to))), (out.link, (out.has, (out.from, out.to))))
    way None (Some c) first (i, (o, (into, (out, is)))) some = inr ((into.link, (into.has, (into.from, into.to))), (out.link, (out.has, (out.from, out.to))))

-- the vertex that is taken out of the candidates is the next to go
pub next_is : (directed : Bool) (given : List (LinkOf ℤ)) (method : Method) (forbidden : List ℤ) (barred : BTreeSet ℤ) (S : State) (old new : BTreeSet ℤ) (event : Event)
    → IsSound directed given S → ((x : ℤ) → Among barred x ↔ Contains forbidden x) → Covers method barred S old → IsTakenOut method S.links old new event
    → IsNext method forbidden S (vertex_of event)
next_is directed given method forbidden barred S old new event sound set covers taken =
    let qualifies : Qualifies method (Contains S.links) (vertex_of event)
    = subst (λ m. Qualifies m (Contains S.links) (vertex_of event)) taken.by (event_qualifies S.links event taken.event_of) in
    record {
      may = record {
        stands = qualifier_stands directed given method S (vertex_of event) sound qualifies;
        allowed = λ h. covers.allowed (vertex_of event) taken.member ((set (vertex_of event)).1 h);
        qualifies = qualifies;
      };
      least = λ x may. taken.least x (covers.all x may.stands (λ h. may.allowed ((set x).0 h)) may.qualifies) may.qualifies;
    }

-- with no candidate that qualifies none may go
pub none_may : (method : Method) (forbidden : List ℤ) (barred : BTreeSet ℤ) (S : State) (old : BTreeSet ℤ) → ((x : ℤ) → Among barred x ↔ Contains forbidden x)
    → Covers method barred S old → ((x : ℤ) → Among old x → ¬ Qualifies method (Contains S.links) x) → (x : ℤ) → ¬ MayGo method forbidden S x
none_may method forbidden barred S old set covers none x may = none x (covers.all x may.stands (λ h. may.allowed ((set x).0 h)) may.qualifies) may.qualifies

-- a list without one of its elements is shorter
shorter : (v : ℤ) (xs : List ℤ) → length (without_vertex v xs) ≤ length xs
shorter v [] = omega arith
shorter v (x ∷ xs) = by (int_eq x v) (shorter v xs) where
  by : (b : Bool) → length (without_vertex v xs) ≤ length xs → length (cond (not b) (x ∷ without_vertex v xs) (without_vertex v xs)) ≤ length (x ∷ xs)
  by true h = omega (arith, h)
  by false h = omega (arith, h)

without-shorter : (v : ℤ) (xs : List ℤ) → Contains xs v → length (without_vertex v xs) < length xs
without-shorter v [] h = absurd (Contains-none v h)
without-shorter v (x ∷ xs) h = by (Contains-cons_cases x xs v h) (λ rest. without-shorter v xs rest) where
  on : (b : Bool) → length (without_vertex v xs) < length xs → length (cond (not b) (x ∷ without_vertex v xs) (without_vertex v xs)) < length (x ∷ xs)
  on true less = omega (arith, less)
  on false less = omega (arith, less)

  by : (x ≡ v) ⊎ Contains xs v → (Contains xs v → length (without_vertex v xs) < length xs) → length (without_vertex v (x ∷ xs)) < length (x ∷ xs)
  by (inl same) rest =
      let gone : without_vertex v (x ∷ xs) ≡ without_vertex v xs = ap (λ b. cond (not b) (x ∷ without_vertex v xs) (without_vertex v xs)) (eq-int_eq x v same) in
      omega (arith, ap length gone, shorter v xs)
  by (inr later) rest = on (int_eq x v) (rest later)

-- fewer vertices stand after a step
pub step_fewer : (directed : Bool) (method : Method) (v : ℤ) (S T : State) → Contains S.vertices v → IsStep directed method v S T → length T.vertices < length S.vertices
step_fewer directed DeadEnd v S T stands step = subst (λ (R : State). length R.vertices < length S.vertices) (sym step.after) (without-shorter v S.vertices stands)
step_fewer directed Linear v S T stands step = subst (λ (R : State). length R.vertices < length S.vertices) (sym step.after) (without-shorter v S.vertices stands)
