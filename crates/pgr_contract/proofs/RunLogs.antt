-- The steps of a run as events, and which vertices a run leaves.
use Rattle.std.proofs.Common.{◌≡◌, ◌⊎◌, inl, inr, ℕ, ℤ, Bool, false, List, [], ◌∷◌, ◌++◌, Option, Some, None, refl, sym, subst, ◌∙◌, ap}
use Rattle.std.specs.Prelude.{fold, ◌↔◌, IsSome}
use Rattle.std.specs.List.{Contains}
use Rattle.std.proofs.lemmas.Option.{none-some}
use Rattle.pgr_walks.specs.declared.link.LinkOf.{LinkOf}
use Rattle.pgr_words.specs.declared.method.Method.{Method}
use Rattle.pgr_words.specs.declared.method.Method.TheVariants.{DeadEnd, Linear}
use Rattle.pgr_contract.specs.declared.event.Event.{Event}
use Rattle.pgr_contract.specs.declared.event.Event.TheVariants.{End, Pass}
use Rattle.pgr_contract.specs.declared.held.Holder.{Holder}
use Rattle.pgr_contract.specs.declared.held.Holder.TheVariants.{At, Over}
use Rattle.pgr_contract.specs.Given.{AreGiven, HaveOpposites}
use Rattle.pgr_contract.specs.State.{State, ends_of, first_state}
use Rattle.pgr_contract.specs.Steps.{IsWay, IsWayCost, Qualifies, IsStep}
use Rattle.pgr_contract.specs.Run.{Takes, IsRun}
use Rattle.pgr_contract.specs.Events.{IsEventOf, after}
use Rattle.pgr_contract.specs.Running.{IsLogFrom}
use Rattle.pgr_contract.specs.Held.{tags_of, rest_of}
use Rattle.pgr_contract.specs.Survivors.{IsHeldIn}
use Rattle.pgr_contract.proofs.StepKeeps.{placed, at_place}
use Rattle.pgr_contract.proofs.Sound.{first_sound}
use Rattle.pgr_contract.proofs.WayEvents.{two_same_of}
use Rattle.pgr_contract.proofs.Contents.{IsHolding, tag_of, made_of}
use Rattle.pgr_contract.proofs.Holding.{log_holding, first_holding}

-- a step as an event
record IsEventFor (directed : Bool) (S T : State) : Type 0 where
  event : Event
  of : IsEventOf S.links event
  leaves : T ≡ after directed S event

-- with a way one way or the other there is a cost there or back
some_cost : (links : List (LinkOf ℤ)) (v low high : ℤ) (there back : Option ℕ) → IsWayCost (Contains links) low v high there → IsWayCost (Contains links) high v low back
    → IsWay (Contains links) low v high ⊎ IsWay (Contains links) high v low → IsSome there ⊎ IsSome back
some_cost links v low high (Some c) back first second way = inl refl
some_cost links v low high None (Some d) first second way = inr refl
some_cost links v low high None None first second (inl way) = absurd (first way)
some_cost links v low high None None first second (inr way) = absurd (second way)

step_event : (directed : Bool) (method : Method) (v : ℤ) (S T : State) → Qualifies method (Contains S.links) v → IsStep directed method v S T → IsEventFor directed S T
step_event directed DeadEnd v S T qualifies step = record { event = End (record { vertex = v; into = step.neighbour }); of = step.one; leaves = step.after }
step_event directed Linear v S T (low, (high, (two, way))) step =
    let same = two_same_of S.links v step.low step.high low high step.two two in
    record {
      event = Pass (record { vertex = v; low = step.low; high = step.high; there = step.there; back = step.back });
      of = record {
        two = step.two;
        there_is = step.there_is;
        back_is = step.back_is;
        some = some_cost S.links v step.low step.high step.there step.back step.there_is step.back_is
            (subst (λ a. IsWay (Contains S.links) a v step.high ⊎ IsWay (Contains S.links) step.high v a) (sym same.0)
            (subst (λ b. IsWay (Contains S.links) low v b ⊎ IsWay (Contains S.links) b v low) (sym same.1) way));
      };
      leaves = step.after;
    }

-- the events of a run
record IsLogOf (directed : Bool) (S T : State) : Type 0 where
  events : List Event
  log : IsLogFrom directed S events
  leaves : T ≡ fold (after directed) S events

append_log : (directed : Bool) (S : State) (first second : List Event) → IsLogFrom directed S first → IsLogFrom directed (fold (after directed) S first) second
    → IsLogFrom directed S (first ++ second)
append_log directed S [] second a b = b
append_log directed S (e ∷ more) second a b = (a.0, append_log directed (after directed S e) more second a.1 b)

append_fold : (directed : Bool) (S : State) (first second : List Event) → fold (after directed) S (first ++ second) ≡ fold (after directed) (fold (after directed) S first) second
append_fold directed S [] second = refl
append_fold directed S (e ∷ more) second = append_fold directed (after directed S e) more second

logs_on : (directed : Bool) (S R T : State) → IsLogOf directed S R → IsLogOf directed R T → IsLogOf directed S T
logs_on directed S R T first second = record {
  events = first.events ++ second.events;
  log = append_log directed S first.events second.events first.log (subst (λ Q. IsLogFrom directed Q second.events) first.leaves second.log);
  leaves = second.leaves ∙ (ap (λ Q. fold (after directed) Q second.events) first.leaves ∙ sym (append_fold directed S first.events second.events));
}

no_log : (directed : Bool) (S T : State) → S ≡ T → IsLogOf directed S T
no_log directed S T same = record { events = []; log = tt; leaves = sym same }

takes_log : (directed : Bool) (method : Method) (forbidden taken : List ℤ) (S T : State) → Takes directed method forbidden taken S T → IsLogOf directed S T
takes_log directed method forbidden [] S T same = no_log directed S T same
takes_log directed method forbidden (v ∷ more) S T (next, (R, (step, rest))) =
    let found = step_event directed method v S R next.may.qualifies step in
    logs_on directed S R T (record { events = found.event ∷ []; log = (found.of, tt); leaves = found.leaves }) (takes_log directed method forbidden more R T rest)

run_log : (directed : Bool) (forbidden : List ℤ) (methods : List Method) (S T : State) → IsRun directed forbidden methods S T → IsLogOf directed S T
run_log directed forbidden [] S T same = no_log directed S T same
run_log directed forbidden (method ∷ methods) S T (R, (phase, rest)) =
    logs_on directed S R T (takes_log directed method forbidden phase.taken S R phase.takes) (run_log directed forbidden methods R T rest)

-- what a state holds decides which vertices are left
left_or_held : (directed : Bool) (given : List (LinkOf ℤ)) (events : List Event) (S : State) → IsHolding directed given events S → (x : ℤ) → Contains (ends_of given) x
    → Contains S.vertices x ↔ ¬ IsHeldIn S x
left_or_held directed given events S holding x is_end = (stands_not, not_stands) where
  rests : IsHeldIn S x → (h : Holder) × (rest_of events x ≡ Some h)
  rests (inl (z, (stands, inside))) = (At z, (holding.at z x stands).0 inside)
  rests (inr (m, (made, (from, (to, inside))))) =
      let (n, at) = placed S.made m made in
      let (t, tagged) = tag_of S.made (tags_of directed events) holding.tags n m at in
      (Over t.span, (holding.over n m t tagged (subst (Contains S.vertices) tagged.tagged.from from) (subst (Contains S.vertices) tagged.tagged.to to) x).0 inside)

  stands_not : Contains S.vertices x → ¬ IsHeldIn S x
  stands_not stands held = let (h, rest) = rests held in none-some h (sym (holding.standing x stands) ∙ rest)

  held_at : (g : Holder) → rest_of events x ≡ Some g → IsHeldIn S x
  held_at (At z) rest = let stands = holding.at_stands x z rest in inl (z, (stands, (holding.at z x stands).1 rest))
  held_at (Over span) rest =
      let (n, (t, (at, (is, (from, to))))) = holding.over_stands x span rest in
      let (m, tagged) = made_of S.made (tags_of directed events) holding.tags n t at in
      inr (
        m,
        (
          at_place S.made n m tagged.made_at,
          (
            subst (Contains S.vertices) (sym tagged.tagged.from) from,
            (
              subst (Contains S.vertices) (sym tagged.tagged.to) to,
              (holding.over n m t tagged from to x).1 (rest ∙ ap (λ s. Some (Over s)) (sym is)),
            ),
          ),
        ),
      )

  not_stands : ¬ IsHeldIn S x → Contains S.vertices x
  not_stands not = by (rest_of events x) refl where
    by : (g : Option Holder) → rest_of events x ≡ g → Contains S.vertices x
    by None e = holding.none_stands x is_end e
    by (Some h) e = absurd (not (held_at h e))

-- so after a run the vertices that are left are those that nothing holds
pub run_survivors : (directed : Bool) (forbidden : List ℤ) (methods : List Method) (given : List (LinkOf ℤ)) (end : State) → AreGiven given
    → (directed ≡ false → HaveOpposites given) → IsRun directed forbidden methods (first_state given) end → (x : ℤ) → Contains (ends_of given) x
    → Contains end.vertices x ↔ ¬ IsHeldIn end x
run_survivors directed forbidden methods given end are_given opposites run x is_end =
    let log = run_log directed forbidden methods (first_state given) end run in
    let holding = log_holding directed given are_given [] log.events (first_state given) (first_sound directed given opposites) (first_holding directed given) log.log in
    subst (λ T. Contains T.vertices x ↔ ¬ IsHeldIn T x) (sym log.leaves)
    (left_or_held directed given log.events (fold (after directed) (first_state given) log.events) holding x is_end)
