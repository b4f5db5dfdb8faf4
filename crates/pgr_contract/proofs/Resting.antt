-- Where things rest, found from the last event to the first, is where they come by the events in turn.
use Rattle.std.proofs.Common.{◌≡◌, ◌≢◌, ◌⊎◌, inl, inr, ℕ, suc, ◌≤◌, ◌<◌, ℤ, Bool, true, false, cond, List, [], ◌∷◌, Option, Some, None, refl, sym, subst, ◌∙◌, ap, arith}
use Rattle.std.specs.Prelude.{fold}
use Rattle.std.specs.List.{Contains}
use Rattle.std.specs.Option.{option_map}
use Rattle.std.proofs.lemmas.Bool.{le-leb, lt-leb, or_left, or_right, or_from}
use Rattle.std.specs.Ordering.{int_eq}
use Rattle.pgr_walks.specs.declared.link.LinkOf.{LinkOf}
use Rattle.pgr_contract.specs.declared.event.Event.{Event}
use Rattle.pgr_contract.specs.declared.held.Holder.{Holder}
use Rattle.pgr_contract.specs.declared.held.Holder.TheVariants.{At, Over}
use Rattle.pgr_contract.specs.declared.held.Gone.{Gone}
use Rattle.pgr_contract.specs.State.{State}
use Rattle.pgr_contract.specs.Events.{IsEventOf, after, vertex_of, method_of}
use Rattle.pgr_contract.specs.Running.{IsLogFrom}
use Rattle.pgr_contract.specs.Held.{holder_of, goes_with, moved, settled, rest_after, rest_of, earlier, resolved, gone_from}
use Rattle.pgr_contract.proofs.Ids.{same_id, eq-int_eq, ne-int_eq}
use Rattle.pgr_contract.proofs.Sound.{IsSound, step_sound}
use Rattle.pgr_contract.proofs.EventSteps.{event_step, event_qualifies, qualifier_stands, vertices_after}

-- a vertex that goes first, and one that goes later or stays
gone-first : (n : ℕ) (event : Event) (more : List Event) (x : ℤ) → x ≡ vertex_of event
    → gone_from n (event ∷ more) x ≡ Some (record { place = n; holder = resolved (gone_from (suc n) more) (holder_of event) })
gone-first n event more x same =
    ap (λ b. cond b (Some (record { place = n; holder = resolved (gone_from (suc n) more) (holder_of event) })) (gone_from (suc n) more x)) (eq-int_eq x (vertex_of event) same)

gone-later : (n : ℕ) (event : Event) (more : List Event) (x : ℤ) → x ≢ vertex_of event → gone_from n (event ∷ more) x ≡ gone_from (suc n) more x
gone-later n event more x differs =
    ap (λ b. cond b (Some (record { place = n; holder = resolved (gone_from (suc n) more) (holder_of event) })) (gone_from (suc n) more x)) (ne-int_eq x (vertex_of event) differs)

-- places are no less than the first
place-le : (n : ℕ) (events : List Event) (x : ℤ) (gone : Gone) → gone_from n events x ≡ Some gone → n ≤ gone.place
place-le n [] x gone e = absurd (let f = e in cc)
place-le n (event ∷ more) x gone e = by (same_id x (vertex_of event)) (λ later. place-le (suc n) more x gone later) where
  by : (x ≡ vertex_of event) ⊎ (x ≢ vertex_of event) → (gone_from (suc n) more x ≡ Some gone → suc n ≤ gone.place) → n ≤ gone.place
  by (inl same) on =
      let f : Some (record { place = n; holder = resolved (gone_from (suc n) more) (holder_of event) }) ≡ Some gone = sym (gone-first n event more x same) ∙ e in
      let g : record { place = n; holder = resolved (gone_from (suc n) more) (holder_of event) } ≡ gone = cc in
      let p : n ≡ gone.place = ap (λ (h : Gone). h.place) g in
      omega arith
  by (inr differs) on = let p = on (sym (gone-later n event more x differs) ∙ e) in omega (arith, p)

-- of two that went the one with the lesser place
earlier-first : (h : Holder) (gone : Gone) (other : Option Gone) → ((o : Gone) → other ≡ Some o → gone.place ≤ o.place) → earlier h (Some gone) other ≡ gone.holder
earlier-first h gone None le = refl
earlier-first h gone (Some o) le = ap (λ b. cond b gone.holder o.holder) (le-leb gone.place o.place (le o refl))

earlier-second : (h : Holder) (other : Option Gone) (gone : Gone) → ((o : Gone) → other ≡ Some o → gone.place < o.place) → earlier h other (Some gone) ≡ gone.holder
earlier-second h None gone less = refl
earlier-second h (Some o) gone less = ap (λ b. cond b o.holder gone.holder) (lt-leb o.place gone.place (less o refl))

-- what goes with a vertex
goes : (h : Holder) (event : Event) → goes_with h (vertex_of event) ≡ true → moved h event ≡ holder_of event
goes h event e = ap (λ b. cond b (holder_of event) h) e

remains : (h : Holder) (event : Event) → goes_with h (vertex_of event) ≡ false → moved h event ≡ h
remains h event e = ap (λ b. cond b (holder_of event) h) e

-- the end of a holder's way is found from the last event to the first
pub settled_is : (n : ℕ) (events : List Event) (h : Holder) → settled events h ≡ resolved (gone_from n events) h
settled_is n [] (At z) = refl
settled_is n [] (Over span) = refl
settled_is n (event ∷ more) (At z) = by (same_id z (vertex_of event)) (settled_is (suc n) more (holder_of event)) (settled_is (suc n) more (At z)) where
  by : (z ≡ vertex_of event) ⊎ (z ≢ vertex_of event) → settled more (holder_of event) ≡ resolved (gone_from (suc n) more) (holder_of event)
      → settled more (At z) ≡ resolved (gone_from (suc n) more) (At z) → settled (event ∷ more) (At z) ≡ resolved (gone_from n (event ∷ more)) (At z)
  by (inl same) first rest =
      ap (settled more) (goes (At z) event (eq-int_eq z (vertex_of event) same)) ∙ (first ∙ sym (ap (λ g. earlier (At z) g None) (gone-first n event more z same)))
  by (inr differs) first rest =
      ap (settled more) (remains (At z) event (ne-int_eq z (vertex_of event) differs)) ∙ (rest ∙ sym (ap (λ g. earlier (At z) g None) (gone-later n event more z differs)))
settled_is n (event ∷ more) (Over span) =
    by (same_id span.low (vertex_of event)) (same_id span.high (vertex_of event)) (settled_is (suc n) more (holder_of event)) (settled_is (suc n) more (Over span))
  where
    after_now : (x : ℤ) (o : Gone) → gone_from (suc n) more x ≡ Some o → n < o.place
    after_now x o e = let p = place-le (suc n) more x o e in omega (arith, p)

    by : (span.low ≡ vertex_of event) ⊎ (span.low ≢ vertex_of event) → (span.high ≡ vertex_of event) ⊎ (span.high ≢ vertex_of event)
        → settled more (holder_of event) ≡ resolved (gone_from (suc n) more) (holder_of event)
        → settled more (Over span) ≡ resolved (gone_from (suc n) more) (Over span) → settled (event ∷ more) (Over span) ≡ resolved (gone_from n (event ∷ more)) (Over span)
    by (inl low) (inl high) first rest =
        ap (settled more) (goes (Over span) event (or_left (int_eq span.low (vertex_of event)) (int_eq span.high (vertex_of event)) (eq-int_eq span.low (vertex_of event) low)))
        ∙ (first ∙ sym (ap (λ g. earlier (Over span) g (gone_from n (event ∷ more) span.high)) (gone-first n event more span.low low)
        ∙ (ap (λ g. earlier (Over span) (Some (record { place = n; holder = resolved (gone_from (suc n) more) (holder_of event) })) g) (gone-first n event more span.high high)
        ∙ earlier-first (Over span) (record { place = n; holder = resolved (gone_from (suc n) more) (holder_of event) })
        (Some (record { place = n; holder = resolved (gone_from (suc n) more) (holder_of event) }))
        (λ o e. let same : record { place = n; holder = resolved (gone_from (suc n) more) (holder_of event) } ≡ o = cc in let p : n ≡ o.place = ap (λ (g : Gone). g.place) same in
        omega arith))))
    by (inl low) (inr high) first rest =
        ap (settled more) (goes (Over span) event (or_left (int_eq span.low (vertex_of event)) (int_eq span.high (vertex_of event)) (eq-int_eq span.low (vertex_of event) low)))
        ∙ (first ∙ sym (ap (λ g. earlier (Over span) g (gone_from n (event ∷ more) span.high)) (gone-first n event more span.low low)
        ∙ (ap (λ g. earlier (Over span) (Some (record { place = n; holder = resolved (gone_from (suc n) more) (holder_of event) })) g) (gone-later n event more span.high high)
        ∙ earlier-first (Over span) (record { place = n; holder = resolved (gone_from (suc n) more) (holder_of event) }) (gone_from (suc n) more span.high)
        (λ o e. let p = after_now span.high o e in omega (arith, p)))))
    by (inr low) (inl high) first rest =
        ap (settled more) (goes (Over span) event (or_right (int_eq span.low (vertex_of event)) (int_eq span.high (vertex_of event)) (eq-int_eq span.high (vertex_of event) high)))
        ∙ (first ∙ sym (ap (λ g. earlier (Over span) g (gone_from n (event ∷ more) span.high)) (gone-later n event more span.low low)
        ∙ (ap (λ g. earlier (Over span) (gone_from (suc n) more span.low) g) (gone-first n event more span.high high)
        ∙ earlier-second (Over span) (gone_from (suc n) more span.low) (record { place = n; holder = resolved (gone_from (suc n) more) (holder_of event) })
        (λ o e. after_now span.low o e))))
    by (inr low) (inr high) first rest =
        ap (settled more) (remains (Over span) event (or_from (int_eq span.low (vertex_of event)) (int_eq span.high (vertex_of event))
        (ne-int_eq span.low (vertex_of event) low) (ne-int_eq span.high (vertex_of event) high)))
        ∙ (rest ∙ sym (ap (λ g. earlier (Over span) g (gone_from n (event ∷ more) span.high)) (gone-later n event more span.low low)
        ∙ ap (λ g. earlier (Over span) (gone_from (suc n) more span.low) g) (gone-later n event more span.high high)))

-- what doesn't stand isn't taken any more
log_stands : (directed : Bool) (given : List (LinkOf ℤ)) (S : State) (event : Event) → IsSound directed given S → IsEventOf S.links event → Contains S.vertices (vertex_of event)
log_stands directed given S event sound of = qualifier_stands directed given (method_of event) S (vertex_of event) sound (event_qualifies S.links event of)

pub after_sound : (directed : Bool) (given : List (LinkOf ℤ)) (S : State) (event : Event) → IsSound directed given S → IsEventOf S.links event
    → IsSound directed given (after directed S event)
after_sound directed given S event sound of = step_sound directed given (method_of event) (vertex_of event) S (after directed S event) sound (event_step directed S event of)

-- where a vertex that is gone rests later on
rest_settles : (directed : Bool) (given : List (LinkOf ℤ)) (S : State) (events : List Event) (x : ℤ) (h : Holder) → IsSound directed given S → IsLogFrom directed S events
    → (Contains S.vertices x → ⊥) → fold (rest_after x) (Some h) events ≡ Some (settled events h)
rest_settles directed given S [] x h sound log not = refl
rest_settles directed given S (event ∷ more) x h sound log not =
    let differs : x ≢ vertex_of event = λ same. not (subst (Contains S.vertices) (sym same) (log_stands directed given S event sound log.0)) in
    ap (λ b. fold (rest_after x) (cond b (Some (holder_of event)) (Some (moved h event))) more) (ne-int_eq x (vertex_of event) differs)
    ∙ rest_settles directed given (after directed S event) more x (moved h event) (after_sound directed given S event sound log.0) log.1
    (λ stands. not (vertices_after directed S event x stands).0)

-- where each vertex rests after all events is found from the last to the first
pub rest_is : (directed : Bool) (given : List (LinkOf ℤ)) (S : State) (n : ℕ) (events : List Event) (x : ℤ) → IsSound directed given S → IsLogFrom directed S events
    → rest_of events x ≡ option_map (λ (gone : Gone). gone.holder) (gone_from n events x)
rest_is directed given S n [] x sound log = refl
rest_is directed given S n (event ∷ more) x sound log =
    by (same_id x (vertex_of event)) (rest_is directed given (after directed S event) (suc n) more x (after_sound directed given S event sound log.0) log.1)
  where
    by : (x ≡ vertex_of event) ⊎ (x ≢ vertex_of event) → rest_of more x ≡ option_map (λ (gone : Gone). gone.holder) (gone_from (suc n) more x)
        → rest_of (event ∷ more) x ≡ option_map (λ (gone : Gone). gone.holder) (gone_from n (event ∷ more) x)
    by (inl same) later =
        ap (λ b. fold (rest_after x) (cond b (Some (holder_of event)) None) more) (eq-int_eq x (vertex_of event) same)
        ∙ (rest_settles directed given (after directed S event) more x (holder_of event) (after_sound directed given S event sound log.0) log.1
        (λ stands. (vertices_after directed S event x stands).1 same)
        ∙ (ap (λ h. Some h) (settled_is (suc n) more (holder_of event)) ∙ sym (ap (λ g. option_map (λ (gone : Gone). gone.holder) g) (gone-first n event more x same))))
    by (inr differs) later =
        ap (λ b. fold (rest_after x) (cond b (Some (holder_of event)) None) more) (ne-int_eq x (vertex_of event) differs)
        ∙ (later
        ∙ sym (ap (λ g. option_map (λ (gone : Gone). gone.holder) g) (gone-later n event more x differs)))
