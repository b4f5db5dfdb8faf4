-- Each step leaves what vertices and shortcuts hold where things rest.
use Rattle.std.proofs.Common.{◌≡◌, ◌≢◌, ◌⊎◌, inl, inr, ℕ, zero, suc, ◌+◌, ℤ, Bool, true, false, cond, List, [], ◌∷◌, ◌++◌, length, Option, Some, None, refl, sym, subst, ◌∙◌, ap, append_assoc, arith}
use Rattle.std.specs.Prelude.{fold, ◌↔◌, IsSome}
use Rattle.std.specs.List.{Contains, slice_get, AllZip}
use Rattle.std.specs.Option.{option_map}
use Rattle.std.specs.Ordering.{int_eq}
use Rattle.std.proofs.lemmas.List.Elements.{Contains-append_left, Contains-append_right, Contains-append_cases}
use Rattle.std.proofs.lemmas.List.Concat.{flat_map-append}
use Rattle.std.proofs.lemmas.List.{append-nil}
use Rattle.std.proofs.lemmas.Option.{slice_get_within, none-some, same_Some}
use Rattle.std.proofs.lemmas.Bool.{cases_Bool, or_from, or_parts}
use Rattle.std.proofs.lemmas.List.Sums.{fold_push}
use Rattle.pgr_outside.proofs.Lists.{Contains-none}
use Rattle.pgr_walks.specs.declared.link.LinkOf.{LinkOf}
use Rattle.pgr_contract.specs.declared.event.Folded.{Folded}
use Rattle.pgr_contract.specs.declared.event.Bypassed.{Bypassed}
use Rattle.pgr_contract.specs.declared.event.Event.{Event}
use Rattle.pgr_contract.specs.declared.event.Event.TheVariants.{End, Pass}
use Rattle.pgr_contract.specs.declared.held.Span.{Span}
use Rattle.pgr_contract.specs.declared.held.Holder.{Holder}
use Rattle.pgr_contract.specs.declared.held.Holder.TheVariants.{At, Over}
use Rattle.pgr_contract.specs.Given.{AreGiven}
use Rattle.pgr_contract.specs.State.{Made, State, ends_of, first_state, left_of}
use Rattle.pgr_contract.specs.Steps.{shortcuts_between}
use Rattle.pgr_contract.specs.Events.{IsEventOf, after, vertex_of, method_of}
use Rattle.pgr_contract.specs.Running.{IsLogFrom}
use Rattle.pgr_contract.specs.Held.{span_of, holder_of, goes_with, moved, rest_after, rest_of, Tag, tag, tags_at, tags_of}
use Rattle.pgr_contract.proofs.Ids.{same_id, int_eq-false, eq-int_eq, ne-int_eq, without_vertex-keeps}
use Rattle.pgr_contract.proofs.Places.{get_first, get_second, get_either}
use Rattle.pgr_contract.proofs.WayChanges.{none_not}
use Rattle.pgr_contract.proofs.WayEvents.{same_both_ways}
use Rattle.pgr_contract.proofs.Sound.{IsSound, neighbour_stands}
use Rattle.pgr_contract.proofs.Resting.{after_sound}
use Rattle.pgr_contract.proofs.EventSteps.{qualifier_stands, event_qualifies, vertices_after}
use Rattle.pgr_contract.proofs.Contents.{IsTagged, HasEnds, HasTag, IsHolding, IsLeft, left_goes, goes_left}

-- two lists, zipped one after the other
AllZip-append : {A B : Type 0} (R : A → B → Type 0) (xs zs : List A) (ys ws : List B) → AllZip R xs ys → AllZip R zs ws → AllZip R (xs ++ zs) (ys ++ ws)
AllZip-append R [] zs [] ws first second = second
AllZip-append R [] zs (y ∷ ys) ws first second = absurd first
AllZip-append R (x ∷ xs) zs [] ws first second = absurd first
AllZip-append R (x ∷ xs) zs (y ∷ ys) ws first second = (first.0, AllZip-append R xs zs ys ws first.1 second)

zip_length : {A B : Type 0} (R : A → B → Type 0) (xs : List A) (ys : List B) → AllZip R xs ys → length xs ≡ length ys
zip_length R [] [] zip = refl
zip_length R [] (y ∷ ys) zip = absurd zip
zip_length R (x ∷ xs) [] zip = absurd zip
zip_length R (x ∷ xs) (y ∷ ys) zip = omega (arith, zip_length R xs ys zip.1)

-- one event more
tags-push : (directed : Bool) (events : List Event) (event : Event) → tags_of directed (events ++ event ∷ []) ≡ tags_of directed events ++ tags_at directed event
tags-push directed events event =
    flat_map-append (tags_at directed) events (event ∷ []) ∙ ap (λ ts. tags_of directed events ++ ts) (append-nil (tags_at directed event))

-- the new shortcuts and their tags
new_tagged : (directed : Bool) (passed : Bypassed) (there back : Option ℕ) (inside : List ℤ) (span : Span) (low high : ℤ)
    → (AllZip IsTagged (shortcuts_between true low high there back inside) (tag low high there span ++ tag high low back span))
    × (AllZip IsTagged (shortcuts_between false low high there back inside) (tag low high there span))
new_tagged directed passed None None inside span low high = (tt, tt)
new_tagged directed passed None (Some c) inside span low high = ((record { from = refl; to = refl; cost = refl }, tt), tt)
new_tagged directed passed (Some c) None inside span low high = ((record { from = refl; to = refl; cost = refl }, tt), (record { from = refl; to = refl; cost = refl }, tt))
new_tagged directed passed (Some c) (Some d) inside span low high =
    ((record { from = refl; to = refl; cost = refl }, (record { from = refl; to = refl; cost = refl }, tt)), (record { from = refl; to = refl; cost = refl }, tt))

pass_tagged : (directed : Bool) (passed : Bypassed) (inside : List ℤ)
    → AllZip IsTagged (shortcuts_between directed passed.low passed.high passed.there passed.back inside) (tags_at directed (Pass passed))
pass_tagged true passed inside = (new_tagged true passed passed.there passed.back inside (span_of passed) passed.low passed.high).0
pass_tagged false passed inside = (new_tagged false passed passed.there passed.back inside (span_of passed) passed.low passed.high).1

-- a tag of a new shortcut
record IsNewTag (span : Span) (t : Tag) : Type 0 where
  span_is : t.span ≡ span
  ends : HasEnds t

tag-is : (a b : ℤ) (cost : Option ℕ) (span : Span) (k : ℕ) (t : Tag) → slice_get (tag a b cost span) k ≡ Some t → (t.span ≡ span) × ((t.from ≡ a) × (t.to ≡ b))
tag-is a b None span k t e = absurd (let f = e in cc)
tag-is a b (Some c) span zero t e =
    let is : record { from = a; to = b; cost = c; span = span } ≡ t = cc in
    (sym (ap (λ (s : Tag). s.span) is), (sym (ap (λ (s : Tag). s.from) is), sym (ap (λ (s : Tag). s.to) is)))
tag-is a b (Some c) span (suc k) t e = absurd (let f = e in cc)

new_tag : (directed : Bool) (event : Event) (k : ℕ) (t : Tag) → slice_get (tags_at directed event) k ≡ Some t
    → (passed : Bypassed)
    × ((event ≡ Pass passed) × ((t.span ≡ span_of passed) × (((t.from ≡ passed.low) × (t.to ≡ passed.high)) ⊎ ((t.from ≡ passed.high) × (t.to ≡ passed.low)))))
new_tag directed (End folded) k t e = absurd (let f = e in cc)
new_tag true (Pass passed) k t e =
    elim (get_either (tag passed.low passed.high passed.there (span_of passed)) (tag passed.high passed.low passed.back (span_of passed)) k t e)
    as (λ _. (p : Bypassed) × ((Pass passed ≡ Pass p) × ((t.span ≡ span_of p) × (((t.from ≡ p.low) × (t.to ≡ p.high)) ⊎ ((t.from ≡ p.high) × (t.to ≡ p.low)))))) [
      | inl first ↦ let is = tag-is passed.low passed.high passed.there (span_of passed) k t first in (passed, (refl, (is.0, inl is.1)))
      | inr second ↦ let is = tag-is passed.high passed.low passed.back (span_of passed) second.0 t second.1.1 in (passed, (refl, (is.0, inr is.1)))
    ]
new_tag false (Pass passed) k t e = let is = tag-is passed.low passed.high passed.there (span_of passed) k t e in (passed, (refl, (is.0, inl is.1)))

-- one shortcut is made at least
some_tag : (directed : Bool) (low high : ℤ) (there back : Option ℕ) (span : Span) → IsSome there ⊎ IsSome back → (directed ≡ false → there ≡ back)
    → (t : Tag) × ((slice_get (tag low high there span ++ tag high low back span) 0 ≡ Some t) ⊎ ((directed ≡ true) → ⊥))
some_tag directed low high there back span some same = by there back some same where
  by : (a b : Option ℕ) → IsSome a ⊎ IsSome b → (directed ≡ false → a ≡ b)
      → (t : Tag) × ((slice_get (tag low high a span ++ tag high low b span) 0 ≡ Some t) ⊎ ((directed ≡ true) → ⊥))
  by None None s e = elim s as (λ _. (t : Tag) × ((slice_get (tag low high None span ++ tag high low None span) 0 ≡ Some t) ⊎ ((directed ≡ true) → ⊥))) [
    | inl h ↦ absurd (none_not h)
    | inr h ↦ absurd (none_not h)
  ]
  by (Some c) b s e = (record { from = low; to = high; cost = c; span = span }, inl refl)
  by None (Some d) s e = (record { from = high; to = low; cost = d; span = span }, inl refl)

first_tag : (directed : Bool) (passed : Bypassed) (there back : Option ℕ) → there ≡ passed.there → back ≡ passed.back → IsSome there ⊎ IsSome back
    → (directed ≡ false → there ≡ back)
    → (t : Tag) × (slice_get (tags_at directed (Pass passed)) 0 ≡ Some t)
first_tag true passed (Some c) back a b some same = (
  record { from = passed.low; to = passed.high; cost = c; span = span_of passed },
  ap (λ x. slice_get (tag passed.low passed.high x (span_of passed) ++ tag passed.high passed.low passed.back (span_of passed)) 0) (sym a),
)
first_tag true passed None (Some d) a b some same = (
  record { from = passed.high; to = passed.low; cost = d; span = span_of passed },
  ap (λ x. slice_get (tag passed.low passed.high x (span_of passed) ++ tag passed.high passed.low passed.back (span_of passed)) 0) (sym a)
      ∙ ap (λ x. slice_get (tag passed.high passed.low x (span_of passed)) 0) (sym b),
)
first_tag false passed (Some c) back a b some same = (
  record { from = passed.low; to = passed.high; cost = c; span = span_of passed },
  ap (λ x. slice_get (tag passed.low passed.high x (span_of passed)) 0) (sym a),
)
first_tag false passed None (Some d) a b some same = absurd (let e : None ≡ Some d = same refl in cc)
first_tag directed passed None None a b some same =
    elim some as (λ _. (t : Tag) × (slice_get (tags_at directed (Pass passed)) 0 ≡ Some t)) [ inl h ↦ absurd (none_not h) | inr h ↦ absurd (none_not h) ]

-- a new shortcut holds what is left
inside_new : (directed : Bool) (low high : ℤ) (there back : Option ℕ) (inside : List ℤ) (k : ℕ) (m : Made)
    → slice_get (shortcuts_between directed low high there back inside) k ≡ Some m
    → m.inside ≡ inside
inside_new true low high None None inside k m e = absurd (let f = e in cc)
inside_new true low high None (Some d) inside zero m e = let is : record { from = high; to = low; cost = d; inside = inside } ≡ m = cc in sym (ap (λ (x : Made). x.inside) is)
inside_new true low high None (Some d) inside (suc k) m e = absurd (let f = e in cc)
inside_new true low high (Some c) None inside zero m e = let is : record { from = low; to = high; cost = c; inside = inside } ≡ m = cc in sym (ap (λ (x : Made). x.inside) is)
inside_new true low high (Some c) None inside (suc k) m e = absurd (let f = e in cc)
inside_new true low high (Some c) (Some d) inside zero m e = let is : record { from = low; to = high; cost = c; inside = inside } ≡ m = cc in sym (ap (λ (x : Made). x.inside) is)
inside_new true low high (Some c) (Some d) inside (suc zero) m e = let is : record { from = high; to = low; cost = d; inside = inside } ≡ m = cc in
    sym (ap (λ (x : Made). x.inside) is)
inside_new true low high (Some c) (Some d) inside (suc (suc k)) m e = absurd (let f = e in cc)
inside_new false low high None back inside k m e = absurd (let f = e in cc)
inside_new false low high (Some c) back inside zero m e = let is : record { from = low; to = high; cost = c; inside = inside } ≡ m = cc in sym (ap (λ (x : Made). x.inside) is)
inside_new false low high (Some c) back inside (suc k) m e = absurd (let f = e in cc)

-- where things are after an event
module _ (events : List Event) (event : Event) (x : ℤ) where
  rest_push : rest_of (events ++ event ∷ []) x ≡ rest_after x (rest_of events x) event
  rest_push = fold_push (rest_after x) None events event

  rest_left : IsLeft events (vertex_of event) x → rest_of (events ++ event ∷ []) x ≡ Some (holder_of event)
  rest_left (inl same) =
      rest_push ∙ ap (λ b. cond b (Some (holder_of event)) (option_map (λ h. moved h event) (rest_of events x))) (eq-int_eq x (vertex_of event) same)
  rest_left (inr (h, (rest, goes))) = rest_push ∙ (ap (λ g. cond (int_eq x (vertex_of event)) (Some (holder_of event)) (option_map (λ k. moved k event) g)) rest
      ∙ (ap (λ b. cond (int_eq x (vertex_of event)) (Some (holder_of event)) (Some (cond b (holder_of event) h))) goes ∙ by (int_eq x (vertex_of event)))) where
        by : (b : Bool) → cond b (Some (holder_of event)) (Some (holder_of event)) ≡ Some (holder_of event)
        by true = refl
        by false = refl

  rest_kept : (h : Holder) → x ≢ vertex_of event → rest_of events x ≡ Some h → goes_with h (vertex_of event) ≡ false → rest_of (events ++ event ∷ []) x ≡ Some h
  rest_kept h differs rest remains =
      rest_push ∙ (ap (λ b. cond b (Some (holder_of event)) (option_map (λ k. moved k event) (rest_of events x))) (ne-int_eq x (vertex_of event) differs)
      ∙ (ap (λ g. option_map (λ k. moved k event) g) rest ∙ ap (λ b. Some (cond b (holder_of event) h)) remains))

  rest_none : x ≢ vertex_of event → rest_of events x ≡ None → rest_of (events ++ event ∷ []) x ≡ None
  rest_none differs rest =
      rest_push ∙ (ap (λ b. cond b (Some (holder_of event)) (option_map (λ k. moved k event) (rest_of events x))) (ne-int_eq x (vertex_of event) differs)
      ∙ ap (λ g. option_map (λ k. moved k event) g) rest)

  rest_back : (k : Holder) → rest_of (events ++ event ∷ []) x ≡ Some k
      → (IsLeft events (vertex_of event) x × (k ≡ holder_of event)) ⊎ ((rest_of events x ≡ Some k) × (goes_with k (vertex_of event) ≡ false))
  rest_back k e = by (same_id x (vertex_of event)) where
    Answer : Type 0
    Answer = (IsLeft events (vertex_of event) x × (k ≡ holder_of event)) ⊎ ((rest_of events x ≡ Some k) × (goes_with k (vertex_of event) ≡ false))

    on : (g : Option Holder) → rest_of events x ≡ g → option_map (λ h. moved h event) g ≡ Some k
        → (IsLeft events (vertex_of event) x × (k ≡ holder_of event)) ⊎ ((rest_of events x ≡ Some k) × (goes_with k (vertex_of event) ≡ false))
    on None rest f = absurd (none-some k f)
    on (Some h) rest f = elim (cases_Bool (goes_with h (vertex_of event)))
        as (λ _. (IsLeft events (vertex_of event) x × (k ≡ holder_of event)) ⊎ ((rest_of events x ≡ Some k) × (goes_with k (vertex_of event) ≡ false))) [
          | inl goes ↦ inl (inr (h, (rest, goes)), sym (same_Some (holder_of event) k (ap (λ b. Some (cond b (holder_of event) h)) (sym goes) ∙ f)))
          | inr stays ↦
              let same : h ≡ k = same_Some h k (ap (λ b. Some (cond b (holder_of event) h)) (sym stays) ∙ f) in
              inr (rest ∙ ap (λ y. Some y) same, subst (λ y. goes_with y (vertex_of event) ≡ false) same stays)
        ]

    by : (x ≡ vertex_of event) ⊎ (x ≢ vertex_of event)
        → (IsLeft events (vertex_of event) x × (k ≡ holder_of event)) ⊎ ((rest_of events x ≡ Some k) × (goes_with k (vertex_of event) ≡ false))
    by (inl same) =
        let now = sym (ap (λ b. cond b (Some (holder_of event)) (option_map (λ h. moved h event) (rest_of events x))) (eq-int_eq x (vertex_of event) same)) ∙ (sym rest_push ∙ e) in
        inl (inl same, sym (same_Some (holder_of event) k now))
    by (inr differs) =
        on (rest_of events x) refl
        (sym (ap (λ b. cond b (Some (holder_of event)) (option_map (λ h. moved h event) (rest_of events x))) (ne-int_eq x (vertex_of event) differs)) ∙ (sym rest_push ∙ e))

same_pass : (p q : Bypassed) → Pass p ≡ Pass q → p ≡ q
same_pass p q e = cc

at_over : (z : ℤ) (span : Span) → At z ≡ Over span → ⊥
at_over z span e = cc

same_at : (z y : ℤ) → At z ≡ At y → z ≡ y
same_at z y e = cc

same_over : (a b : Span) → Over a ≡ Over b → a ≡ b
same_over a b e = cc

-- a shortcut with other ends doesn't go with v
span_stays : (t : Tag) (v : ℤ) → HasEnds t → t.from ≢ v → t.to ≢ v → goes_with (Over t.span) v ≡ false
span_stays t v (inl ends) from to =
    or_from (int_eq t.span.low v) (int_eq t.span.high v) (ne-int_eq t.span.low v (λ e. from (ends.0 ∙ e))) (ne-int_eq t.span.high v (λ e. to (ends.1 ∙ e)))
span_stays t v (inr ends) from to =
    or_from (int_eq t.span.low v) (int_eq t.span.high v) (ne-int_eq t.span.low v (λ e. to (ends.1 ∙ e))) (ne-int_eq t.span.high v (λ e. from (ends.0 ∙ e)))

module _ (directed : Bool) (given : List (LinkOf ℤ)) (are_given : AreGiven given) (events : List Event) (S : State) (event : Event) (sound : IsSound directed given S)
    (holding : IsHolding directed given events S) (of : IsEventOf S.links event) where
  pub v_stands : Contains S.vertices (vertex_of event)
  v_stands = qualifier_stands directed given (method_of event) S (vertex_of event) sound (event_qualifies S.links event of)

  -- what rests somewhere isn't v
  not_v : (x : ℤ) (h : Holder) → rest_of events x ≡ Some h → x ≢ vertex_of event
  not_v x h rest same = none-some h (sym (holding.standing (vertex_of event) v_stands) ∙ (ap (rest_of events) (sym same) ∙ rest))

  stays_put : (z x : ℤ) → z ≢ vertex_of event → rest_of events x ≡ Some (At z) → rest_of (events ++ event ∷ []) x ≡ Some (At z)
  stays_put z x differs rest = rest_kept events event x (At z) (not_v x (At z) rest) rest (ne-int_eq z (vertex_of event) differs)

-- what vertices hold after a dead end
folded_at : (directed : Bool) (given : List (LinkOf ℤ)) → AreGiven given → (events : List Event) (S : State) (folded : Folded) → IsSound directed given S
    → IsHolding directed given events S
    → IsEventOf S.links (End folded) → (z x : ℤ) → Contains S.vertices z → z ≢ folded.vertex
    → Contains ((after directed S (End folded)).inside z) x ↔ (rest_of (events ++ End folded ∷ []) x ≡ Some (At z))
folded_at directed given are_given events S folded sound holding of z x stands differs = by (same_id z folded.into) where
  v_in : Contains S.vertices folded.vertex
  v_in = v_stands directed given are_given events S (End folded) sound holding of

  by : (z ≡ folded.into) ⊎ (z ≢ folded.into) → Contains (cond (int_eq z folded.into) (S.inside z ++ left_of S folded.vertex) (S.inside z)) x ↔
      (rest_of (events ++ End folded ∷ []) x ≡ Some (At z))
  by (inl same) =
      let is = ap (λ b. cond b (S.inside z ++ left_of S folded.vertex) (S.inside z)) (eq-int_eq z folded.into same) in (
        (λ h. elim (Contains-append_cases (S.inside z) (left_of S folded.vertex) x (subst (λ l. Contains l x) is h)) as (λ _. rest_of (events ++ End folded ∷ []) x ≡ Some (At z)) [
          | inl old ↦ stays_put directed given are_given events S (End folded) sound holding of z x differs ((holding.at z x stands).0 old)
          | inr left ↦ rest_left events (End folded) x (left_goes directed given are_given events S sound holding folded.vertex v_in x left) ∙ ap (λ y. Some (At y)) (sym same)
        ]),
        (λ rest. subst (λ l. Contains l x) (sym is) (elim (rest_back events (End folded) x (At z) rest) as (λ _. Contains (S.inside z ++ left_of S folded.vertex) x) [
          | inl left ↦ Contains-append_right (S.inside z) (left_of S folded.vertex) x (goes_left directed given are_given events S sound holding folded.vertex v_in x left.0)
          | inr kept ↦ Contains-append_left (S.inside z) (left_of S folded.vertex) x ((holding.at z x stands).1 kept.0)
        ])),
      )
  by (inr other) =
      let is = ap (λ b. cond b (S.inside z ++ left_of S folded.vertex) (S.inside z)) (ne-int_eq z folded.into other) in (
        (λ h. stays_put directed given are_given events S (End folded) sound holding of z x differs ((holding.at z x stands).0 (subst (λ l. Contains l x) is h))),
        (λ rest. subst (λ l. Contains l x) (sym is) (elim (rest_back events (End folded) x (At z) rest) as (λ _. Contains (S.inside z) x) [
          | inl left ↦ absurd (other (same_at z folded.into left.1))
          | inr kept ↦ (holding.at z x stands).1 kept.0
        ])),
      )

-- and after a linear vertex
passed_at : (directed : Bool) (given : List (LinkOf ℤ)) → AreGiven given → (events : List Event) (S : State) (passed : Bypassed) → IsSound directed given S
    → IsHolding directed given events S
    → IsEventOf S.links (Pass passed) → (z x : ℤ) → Contains S.vertices z → z ≢ passed.vertex → Contains (S.inside z) x ↔ (rest_of (events ++ Pass passed ∷ []) x ≡ Some (At z))
passed_at directed given are_given events S passed sound holding of z x stands differs = (
  (λ h. stays_put directed given are_given events S (Pass passed) sound holding of z x differs ((holding.at z x stands).0 h)),
  (λ rest. elim (rest_back events (Pass passed) x (At z) rest) as (λ _. Contains (S.inside z) x) [
    | inl left ↦ absurd (at_over z (span_of passed) left.1)
    | inr kept ↦ (holding.at z x stands).1 kept.0
  ]),
)

-- an old shortcut whose ends stand holds what it held
old_over : (directed : Bool) (given : List (LinkOf ℤ)) → AreGiven given → (events : List Event) (S : State) (event : Event) → IsSound directed given S
    → IsHolding directed given events S
    → IsEventOf S.links event → (n : ℕ) (m : Made) (t : Tag) → HasTag S.made (tags_of directed events) n m t → Contains S.vertices t.from → Contains S.vertices t.to
    → t.from ≢ vertex_of event → t.to ≢ vertex_of event → (x : ℤ) → Contains m.inside x ↔ (rest_of (events ++ event ∷ []) x ≡ Some (Over t.span))
old_over directed given are_given events S event sound holding of n m t tagged from to from_v to_v x = (
  (λ h.
      let rest = (holding.over n m t tagged from to x).0 h in
      rest_kept events event x (Over t.span) (not_v directed given are_given events S event sound holding of x (Over t.span) rest) rest
      (span_stays t (vertex_of event) (holding.ends n t tagged.tag_at) from_v to_v)),
  (λ rest. elim (rest_back events event x (Over t.span) rest) as (λ _. Contains m.inside x) [
    | inl left ↦ absurd (fresh event of left.1)
    | inr kept ↦ (holding.over n m t tagged from to x).1 kept.0
  ]),
)
  where
    fresh : (e : Event) → IsEventOf S.links e → Over t.span ≡ holder_of e → ⊥
    fresh (End folded) is same = at_over folded.into t.span (sym same)
    fresh (Pass passed) is same =
        let vertex : passed.vertex ≡ t.span.vertex = sym (ap (λ (s : Span). s.vertex) (same_over t.span (span_of passed) same)) in
        holding.spent n t tagged.tag_at (subst (Contains S.vertices) vertex (v_stands directed given are_given events S (Pass passed) sound holding is))

-- a new shortcut holds what is left of the vertex
new_over : (directed : Bool) (given : List (LinkOf ℤ)) → AreGiven given → (events : List Event) (S : State) (passed : Bypassed) → IsSound directed given S
    → IsHolding directed given events S
    → IsEventOf S.links (Pass passed) → (span : Span) → span ≡ span_of passed → (x : ℤ) → Contains (left_of S passed.vertex) x ↔
    (rest_of (events ++ Pass passed ∷ []) x ≡ Some (Over span))
new_over directed given are_given events S passed sound holding of span is x = (
  (λ h. rest_left events (Pass passed) x (left_goes directed given are_given events S sound holding passed.vertex v_in x h) ∙ ap (λ s. Some (Over s)) (sym is)),
  (λ rest. elim (rest_back events (Pass passed) x (Over span) rest) as (λ _. Contains (left_of S passed.vertex) x) [
    | inl left ↦ goes_left directed given are_given events S sound holding passed.vertex v_in x left.0
    | inr kept ↦ absurd (unused (holding.over_stands x span kept.0))
  ]),
)
  where
    v_in : Contains S.vertices passed.vertex
    v_in = v_stands directed given are_given events S (Pass passed) sound holding of

    unused : (n : ℕ) × ((t : Tag) × ((slice_get (tags_of directed events) n ≡ Some t) × ((t.span ≡ span) × (Contains S.vertices t.from × Contains S.vertices t.to)))) → ⊥
    unused (n, (t, (at, (same, stand)))) =
        let vertex : passed.vertex ≡ t.span.vertex = ap (λ (s : Span). s.vertex) (sym (same ∙ is)) in
        holding.spent n t at (subst (Contains S.vertices) vertex v_in)

still_standing : (directed : Bool) (S : State) (event : Event) (x : ℤ) → Contains S.vertices x → x ≢ vertex_of event → Contains (after directed S event).vertices x
still_standing directed S (End folded) x h differs = without_vertex-keeps folded.vertex S.vertices x h differs
still_standing directed S (Pass passed) x h differs = without_vertex-keeps passed.vertex S.vertices x h differs

module _ (directed : Bool) (given : List (LinkOf ℤ)) (are_given : AreGiven given) (events : List Event) (S : State) (event : Event) (sound : IsSound directed given S)
    (holding : IsHolding directed given events S) (of : IsEventOf S.links event) where
  standing_after : (x : ℤ) → Contains (after directed S event).vertices x → rest_of (events ++ event ∷ []) x ≡ None
  standing_after x h = let (stood, differs) = vertices_after directed S event x h in rest_none events event x differs (holding.standing x stood)

  none_after : (x : ℤ) → Contains (ends_of given) x → rest_of (events ++ event ∷ []) x ≡ None → Contains (after directed S event).vertices x
  none_after x is_end none = by (same_id x (vertex_of event)) (rest_of events x) refl where
    by : (x ≡ vertex_of event) ⊎ (x ≢ vertex_of event) → (g : Option Holder) → rest_of events x ≡ g → Contains (after directed S event).vertices x
    by (inl same) g e = absurd (none-some (holder_of event) (sym none ∙ rest_left events event x (inl same)))
    by (inr differs) None e = still_standing directed S event x (holding.none_stands x is_end e) differs
    by (inr differs) (Some h) e = elim (cases_Bool (goes_with h (vertex_of event))) as (λ _. Contains (after directed S event).vertices x) [
      | inl goes ↦ absurd (none-some (holder_of event) (sym none ∙ rest_left events event x (inr (h, (e, goes)))))
      | inr stays ↦ absurd (none-some h (sym none ∙ rest_kept events event x h differs e stays))
    ]

  ended_after : (x : ℤ) (h : Holder) → rest_of (events ++ event ∷ []) x ≡ Some h → Contains (ends_of given) x
  ended_after x h rest = by (rest_back events event x h rest) where
    left_ended : IsLeft events (vertex_of event) x → Contains (ends_of given) x
    left_ended (inl same) =
        subst (Contains (ends_of given)) (sym same) (sound.vertices (vertex_of event) (v_stands directed given are_given events S event sound holding of))
    left_ended (inr (g, (old, goes))) = holding.ended x g old

    by : (IsLeft events (vertex_of event) x × (h ≡ holder_of event)) ⊎ ((rest_of events x ≡ Some h) × (goes_with h (vertex_of event) ≡ false)) → Contains (ends_of given) x
    by (inl left) = left_ended left.0
    by (inr kept) = holding.ended x h kept.0

  tag_ends_after : (beside_end : (passed : Bypassed) → event ≡ Pass passed → Contains (ends_of given) passed.low × Contains (ends_of given) passed.high) → (n : ℕ) (t : Tag)
      → slice_get (tags_of directed (events ++ event ∷ [])) n ≡ Some t → Contains (ends_of given) t.from × Contains (ends_of given) t.to
  tag_ends_after beside_end n t at =
      elim (get_either (tags_of directed events) (tags_at directed event) n t (subst (λ ts. slice_get ts n ≡ Some t) (tags-push directed events event) at))
      as (λ _. Contains (ends_of given) t.from × Contains (ends_of given) t.to) [
        | inl old ↦ holding.tag_ends n t old
        | inr new ↦
            let (passed, (is, (span_is, either))) = new_tag directed event new.0 t new.1.1 in
            let both = beside_end passed is in
            elim either as (λ _. Contains (ends_of given) t.from × Contains (ends_of given) t.to) [
              | inl a ↦ (subst (Contains (ends_of given)) (sym a.0) both.0, subst (Contains (ends_of given)) (sym a.1) both.1)
              | inr b ↦ (subst (Contains (ends_of given)) (sym b.0) both.1, subst (Contains (ends_of given)) (sym b.1) both.0)
            ]
      ]

  -- a tag is an old one, or has the span of the vertex that went
  old_or_new : (n : ℕ) (t : Tag) → slice_get (tags_of directed (events ++ event ∷ [])) n ≡ Some t
      → (slice_get (tags_of directed events) n ≡ Some t) ⊎ ((passed : Bypassed) × ((event ≡ Pass passed) × (t.span ≡ span_of passed)))
  old_or_new n t at =
      elim (get_either (tags_of directed events) (tags_at directed event) n t (subst (λ ts. slice_get ts n ≡ Some t) (tags-push directed events event) at))
      as (λ _. (slice_get (tags_of directed events) n ≡ Some t) ⊎ ((passed : Bypassed) × ((event ≡ Pass passed) × (t.span ≡ span_of passed)))) [
        | inl old ↦ inl old
        | inr new ↦ let (passed, (is, (span_is, either))) = new_tag directed event new.0 t new.1.1 in inr (passed, (is, span_is))
      ]

  old_vertex : (n : ℕ) (t : Tag) → slice_get (tags_of directed events) n ≡ Some t → t.span.vertex ≢ vertex_of event
  old_vertex n t at same = holding.spent n t at (subst (Contains S.vertices) (sym same) (v_stands directed given are_given events S event sound holding of))

  one_span_after : (n k : ℕ) (t s : Tag) → slice_get (tags_of directed (events ++ event ∷ [])) n ≡ Some t → slice_get (tags_of directed (events ++ event ∷ [])) k ≡ Some s
      → t.span.vertex ≡ s.span.vertex → t.span ≡ s.span
  one_span_after n k t s t_at s_at same = by (old_or_new n t t_at) (old_or_new k s s_at) where
    by : (slice_get (tags_of directed events) n ≡ Some t) ⊎ ((passed : Bypassed) × ((event ≡ Pass passed) × (t.span ≡ span_of passed)))
        → (slice_get (tags_of directed events) k ≡ Some s) ⊎ ((passed : Bypassed) × ((event ≡ Pass passed) × (s.span ≡ span_of passed))) → t.span ≡ s.span
    by (inl a) (inl b) = holding.one_span n k t s a b same
    by (inl a) (inr (p, (is, span))) = absurd (old_vertex n t a (same ∙ (ap (λ (x : Span). x.vertex) span ∙ sym (ap vertex_of is))))
    by (inr (p, (is, span))) (inl b) = absurd (old_vertex k s b (sym same ∙ (ap (λ (x : Span). x.vertex) span ∙ sym (ap vertex_of is))))
    by (inr (p, (is, span))) (inr (q, (also, other))) = span ∙ (ap span_of (same_pass p q (sym is ∙ also)) ∙ sym other)

  at_stands_after : (into_stands : (folded : Folded) → event ≡ End folded → Contains (after directed S event).vertices folded.into) → (x z : ℤ)
      → rest_of (events ++ event ∷ []) x ≡ Some (At z) → Contains (after directed S event).vertices z
  at_stands_after into_stands x z rest = by (rest_back events event x (At z) rest) where
    fresh : (e : Event) → event ≡ e → At z ≡ holder_of e → Contains (after directed S event).vertices z
    fresh (End folded) is same = subst (Contains (after directed S event).vertices) (sym (same_at z folded.into same)) (into_stands folded is)
    fresh (Pass passed) is same = absurd (at_over z (span_of passed) same)

    by : (IsLeft events (vertex_of event) x × (At z ≡ holder_of event)) ⊎ ((rest_of events x ≡ Some (At z)) × (goes_with (At z) (vertex_of event) ≡ false))
        → Contains (after directed S event).vertices z
    by (inl left) = fresh event refl left.1
    by (inr kept) = still_standing directed S event z (holding.at_stands x z kept.0) (int_eq-false z (vertex_of event) kept.1)

  ends_after : (n : ℕ) (t : Tag) → slice_get (tags_of directed (events ++ event ∷ [])) n ≡ Some t → HasEnds t
  ends_after n t at =
      elim (get_either (tags_of directed events) (tags_at directed event) n t (subst (λ ts. slice_get ts n ≡ Some t) (tags-push directed events event) at)) as (λ _. HasEnds t) [
        | inl old ↦ holding.ends n t old
        | inr new ↦ ends_of_new (new_tag directed event new.0 t new.1.1)
      ]
    where
      ends_of_new : (passed : Bypassed)
          × ((event ≡ Pass passed) × ((t.span ≡ span_of passed) × (((t.from ≡ passed.low) × (t.to ≡ passed.high)) ⊎ ((t.from ≡ passed.high) × (t.to ≡ passed.low)))))
          → HasEnds t
      ends_of_new (passed, (is, (span, either))) =
          let low : t.span.low ≡ passed.low = ap (λ (s : Span). s.low) span in
          let high : t.span.high ≡ passed.high = ap (λ (s : Span). s.high) span in
          elim either as (λ _. HasEnds t) [ inl a ↦ inl (a.0 ∙ sym low, a.1 ∙ sym high) | inr b ↦ inr (b.0 ∙ sym high, b.1 ∙ sym low) ]

  spent_after : (n : ℕ) (t : Tag) → slice_get (tags_of directed (events ++ event ∷ [])) n ≡ Some t → Contains (after directed S event).vertices t.span.vertex → ⊥
  spent_after n t at stands =
      let (stood, differs) = vertices_after directed S event t.span.vertex stands in
      elim (get_either (tags_of directed events) (tags_at directed event) n t (subst (λ ts. slice_get ts n ≡ Some t) (tags-push directed events event) at)) as (λ _. ⊥) [
        | inl old ↦ holding.spent n t old stood
        | inr new ↦
            let (passed, (is, (span, either))) = new_tag directed event new.0 t new.1.1 in
            differs (ap (λ (s : Span). s.vertex) span ∙ sym (ap vertex_of is))
      ]

  over_stands_after : (pass_some : (passed : Bypassed) → event ≡ Pass passed → (t : Tag) × (slice_get (tags_at directed event) 0 ≡ Some t))
      → (beside_stand : (passed : Bypassed) → event ≡ Pass passed → Contains (after directed S event).vertices passed.low × Contains (after directed S event).vertices passed.high)
      → (x : ℤ) (span : Span) → rest_of (events ++ event ∷ []) x ≡ Some (Over span)
      → (n : ℕ) × ((t : Tag) × ((slice_get (tags_of directed (events ++ event ∷ [])) n ≡ Some t)
      × ((t.span ≡ span) × (Contains (after directed S event).vertices t.from × Contains (after directed S event).vertices t.to))))
  over_stands_after pass_some beside_stand x span rest = by (rest_back events event x (Over span) rest) where
    fresh : (e : Event) → event ≡ e → Over span ≡ holder_of e
        → (n : ℕ) × ((t : Tag) × ((slice_get (tags_of directed (events ++ event ∷ [])) n ≡ Some t)
        × ((t.span ≡ span) × (Contains (after directed S event).vertices t.from × Contains (after directed S event).vertices t.to))))
    fresh (End folded) is same = absurd (at_over folded.into span (sym same))
    fresh (Pass passed) is same =
        let (t, at) = pass_some passed is in
        let (p, (is_p, (span_is, either))) = new_tag directed event 0 t at in
        let stand = beside_stand p is_p in
        let spans : t.span ≡ span = span_is ∙ same_over (span_of p) span (sym (ap holder_of is_p) ∙ (ap holder_of is ∙ sym same)) in
        let place : length (tags_of directed events) + 0 ≡ length (tags_of directed events) + 0 = refl in (
          length (tags_of directed events) + 0,
          (
            t,
            (
              subst (λ ts. slice_get ts (length (tags_of directed events) + 0) ≡ Some t) (sym (tags-push directed events event))
                  (get_second (tags_of directed events) (tags_at directed event) 0 t at),
              (
                spans,
                elim either as (λ _. Contains (after directed S event).vertices t.from × Contains (after directed S event).vertices t.to) [
                  | inl a ↦ (subst (Contains (after directed S event).vertices) (sym a.0) stand.0, subst (Contains (after directed S event).vertices) (sym a.1) stand.1)
                  | inr b ↦ (subst (Contains (after directed S event).vertices) (sym b.0) stand.1, subst (Contains (after directed S event).vertices) (sym b.1) stand.0)
                ],
              ),
            ),
          ),
        )

    by : (IsLeft events (vertex_of event) x × (Over span ≡ holder_of event)) ⊎ ((rest_of events x ≡ Some (Over span)) × (goes_with (Over span) (vertex_of event) ≡ false))
        → (n : ℕ) × ((t : Tag) × ((slice_get (tags_of directed (events ++ event ∷ [])) n ≡ Some t)
        × ((t.span ≡ span) × (Contains (after directed S event).vertices t.from × Contains (after directed S event).vertices t.to))))
    by (inl left) = fresh event refl left.1
    by (inr (old, stays)) =
        let (n, (t, (at, (is, (from, to))))) = holding.over_stands x span old in
        let (low, high) = or_parts (int_eq span.low (vertex_of event)) (int_eq span.high (vertex_of event)) stays in
        let apart : (t.from ≢ vertex_of event) × (t.to ≢ vertex_of event) = ends_apart t is (holding.ends n t at) (int_eq-false span.low (vertex_of event) low)
        (int_eq-false span.high (vertex_of event) high) in (
          n,
          (
            t,
            (
              subst (λ ts. slice_get ts n ≡ Some t) (sym (tags-push directed events event)) (get_first (tags_of directed events) (tags_at directed event) n t at),
              (is, (still_standing directed S event t.from from apart.0, still_standing directed S event t.to to apart.1)),
            ),
          ),
        )
      where
        ends_apart : (t : Tag) → t.span ≡ span → HasEnds t → span.low ≢ vertex_of event → span.high ≢ vertex_of event → (t.from ≢ vertex_of event) × (t.to ≢ vertex_of event)
        ends_apart t is (inl a) low high = ((λ e. low (sym (ap (λ (s : Span). s.low) is) ∙ (sym a.0 ∙ e))), (λ e. high (sym (ap (λ (s : Span). s.high) is) ∙ (sym a.1 ∙ e))))
        ends_apart t is (inr b) low high = ((λ e. high (sym (ap (λ (s : Span). s.high) is) ∙ (sym b.0 ∙ e))), (λ e. low (sym (ap (λ (s : Span). s.low) is) ∙ (sym b.1 ∙ e))))

same_end : (f g : Folded) → End f ≡ End g → f ≡ g
same_end f g e = cc

pass_end : (p : Bypassed) (f : Folded) → Pass p ≡ End f → ⊥
pass_end p f is = cc

-- a step leaves it so: after a dead end
folded_holding : (directed : Bool) (given : List (LinkOf ℤ)) → AreGiven given → (events : List Event) (S : State) (folded : Folded) → IsSound directed given S
    → IsHolding directed given events S
    → IsEventOf S.links (End folded) → IsHolding directed given (events ++ End folded ∷ []) (after directed S (End folded))
folded_holding directed given are_given events S folded sound holding of =
    let e = End folded in
    let same : tags_of directed (events ++ e ∷ []) ≡ tags_of directed events = tags-push directed events e ∙ append-nil (tags_of directed events) in
    record {
      standing = standing_after directed given are_given events S e sound holding of;
      none_stands = none_after directed given are_given events S e sound holding of;
      at = λ z x stands. (let (stood, differs) = vertices_after directed S e z stands in folded_at directed given are_given events S folded sound holding of z x stood differs);
      ended = ended_after directed given are_given events S e sound holding of;
      tag_ends = tag_ends_after directed given are_given events S e sound holding of (λ passed is. absurd (end_pass folded passed is));
      one_span = one_span_after directed given are_given events S e sound holding of;
      at_stands = at_stands_after directed given are_given events S e sound holding of
          (λ f is. subst (λ (g : Folded). Contains (after directed S e).vertices g.into) (same_end folded f is)
          (without_vertex-keeps folded.vertex S.vertices folded.into (neighbour_stands directed given S folded.vertex folded.into sound of.neighbour) of.neighbour.0));
      tags = subst (λ ts. AllZip IsTagged S.made ts) (sym same) holding.tags;
      ends = ends_after directed given are_given events S e sound holding of;
      spent = spent_after directed given are_given events S e sound holding of;
      over = λ n m t tagged from to x.
          let (from_stood, from_v) = vertices_after directed S e t.from from in
          let (to_stood, to_v) = vertices_after directed S e t.to to in
          old_over directed given are_given events S e sound holding of n m t
          (record { made_at = tagged.made_at; tag_at = subst (λ ts. slice_get ts n ≡ Some t) same tagged.tag_at; tagged = tagged.tagged }) from_stood to_stood from_v to_v x;
      over_stands = over_stands_after directed given are_given events S e sound holding of (λ passed is. absurd (end_pass folded passed is))
          (λ passed is. absurd (end_pass folded passed is));
    }
  where
    end_pass : (f : Folded) (p : Bypassed) → End f ≡ Pass p → ⊥
    end_pass f p is = cc

-- and after a linear vertex
passed_holding : (directed : Bool) (given : List (LinkOf ℤ)) → AreGiven given → (events : List Event) (S : State) (passed : Bypassed) → IsSound directed given S
    → IsHolding directed given events S
    → IsEventOf S.links (Pass passed) → IsHolding directed given (events ++ Pass passed ∷ []) (after directed S (Pass passed))
passed_holding directed given are_given events S passed sound holding of =
    let e = Pass passed in
    let new = shortcuts_between directed passed.low passed.high passed.there passed.back (left_of S passed.vertex) in
    record {
      standing = standing_after directed given are_given events S e sound holding of;
      none_stands = none_after directed given are_given events S e sound holding of;
      at = λ z x stands. (let (stood, differs) = vertices_after directed S e z stands in passed_at directed given are_given events S passed sound holding of z x stood differs);
      ended = ended_after directed given are_given events S e sound holding of;
      tag_ends = tag_ends_after directed given are_given events S e sound holding of
          (λ p is. subst (λ (q : Bypassed). Contains (ends_of given) q.low × Contains (ends_of given) q.high) (same_pass passed p is) (low_end, high_end));
      one_span = one_span_after directed given are_given events S e sound holding of;
      at_stands = at_stands_after directed given are_given events S e sound holding of (λ f is. absurd (pass_end passed f is));
      tags = subst (λ ts. AllZip IsTagged (S.made ++ new) ts) (sym (tags-push directed events e))
          (AllZip-append IsTagged S.made new (tags_of directed events) (tags_at directed e) holding.tags (pass_tagged directed passed (left_of S passed.vertex)));
      ends = ends_after directed given are_given events S e sound holding of;
      spent = spent_after directed given are_given events S e sound holding of;
      over = λ n m t tagged from to x.
          over_by n m t tagged (vertices_after directed S e t.from from) (vertices_after directed S e t.to to) x (get_either S.made new n m tagged.made_at)
          (get_either (tags_of directed events) (tags_at directed e) n t (subst (λ ts. slice_get ts n ≡ Some t) (tags-push directed events e) tagged.tag_at));
      over_stands = over_stands_after directed given are_given events S e sound holding of
          (λ p is. first_tag directed passed passed.there passed.back refl refl of.some
          (λ undirected. same_both_ways S.links passed.low passed.vertex passed.high passed.there passed.back (sound.opposites undirected) of.there_is of.back_is))
          (λ p is. subst (λ (q : Bypassed). Contains (after directed S e).vertices q.low × Contains (after directed S e).vertices q.high) (same_pass passed p is)
          (low_stands, high_stands));
    }
  where
    low_stands : Contains (after directed S (Pass passed)).vertices passed.low
    low_stands = without_vertex-keeps passed.vertex S.vertices passed.low (neighbour_stands directed given S passed.vertex passed.low sound of.two.first) of.two.first.0

    high_stands : Contains (after directed S (Pass passed)).vertices passed.high
    high_stands = without_vertex-keeps passed.vertex S.vertices passed.high (neighbour_stands directed given S passed.vertex passed.high sound of.two.second) of.two.second.0

    low_end : Contains (ends_of given) passed.low
    low_end = sound.vertices passed.low (neighbour_stands directed given S passed.vertex passed.low sound of.two.first)

    high_end : Contains (ends_of given) passed.high
    high_end = sound.vertices passed.high (neighbour_stands directed given S passed.vertex passed.high sound of.two.second)

    lengths : length S.made ≡ length (tags_of directed events)
    lengths = zip_length IsTagged S.made (tags_of directed events) holding.tags

    over_by : (n : ℕ) (m : Made) (t : Tag)
        → HasTag (S.made ++ shortcuts_between directed passed.low passed.high passed.there passed.back (left_of S passed.vertex)) (tags_of directed (events ++ Pass passed ∷ []))
        n m t
        → Contains S.vertices t.from × (t.from ≢ passed.vertex) → Contains S.vertices t.to × (t.to ≢ passed.vertex) → (x : ℤ)
        → (slice_get S.made n ≡ Some m)
        ⊎ ((k : ℕ) × ((n ≡ length S.made + k) × (slice_get (shortcuts_between directed passed.low passed.high passed.there passed.back (left_of S passed.vertex)) k ≡ Some m)))
        → (slice_get (tags_of directed events) n ≡ Some t) ⊎ ((k : ℕ) × ((n ≡ length (tags_of directed events) + k) × (slice_get (tags_at directed (Pass passed)) k ≡ Some t)))
        → Contains m.inside x ↔ (rest_of (events ++ Pass passed ∷ []) x ≡ Some (Over t.span))
    over_by n m t tagged (from, from_v) (to, to_v) x (inl made) (inl has) =
        old_over directed given are_given events S (Pass passed) sound holding of n m t (record { made_at = made; tag_at = has; tagged = tagged.tagged }) from to from_v to_v x
    over_by n m t tagged (from, from_v) (to, to_v) x (inl made) (inr (k, (same, has))) = absurd (omega (arith, slice_get_within S.made n m made, lengths, same))
    over_by n m t tagged (from, from_v) (to, to_v) x (inr (k, (same, made))) (inl has) =
        absurd (omega (arith, slice_get_within (tags_of directed events) n t has, lengths, same))
    over_by n m t tagged (from, from_v) (to, to_v) x (inr (k, (same, made))) (inr (j, (also, has))) =
        let (p, (is_p, (span_is, either))) = new_tag directed (Pass passed) j t has in
        let span : t.span ≡ span_of passed = span_is ∙ ap span_of (sym (same_pass passed p is_p)) in
        let inside : m.inside ≡ left_of S passed.vertex = inside_new directed passed.low passed.high passed.there passed.back (left_of S passed.vertex) k m made in
        let both = new_over directed given are_given events S passed sound holding of t.span span x in
        ((λ h. both.0 (subst (λ l. Contains l x) inside h)), (λ rest. subst (λ l. Contains l x) (sym inside) (both.1 rest)))

-- after each event
pub holding_after : (directed : Bool) (given : List (LinkOf ℤ)) → AreGiven given → (events : List Event) (S : State) (event : Event) → IsSound directed given S
    → IsHolding directed given events S
    → IsEventOf S.links event → IsHolding directed given (events ++ event ∷ []) (after directed S event)
holding_after directed given are_given events S (End folded) sound holding of = folded_holding directed given are_given events S folded sound holding of
holding_after directed given are_given events S (Pass passed) sound holding of = passed_holding directed given are_given events S passed sound holding of

-- at first
pub first_holding : (directed : Bool) (given : List (LinkOf ℤ)) → IsHolding directed given [] (first_state given)
first_holding directed given = record {
  standing = λ x h. refl;
  none_stands = λ x h e. h;
  at = λ z x stands. ((λ h. absurd (Contains-none x h)), (λ e. absurd (none-some (At z) e)));
  ended = λ x h e. absurd (none-some h e);
  tag_ends = λ n t e. absurd (let f = e in cc);
  one_span = λ n k t s e. absurd (let f = e in cc);
  at_stands = λ x z e. absurd (none-some (At z) e);
  tags = tt;
  ends = λ n t e. absurd (let f = e in cc);
  spent = λ n t e. absurd (let f = e in cc);
  over = λ n m t tagged. absurd (let f = tagged.made_at in cc);
  over_stands = λ x span e. absurd (none-some (Over span) e);
}

-- after a log
pub log_holding : (directed : Bool) (given : List (LinkOf ℤ)) → AreGiven given → (done more : List Event) (S : State) → IsSound directed given S → IsHolding directed given done S
    → IsLogFrom directed S more → IsHolding directed given (done ++ more) (fold (after directed) S more)
log_holding directed given are_given done [] S sound holding log = subst (λ es. IsHolding directed given es S) (sym (append-nil done)) holding
log_holding directed given are_given done (event ∷ more) S sound holding log =
    subst (λ es. IsHolding directed given es (fold (after directed) (after directed S event) more)) (append_assoc done (event ∷ []) more)
    (log_holding directed given are_given (done ++ event ∷ []) more (after directed S event) (after_sound directed given S event sound log.0)
    (holding_after directed given are_given done S event sound holding log.0) log.1)
