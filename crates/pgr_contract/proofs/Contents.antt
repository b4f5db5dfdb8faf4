-- What vertices and shortcuts hold is where things rest.
use Rattle.std.proofs.Common.{◌≡◌, ◌⊎◌, inl, inr, ℕ, zero, suc, ◌+◌, ℤ, negsuc, Bool, true, false, List, [], ◌∷◌, ◌++◌, Some, None, refl, sym, subst, ◌∙◌, ap, arith}
use Rattle.std.specs.Prelude.{◌↔◌}
use Rattle.std.specs.List.{Contains, flat_map, filter, slice_get, AllZip}
use Rattle.std.specs.Ordering.{int_eq}
use Rattle.std.proofs.lemmas.List.Elements.{Contains-append_left, Contains-append_right, Contains-append_cases}
use Rattle.std.proofs.lemmas.Bool.{or_cases, or_left, or_right}
use Rattle.pgr_outside.proofs.Lists.{Contains-here, Contains-later, Contains-cons_cases, Contains-none, Contains-filter, Contains-from_filter, Contains-flat_map, Contains-from_flat_map}
use Rattle.pgr_walks.specs.declared.link.LinkOf.{LinkOf}
use Rattle.pgr_walks.specs.Reaches.{turned}
use Rattle.pgr_contract.specs.declared.event.Event.{Event}
use Rattle.pgr_contract.specs.declared.held.Span.{Span}
use Rattle.pgr_contract.specs.declared.held.Holder.{Holder}
use Rattle.pgr_contract.specs.declared.held.Holder.TheVariants.{At, Over}
use Rattle.pgr_contract.specs.Given.{AreGiven}
use Rattle.pgr_contract.specs.State.{Made, State, ends_of, touches, left_of, inside_of, inside_of_edge, link_of_made}
use Rattle.pgr_contract.specs.Held.{goes_with, rest_of, Tag, tags_of}
use Rattle.pgr_contract.proofs.Ids.{int_eq-true, eq-int_eq, touches-true, touched_from, touched_to}
use Rattle.pgr_contract.proofs.MadeLinks.{IsMade}
use Rattle.pgr_contract.proofs.Sound.{IsSound}

-- a shortcut and its tag
pub record IsTagged (m : Made) (t : Tag) : Type 0 where
  pub from : m.from ≡ t.from
  pub to : m.to ≡ t.to
  pub cost : m.cost ≡ t.cost

-- the ends of a tag are those of its span
abbrev pub HasEnds : Tag → Type 0
HasEnds t = ((t.from ≡ t.span.low) × (t.to ≡ t.span.high)) ⊎ ((t.from ≡ t.span.high) × (t.to ≡ t.span.low))

-- the n-th shortcut and its tag
pub record HasTag (made : List Made) (tags : List Tag) (n : ℕ) (m : Made) (t : Tag) : Type 0 where
  pub made_at : slice_get made n ≡ Some m
  pub tag_at : slice_get tags n ≡ Some t
  pub tagged : IsTagged m t

-- what a state holds is where things rest after the events
pub record IsHolding (directed : Bool) (given : List (LinkOf ℤ)) (events : List Event) (S : State) : Type 0 where
  pub standing : (x : ℤ) → Contains S.vertices x → rest_of events x ≡ None
  pub none_stands : (x : ℤ) → Contains (ends_of given) x → rest_of events x ≡ None → Contains S.vertices x
  pub at : (z x : ℤ) → Contains S.vertices z → Contains (S.inside z) x ↔ (rest_of events x ≡ Some (At z))
  pub ended : (x : ℤ) (h : Holder) → rest_of events x ≡ Some h → Contains (ends_of given) x
  pub tag_ends : (n : ℕ) (t : Tag) → slice_get (tags_of directed events) n ≡ Some t → Contains (ends_of given) t.from × Contains (ends_of given) t.to
  pub one_span : (n k : ℕ) (t s : Tag) → slice_get (tags_of directed events) n ≡ Some t → slice_get (tags_of directed events) k ≡ Some s → t.span.vertex ≡ s.span.vertex
      → t.span ≡ s.span
  pub at_stands : (x z : ℤ) → rest_of events x ≡ Some (At z) → Contains S.vertices z
  pub tags : AllZip IsTagged S.made (tags_of directed events)
  pub ends : (n : ℕ) (t : Tag) → slice_get (tags_of directed events) n ≡ Some t → HasEnds t
  pub spent : (n : ℕ) (t : Tag) → slice_get (tags_of directed events) n ≡ Some t → Contains S.vertices t.span.vertex → ⊥
  pub over : (n : ℕ) (m : Made) (t : Tag) → HasTag S.made (tags_of directed events) n m t → Contains S.vertices t.from → Contains S.vertices t.to
      → (x : ℤ) → Contains m.inside x ↔ (rest_of events x ≡ Some (Over t.span))
  pub over_stands : (x : ℤ) (span : Span) → rest_of events x ≡ Some (Over span)
      → (n : ℕ) × ((t : Tag) × ((slice_get (tags_of directed events) n ≡ Some t) × ((t.span ≡ span) × (Contains S.vertices t.from × Contains S.vertices t.to))))

-- the tag of a shortcut, and the shortcut of a tag
pub tag_of : (made : List Made) (tags : List Tag) → AllZip IsTagged made tags → (n : ℕ) (m : Made) → slice_get made n ≡ Some m → (t : Tag) × HasTag made tags n m t
tag_of [] tags zip n m e = absurd (let f = e in cc)
tag_of (x ∷ made) [] zip n m e = absurd zip
tag_of (x ∷ made) (t ∷ tags) zip zero m e = (t, record { made_at = e; tag_at = refl; tagged = (let is : x ≡ m = cc in subst (λ y. IsTagged y t) is zip.0) })
tag_of (x ∷ made) (t ∷ tags) zip (suc n) m e = let (s, has) = tag_of made tags zip.1 n m e in (s, record { made_at = has.made_at; tag_at = has.tag_at; tagged = has.tagged })

pub made_of : (made : List Made) (tags : List Tag) → AllZip IsTagged made tags → (n : ℕ) (t : Tag) → slice_get tags n ≡ Some t → (m : Made) × HasTag made tags n m t
made_of [] [] zip n t e = absurd (let f = e in cc)
made_of [] (s ∷ tags) zip n t e = absurd zip
made_of (x ∷ made) [] zip n t e = absurd zip
made_of (x ∷ made) (s ∷ tags) zip zero t e = (x, record { made_at = refl; tag_at = e; tagged = (let is : s ≡ t = cc in subst (λ y. IsTagged x y) is zip.0) })
made_of (x ∷ made) (s ∷ tags) zip (suc n) t e = let (m, has) = made_of made tags zip.1 n t e in (m, record { made_at = has.made_at; tag_at = has.tag_at; tagged = has.tagged })

-- what x is, or where it rests, where things go with v
abbrev pub IsLeft : List Event → ℤ → ℤ → Type 0
IsLeft events v x = (x ≡ v) ⊎ ((h : Holder) × ((rest_of events x ≡ Some h) × (goes_with h v ≡ true)))

-- a shortcut that ends at v goes with it
span_goes : (t : Tag) (v : ℤ) → HasEnds t → (t.from ≡ v) ⊎ (t.to ≡ v) → goes_with (Over t.span) v ≡ true
span_goes t v (inl ends) (inl is) = or_left (int_eq t.span.low v) (int_eq t.span.high v) (eq-int_eq t.span.low v (sym ends.0 ∙ is))
span_goes t v (inl ends) (inr is) = or_right (int_eq t.span.low v) (int_eq t.span.high v) (eq-int_eq t.span.high v (sym ends.1 ∙ is))
span_goes t v (inr ends) (inl is) = or_right (int_eq t.span.low v) (int_eq t.span.high v) (eq-int_eq t.span.high v (sym ends.0 ∙ is))
span_goes t v (inr ends) (inr is) = or_left (int_eq t.span.low v) (int_eq t.span.high v) (eq-int_eq t.span.low v (sym ends.1 ∙ is))

goes_span : (t : Tag) (v : ℤ) → HasEnds t → goes_with (Over t.span) v ≡ true → (t.from ≡ v) ⊎ (t.to ≡ v)
goes_span t v ends e = by ends (or_cases (int_eq t.span.low v) (int_eq t.span.high v) e) where
  by : HasEnds t → (int_eq t.span.low v ≡ true) ⊎ (int_eq t.span.high v ≡ true) → (t.from ≡ v) ⊎ (t.to ≡ v)
  by (inl is) (inl low) = inl (is.0 ∙ int_eq-true t.span.low v low)
  by (inl is) (inr high) = inr (is.1 ∙ int_eq-true t.span.high v high)
  by (inr is) (inl low) = inr (is.1 ∙ int_eq-true t.span.low v low)
  by (inr is) (inr high) = inl (is.0 ∙ int_eq-true t.span.high v high)

module _ (directed : Bool) (given : List (LinkOf ℤ)) (are_given : AreGiven given) (events : List Event) (S : State) (sound : IsSound directed given S)
    (holding : IsHolding directed given events S)
    (v : ℤ) (stands : Contains S.vertices v) where
  -- what a link of v holds rests at a shortcut that ends there
  of_link : (link : LinkOf ℤ) (x : ℤ) → Contains S.links link → (link.from ≡ v) ⊎ (link.to ≡ v) → Contains (inside_of_edge S.made link.edge) x
      → Contains given link ⊎ IsMade directed 0 S.made link → IsLeft events v x
  of_link link x has at among (inl is_given) =
      let (n, is) = are_given link is_given in
      absurd (Contains-none x (subst (λ e. Contains (inside_of_edge S.made e) x) is among))
  of_link link x has at among (inr made) =
      let (t, tagged) = tag_of S.made (tags_of directed events) holding.tags made.place made.shown made.at in
      let place : 0 + made.place ≡ made.place = omega arith in
      let edge : link.edge ≡ negsuc made.place = elim made.either as (λ _. link.edge ≡ negsuc made.place) [
        | inl same ↦ ap (λ (l : LinkOf ℤ). l.edge) same ∙ ap negsuc place
        | inr both ↦ ap (λ (l : LinkOf ℤ). l.edge) both.1 ∙ ap negsuc place
      ] in
      let inside : Contains made.shown.inside x
      = subst (λ o. Contains (inside_of o) x) made.at (subst (λ e. Contains (inside_of_edge S.made e) x) edge among) in
      ends t tagged inside made.either
    where
      ends : (t : Tag) → HasTag S.made (tags_of directed events) made.place made.shown t → Contains made.shown.inside x
          → (link ≡ link_of_made (0 + made.place) made.shown) ⊎ ((directed ≡ false) × (link ≡ turned (link_of_made (0 + made.place) made.shown))) → IsLeft events v x
      ends t tagged inside (inl same) =
          let from : link.from ≡ t.from = ap (λ (l : LinkOf ℤ). l.from) same ∙ tagged.tagged.from in
          let to : link.to ≡ t.to = ap (λ (l : LinkOf ℤ). l.to) same ∙ tagged.tagged.to in
          let from_stands = subst (Contains S.vertices) from (sound.ends link has).0 in
          let to_stands = subst (Contains S.vertices) to (sound.ends link has).1 in
          inr (
            Over t.span,
            (
              (holding.over made.place made.shown t tagged from_stands to_stands x).0 inside,
              span_goes t v (holding.ends made.place t tagged.tag_at) (elim at as (λ _. (t.from ≡ v) ⊎ (t.to ≡ v)) [ inl a ↦ inl (sym from ∙ a) | inr b ↦ inr (sym to ∙ b) ]),
            ),
          )
      ends t tagged inside (inr both) =
          let from : link.from ≡ t.to = ap (λ (l : LinkOf ℤ). l.from) both.1 ∙ tagged.tagged.to in
          let to : link.to ≡ t.from = ap (λ (l : LinkOf ℤ). l.to) both.1 ∙ tagged.tagged.from in
          let to_stands = subst (Contains S.vertices) from (sound.ends link has).0 in
          let from_stands = subst (Contains S.vertices) to (sound.ends link has).1 in
          inr (
            Over t.span,
            (
              (holding.over made.place made.shown t tagged from_stands to_stands x).0 inside,
              span_goes t v (holding.ends made.place t tagged.tag_at) (elim at as (λ _. (t.from ≡ v) ⊎ (t.to ≡ v)) [ inl a ↦ inr (sym from ∙ a) | inr b ↦ inl (sym to ∙ b) ]),
            ),
          )

  of_links : (x : ℤ) → Contains (flat_map (λ link. inside_of_edge S.made link.edge) (filter (touches v) S.links)) x → IsLeft events v x
  of_links x h =
      let (link, kept, among) = Contains-from_flat_map (λ (l : LinkOf ℤ). inside_of_edge S.made l.edge) (filter (touches v) S.links) x h in
      let (has, touched) = Contains-from_filter (touches v) S.links link kept in
      of_link link x has (touches-true v link touched) among (sound.links_are link has)

  -- what is left of v is v and what goes with it
  pub left_goes : (x : ℤ) → Contains (left_of S v) x → IsLeft events v x
  left_goes x h = by (Contains-cons_cases v (S.inside v ++ flat_map (λ link. inside_of_edge S.made link.edge) (filter (touches v) S.links)) x h) where
    on : Contains (S.inside v) x ⊎ Contains (flat_map (λ link. inside_of_edge S.made link.edge) (filter (touches v) S.links)) x → IsLeft events v x
    on (inl inside) = inr (At v, ((holding.at v x stands).0 inside, eq-int_eq v v refl))
    on (inr links) = of_links x links

    by : (v ≡ x) ⊎ Contains (S.inside v ++ flat_map (λ link. inside_of_edge S.made link.edge) (filter (touches v) S.links)) x → IsLeft events v x
    by (inl same) = inl (sym same)
    by (inr rest) = on (Contains-append_cases (S.inside v) (flat_map (λ link. inside_of_edge S.made link.edge) (filter (touches v) S.links)) x rest)

  -- what rests at a shortcut that ends at v is in what a link of v holds
  at_span : (x : ℤ) (span : Span) → rest_of events x ≡ Some (Over span) → goes_with (Over span) v ≡ true
      → Contains (flat_map (λ link. inside_of_edge S.made link.edge) (filter (touches v) S.links)) x
  at_span x span rest goes =
      let (n, (t, (at, (is, (from_stands, to_stands))))) = holding.over_stands x span rest in
      let (m, tagged) = made_of S.made (tags_of directed events) holding.tags n t at in
      let link = link_of_made n m in
      let has : Contains S.links link = sound.made_stand n m tagged.made_at (subst (Contains S.vertices) (sym tagged.tagged.from) from_stands)
      (subst (Contains S.vertices) (sym tagged.tagged.to) to_stands) in
      let touched : touches v link ≡ true
      = elim (goes_span t v (holding.ends n t at) (subst (λ s. goes_with (Over s) v ≡ true) (sym is) goes)) as (λ _. touches v link ≡ true) [
        | inl a ↦ touched_from v link (tagged.tagged.from ∙ a)
        | inr b ↦ touched_to v link (tagged.tagged.to ∙ b)
      ] in
      let inside : Contains m.inside x = (holding.over n m t tagged from_stands to_stands x).1 (subst (λ s. rest_of events x ≡ Some (Over s)) (sym is) rest) in
      Contains-flat_map (λ (l : LinkOf ℤ). inside_of_edge S.made l.edge) (filter (touches v) S.links) link x (Contains-filter (touches v) S.links link has touched)
      (subst (λ o. Contains (inside_of o) x) (sym tagged.made_at) inside)

  pub goes_left : (x : ℤ) → IsLeft events v x → Contains (left_of S v) x
  goes_left x (inl same) =
      subst (Contains (left_of S v)) (sym same) (Contains-here v (S.inside v ++ flat_map (λ link. inside_of_edge S.made link.edge) (filter (touches v) S.links)))
  goes_left x (inr (h, (rest, goes))) = Contains-later v (S.inside v ++ flat_map (λ link. inside_of_edge S.made link.edge) (filter (touches v) S.links)) x (by h rest goes) where
    by : (g : Holder) → rest_of events x ≡ Some g → goes_with g v ≡ true
        → Contains (S.inside v ++ flat_map (λ link. inside_of_edge S.made link.edge) (filter (touches v) S.links)) x
    by (At z) rests goes_too =
        let is : z ≡ v = int_eq-true z v goes_too in
        Contains-append_left (S.inside v) (flat_map (λ link. inside_of_edge S.made link.edge) (filter (touches v) S.links)) x
        ((holding.at v x stands).1 (subst (λ y. rest_of events x ≡ Some (At y)) is rests))
    by (Over span) rests goes_too =
        Contains-append_right (S.inside v) (flat_map (λ link. inside_of_edge S.made link.edge) (filter (touches v) S.links)) x (at_span x span rests goes_too)
