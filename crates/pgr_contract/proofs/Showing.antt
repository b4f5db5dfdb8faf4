-- What is left, as it is listed, shows the end of a run.
use Rattle.std.proofs.Common.{◌≡◌, ◌⊎◌, inl, inr, ℕ, suc, ◌+◌, ℤ, pos, negsuc, Bool, true, false, ◌&&◌, ◌||◌, cond, List, [], ◌∷◌, ◌++◌, map, Option, Some, None, Less, refl, sym, subst, ◌∙◌, ap, arith}
use Rattle.std.specs.Prelude.{◌↔◌, is_none}
use Rattle.std.specs.List.{Contains, filter, flat_map, slice_get, AllZip}
use Rattle.std.specs.List.Sorted.{IsStrictlySortedBy}
use Rattle.std.specs.Option.{option_map}
use Rattle.std.specs.Ordering.{int_cmp, int_eq}
use Rattle.std.specs.BTreeMap.{BTreeMap, get}
use Rattle.std.proofs.lemmas.List.Elements.{Contains-append_left, Contains-append_right, Contains-append_cases, recursion_from_All}
use Rattle.std.proofs.lemmas.List.Kept.{IsStrictlySortedBy-filter}
use Rattle.std.proofs.lemmas.Map.Keys.{Less-from_sorted}
use Rattle.std.proofs.lemmas.Bool.{true≢false, and_parts, and_from}
use Rattle.pgr_outside.proofs.Lists.{Contains-here, Contains-later, Contains-cons_cases, Contains-none, Contains-filter, Contains-from_filter, Contains-flat_map, Contains-from_flat_map, Contains-from_map}
use Rattle.pgr_walks.specs.declared.link.LinkOf.{LinkOf}
use Rattle.pgr_walks.specs.Graph.{IsStrictlyRising}
use Rattle.pgr_walks.specs.Link.{link_cmp}
use Rattle.pgr_walks.specs.Reaches.{turned}
use Rattle.pgr_walks.specs.Walk.{IsVertex}
use Rattle.pgr_numbers.specs.Names.{AreEnds}
use Rattle.pgr_contract.specs.declared.contracted.Kept.{Kept}
use Rattle.pgr_contract.specs.declared.contracted.Shortcut.{Shortcut}
use Rattle.pgr_contract.specs.declared.event.Event.{Event}
use Rattle.pgr_contract.specs.declared.held.Span.{Span}
use Rattle.pgr_contract.specs.declared.held.Holder.{Holder}
use Rattle.pgr_contract.specs.declared.held.Holder.TheVariants.{At, Over}
use Rattle.pgr_contract.specs.declared.held.Gone.{Gone}
use Rattle.pgr_contract.specs.Given.{AreGiven, HaveOpposites}
use Rattle.pgr_contract.specs.State.{Made, State, ends_of, first_state}
use Rattle.pgr_contract.specs.Held.{Tag, tags_of, rest_of, gone_from, holds_at, holds_over, rests}
use Rattle.pgr_contract.specs.Lists.{list_at, resting, stays, tag_stays, kept_with, shown_from, links_shown, link_stays}
use Rattle.pgr_contract.specs.Shown.{Lists, nodes_of, has_id, surviving, ShowEach, link_of_shortcut, StandsFor, IsShortcutLink, IsShown}
use Rattle.pgr_contract.proofs.Ids.{int_eq-true, eq-int_eq}
use Rattle.pgr_contract.proofs.Sound.{IsSound, first_sound, end_from, end_to}
use Rattle.pgr_contract.specs.Events.{state_of}
use Rattle.pgr_contract.specs.Running.{IsLogFrom}
use Rattle.pgr_contract.proofs.EventSteps.{log_sound}
use Rattle.pgr_contract.proofs.Resting.{rest_is}
use Rattle.pgr_contract.proofs.Contents.{IsTagged, HasTag, IsHolding}
use Rattle.pgr_contract.proofs.Holding.{first_holding, log_holding}

-- a list that rises still does after a filter
rising_sorted : (xs : List ℤ) → IsStrictlyRising int_cmp xs → IsStrictlySortedBy int_cmp xs
unfolding IsStrictlySortedBy
rising_sorted [] rise = tt
rising_sorted (x ∷ xs) rise = (
  recursion_from_All (λ y. int_cmp x y ≡ Less) xs (λ k d below. rise 0 (suc k) d (omega arith) (omega arith)),
  rising_sorted xs (λ i j d less below. rise (suc i) (suc j) d (omega arith) (omega arith)),
)

pub rising-filter : (p : ℤ → Bool) (xs : List ℤ) → IsStrictlyRising int_cmp xs → IsStrictlyRising int_cmp (filter p xs)
rising-filter p xs rise i j d less below = Less-from_sorted int_cmp (filter p xs) i j d (IsStrictlySortedBy-filter int_cmp p xs (rising_sorted xs rise)) less below

-- the id is in the list where the test says
pub has_id-true : (ids : List ℤ) (x : ℤ) → has_id ids x ≡ true → Contains ids x
has_id-true [] x e = absurd (true≢false (sym e))
has_id-true (y ∷ ys) x e = by (int_eq x y) refl e (λ rest. has_id-true ys x rest) where
  by : (b : Bool) → int_eq x y ≡ b → (b || has_id ys x) ≡ true → (has_id ys x ≡ true → Contains ys x) → Contains (y ∷ ys) x
  by true is f on = subst (λ z. Contains (y ∷ ys) z) (sym (int_eq-true x y is)) (Contains-here y ys)
  by false is f on = Contains-later y ys x (on f)

pub true-has_id : (ids : List ℤ) (x : ℤ) → Contains ids x → has_id ids x ≡ true
true-has_id [] x h = absurd (Contains-none x h)
true-has_id (y ∷ ys) x h = by (Contains-cons_cases y ys x h) (λ rest. true-has_id ys x rest) where
  second : (a : Bool) → (a || true) ≡ true
  second true = refl
  second false = refl

  by : (y ≡ x) ⊎ Contains ys x → (Contains ys x → has_id ys x ≡ true) → (int_eq x y || has_id ys x) ≡ true
  by (inl same) on = ap (λ a. a || has_id ys x) (eq-int_eq x y (sym same))
  by (inr rest) on = ap (λ b. int_eq x y || b) (on rest) ∙ second (int_eq x y)

-- two tests that say the same are the same
same_test : (a b : Bool) → (a ≡ true → b ≡ true) → (b ≡ true → a ≡ true) → a ≡ b
same_test true true there back = refl
same_test true false there back = sym (there refl)
same_test false true there back = back refl
same_test false false there back = refl

none_is : {X : Type 0} (o : Option X) → is_none o ≡ true → o ≡ None
none_is None e = refl
none_is (Some x) e = absurd (true≢false (sym e))

-- zipped with more
zip_with : (Q : Made → Tag → Type 0) (made : List Made) (tags : List Tag) → AllZip IsTagged made tags → ((n : ℕ) (m : Made) (t : Tag) → HasTag made tags n m t → Q m t)
    → AllZip (λ m t. IsTagged m t × Q m t) made tags
zip_with Q [] [] zip each = tt
zip_with Q [] (t ∷ tags) zip each = absurd zip
zip_with Q (m ∷ made) [] zip each = absurd zip
zip_with Q (m ∷ made) (t ∷ tags) zip each = (
  (zip.0, each 0 m t (record { made_at = refl; tag_at = refl; tagged = zip.0 })),
  zip_with Q made tags zip.1 (λ n x s has. each (suc n) x s (record { made_at = has.made_at; tag_at = has.tag_at; tagged = has.tagged })),
)

-- a shortcut and its tag are left together, and the list at the tag shows what the shortcut holds
record Fit (vertices : List ℤ) (gone : BTreeMap ℤ Gone) (over : BTreeMap ℤ (List ℤ)) (m : Made) (t : Tag) : Type 0 where
  test : (has_id vertices m.from && has_id vertices m.to) ≡ tag_stays gone t
  lists : tag_stays gone t ≡ true → Lists m.inside (list_at over t.span.vertex)

-- so the shortcuts that are left are shown one by one
show_each : (vertices : List ℤ) (gone : BTreeMap ℤ Gone) (over : BTreeMap ℤ (List ℤ)) (made : List Made) (tags : List Tag) (n : ℕ)
    → AllZip (λ m t. IsTagged m t × Fit vertices gone over m t) made tags
    → ShowEach n (shown_from over n (filter (tag_stays gone) tags)) (filter (λ m. has_id vertices m.from && has_id vertices m.to) made)
show_each vertices gone over [] [] n zip = tt
show_each vertices gone over [] (t ∷ tags) n zip = absurd zip
show_each vertices gone over (m ∷ made) [] n zip = absurd zip
show_each vertices gone over (m ∷ made) (t ∷ tags) n zip =
    by (tag_stays gone t) (has_id vertices m.from && has_id vertices m.to) zip.0.1.test zip.0.1.lists (show_each vertices gone over made tags n zip.1)
    (show_each vertices gone over made tags (suc n) zip.1)
  where
    by : (x y : Bool) → y ≡ x → (x ≡ true → Lists m.inside (list_at over t.span.vertex))
        → ShowEach n (shown_from over n (filter (tag_stays gone) tags)) (filter (λ z. has_id vertices z.from && has_id vertices z.to) made)
        → ShowEach (suc n) (shown_from over (suc n) (filter (tag_stays gone) tags)) (filter (λ z. has_id vertices z.from && has_id vertices z.to) made)
        → ShowEach n (shown_from over n (cond x (t ∷ filter (tag_stays gone) tags) (filter (tag_stays gone) tags)))
        (cond y (m ∷ filter (λ z. has_id vertices z.from && has_id vertices z.to) made) (filter (λ z. has_id vertices z.from && has_id vertices z.to) made))
    by true true same lists here next = (
      record { id = refl; from = sym zip.0.0.from; to = sym zip.0.0.to; cost = sym zip.0.0.cost; inside = lists refl },
      next,
    )
    by false false same lists here next = here
    by true false same lists here next = absurd (true≢false (sym same))
    by false true same lists here next = absurd (true≢false same)

no_pos : (n m : ℕ) → pos n ≡ negsuc m → ⊥
no_pos n m e = cc

-- what a shortcut stands for, and the links that are listed of it
stands_for : (directed : Bool) (shown : Shortcut) (link : LinkOf ℤ) → Contains (links_shown directed shown) link → StandsFor directed shown link
stands_for true shown link h = elim (Contains-cons_cases (link_of_shortcut shown) [] link h) as (λ _. link ≡ link_of_shortcut shown) [
  | inl same ↦ sym same
  | inr none ↦ absurd (Contains-none link none)
]
stands_for false shown link h =
    elim (Contains-cons_cases (link_of_shortcut shown) (turned (link_of_shortcut shown) ∷ []) link h)
    as (λ _. (link ≡ link_of_shortcut shown) ⊎ (link ≡ turned (link_of_shortcut shown))) [
      | inl same ↦ inl (sym same)
      | inr rest ↦ elim (Contains-cons_cases (turned (link_of_shortcut shown)) [] link rest)
          as (λ _. (link ≡ link_of_shortcut shown) ⊎ (link ≡ turned (link_of_shortcut shown))) [ inl same ↦ inr (sym same) | inr none ↦ absurd (Contains-none link none) ]
    ]

for_stands : (directed : Bool) (shown : Shortcut) (link : LinkOf ℤ) → StandsFor directed shown link → Contains (links_shown directed shown) link
for_stands true shown link same = subst (Contains (link_of_shortcut shown ∷ [])) (sym same) (Contains-here (link_of_shortcut shown) [])
for_stands false shown link (inl same) =
    subst (Contains (link_of_shortcut shown ∷ turned (link_of_shortcut shown) ∷ [])) (sym same) (Contains-here (link_of_shortcut shown) (turned (link_of_shortcut shown) ∷ []))
for_stands false shown link (inr same) =
    subst (Contains (link_of_shortcut shown ∷ turned (link_of_shortcut shown) ∷ [])) (sym same)
    (Contains-later (link_of_shortcut shown) (turned (link_of_shortcut shown) ∷ []) (turned (link_of_shortcut shown)) (Contains-here (turned (link_of_shortcut shown)) []))

module _ (directed : Bool) (given : List (LinkOf ℤ)) (are_given : AreGiven given) (events : List Event) (S : State) (sound : IsSound directed given S)
    (holding : IsHolding directed given events S) (names : List ℤ) (ends : AreEnds given names) (gone : BTreeMap ℤ Gone)
    (known : (x : ℤ) → rest_of events x ≡ option_map (λ (g : Gone). g.holder) (get int_cmp gone x)) where
  -- what went has a place in the map, and what didn't has none
  gone_none : (x : ℤ) → stays gone x ≡ true → rest_of events x ≡ None
  gone_none x e = known x ∙ ap (option_map (λ (g : Gone). g.holder)) (none_is (get int_cmp gone x) e)

  none_gone : (x : ℤ) → rest_of events x ≡ None → stays gone x ≡ true
  none_gone x e = by (get int_cmp gone x) refl where
    by : (o : Option Gone) → get int_cmp gone x ≡ o → stays gone x ≡ true
    by None f = ap is_none f
    by (Some g) f = absurd (let h : None ≡ Some g.holder = sym e ∙ (known x ∙ ap (option_map (λ (y : Gone). y.holder)) f) in cc)

  name_end : (x : ℤ) → Contains (ends_of given) x → Contains names x
  name_end x h = (ends.ends x).1 (vertex_end x (Contains-from_flat_map (λ (l : LinkOf ℤ). l.from ∷ l.to ∷ []) given x h)) where
    vertex_end : (y : ℤ) → (l : LinkOf ℤ) × Contains given l × Contains (l.from ∷ l.to ∷ []) y → IsVertex (Contains given) y
    vertex_end y (l, has, among) = (
      l,
      has,
      elim (Contains-cons_cases l.from (l.to ∷ []) y among) as (λ _. (y ≡ l.from) ⊎ (y ≡ l.to)) [
        | inl from ↦ inl (sym from)
        | inr rest ↦ elim (Contains-cons_cases l.to [] y rest) as (λ _. (y ≡ l.from) ⊎ (y ≡ l.to)) [ inl to ↦ inr (sym to) | inr none ↦ absurd (Contains-none y none) ]
      ],
    )

  end_name : (x : ℤ) → Contains names x → Contains (ends_of given) x
  end_name x h = by ((ends.ends x).0 h) where
    by : IsVertex (Contains given) x → Contains (ends_of given) x
    by (l, has, inl from) = subst (Contains (ends_of given)) (sym from) (end_from given l has)
    by (l, has, inr to) = subst (Contains (ends_of given)) (sym to) (end_to given l has)

  stays_stands : (x : ℤ) → Contains (ends_of given) x → stays gone x ≡ true → Contains S.vertices x
  stays_stands x h e = holding.none_stands x h (gone_none x e)

  stands_stays : (x : ℤ) → Contains S.vertices x → stays gone x ≡ true
  stands_stays x h = none_gone x (holding.standing x h)

  -- the vertices that are left
  pub left_are : (x : ℤ) → Contains (filter (stays gone) names) x ↔ Contains S.vertices x
  left_are x = (
    (λ h. let (is, left) = Contains-from_filter (stays gone) names x h in stays_stands x (end_name x is) left),
    (λ h. Contains-filter (stays gone) names x (name_end x (sound.vertices x h)) (stands_stays x h)),
  )

  -- those that rest where a test says
  resting_are : (test : Holder → Bool) (h : Holder) → ((x : ℤ) (k : Holder) → rest_of events x ≡ Some k → test k ≡ true → k ≡ h) → test h ≡ true → (x : ℤ)
      → Contains (resting gone test names) x ↔ (rest_of events x ≡ Some h)
  resting_are test h only is x = (there, back) where
    there : Contains (resting gone test names) x → rest_of events x ≡ Some h
    there has = by (get int_cmp gone x) refl (Contains-from_filter (λ y. rests test (get int_cmp gone y)) names x has).1 where
      by : (o : Option Gone) → get int_cmp gone x ≡ o → rests test o ≡ true → rest_of events x ≡ Some h
      by None e f = absurd (true≢false (sym f))
      by (Some g) e f =
          let rest : rest_of events x ≡ Some g.holder = known x ∙ ap (option_map (λ (y : Gone). y.holder)) e in
          rest ∙ ap (λ k. Some k) (only x g.holder rest f)

    back : rest_of events x ≡ Some h → Contains (resting gone test names) x
    back rest = by (get int_cmp gone x) refl where
      by : (o : Option Gone) → get int_cmp gone x ≡ o → Contains (resting gone test names) x
      by None e = absurd (let f : None ≡ Some h = sym (known x ∙ ap (option_map (λ (y : Gone). y.holder)) e) ∙ rest in cc)
      by (Some g) e =
          let f : Some g.holder ≡ Some h = sym (known x ∙ ap (option_map (λ (y : Gone). y.holder)) e) ∙ rest in
          let same : g.holder ≡ h = cc in
          Contains-filter (λ y. rests test (get int_cmp gone y)) names x (name_end x (holding.ended x h rest)) (ap (rests test) e ∙ (ap test same ∙ is))

  at_only : (z : ℤ) (k : Holder) → holds_at z k ≡ true → k ≡ At z
  at_only z (At y) e = ap (λ w. At w) (sym (int_eq-true z y e))
  at_only z (Over span) e = absurd (true≢false (sym e))

  -- a list shows what a vertex holds
  lists_at : (z : ℤ) → Contains S.vertices z → Lists (S.inside z) (resting gone (holds_at z) names)
  lists_at z stands = record {
    rises = rising-filter (λ x. rests (holds_at z) (get int_cmp gone x)) names ends.rise;
    members = λ x. (
      (λ h. (holding.at z x stands).1 ((resting_are (holds_at z) (At z) (λ y k r. at_only z k) (eq-int_eq z z refl) x).0 h)),
      (λ h. (resting_are (holds_at z) (At z) (λ y k r. at_only z k) (eq-int_eq z z refl) x).1 ((holding.at z x stands).0 h)),
    );
  }

  over_only : (n : ℕ) (t : Tag) → slice_get (tags_of directed events) n ≡ Some t → (x : ℤ) (k : Holder) → rest_of events x ≡ Some k → holds_over t.span.vertex k ≡ true
      → k ≡ Over t.span
  over_only n t at x (At y) rest e = absurd (true≢false (sym e))
  over_only n t at x (Over span) rest e =
      let (k, (s, (s_at, (is, stand)))) = holding.over_stands x span rest in
      let vertex : s.span.vertex ≡ t.span.vertex = ap (λ (y : Span). y.vertex) is ∙ sym (int_eq-true t.span.vertex span.vertex e) in
      ap (λ y. Over y) (sym is ∙ holding.one_span k n s t s_at at vertex)

  -- a list shows what a shortcut holds
  lists_over : (n : ℕ) (m : Made) (t : Tag) → HasTag S.made (tags_of directed events) n m t → Contains S.vertices t.from → Contains S.vertices t.to
      → Lists m.inside (resting gone (holds_over t.span.vertex) names)
  lists_over n m t tagged from to =
      let only = over_only n t tagged.tag_at in
      let is = eq-int_eq t.span.vertex t.span.vertex refl in
      record {
        rises = rising-filter (λ x. rests (holds_over t.span.vertex) (get int_cmp gone x)) names ends.rise;
        members = λ x. (
          (λ h. (holding.over n m t tagged from to x).1 ((resting_are (holds_over t.span.vertex) (Over t.span) only is x).0 h)),
          (λ h. (resting_are (holds_over t.span.vertex) (Over t.span) only is x).1 ((holding.over n m t tagged from to x).0 h)),
        );
      }

  -- whether a shortcut is left, by its tag
  tag_test : (n : ℕ) (m : Made) (t : Tag) → HasTag S.made (tags_of directed events) n m t → (has_id S.vertices m.from && has_id S.vertices m.to) ≡ tag_stays gone t
  tag_test n m t tagged = same_test (has_id S.vertices m.from && has_id S.vertices m.to) (tag_stays gone t)
      (λ e. let (a, b) = and_parts (has_id S.vertices m.from) (has_id S.vertices m.to) e in
      and_from (stays gone t.from) (stays gone t.to) (stands_stays t.from (subst (Contains S.vertices) tagged.tagged.from (has_id-true S.vertices m.from a)))
      (stands_stays t.to (subst (Contains S.vertices) tagged.tagged.to (has_id-true S.vertices m.to b))))
      (λ e. let (a, b) = and_parts (stays gone t.from) (stays gone t.to) e in
      let is_end = holding.tag_ends n t tagged.tag_at in
      and_from (has_id S.vertices m.from) (has_id S.vertices m.to)
      (true-has_id S.vertices m.from (subst (Contains S.vertices) (sym tagged.tagged.from) (stays_stands t.from is_end.0 a)))
      (true-has_id S.vertices m.to (subst (Contains S.vertices) (sym tagged.tagged.to) (stays_stands t.to is_end.1 b))))

  -- the shortcuts are shown
  shortcuts_shown : (over : BTreeMap ℤ (List ℤ)) → ((v : ℤ) → list_at over v ≡ resting gone (holds_over v) names)
      → ShowEach 0 (shown_from over 0 (filter (tag_stays gone) (tags_of directed events))) (surviving S)
  shortcuts_shown over held = show_each S.vertices gone over S.made (tags_of directed events) 0
      (zip_with (Fit S.vertices gone over) S.made (tags_of directed events) holding.tags (λ n m t tagged. record {
        test = tag_test n m t tagged;
        lists = λ e.
            let (a, b) = and_parts (stays gone t.from) (stays gone t.to) e in
            let is_end = holding.tag_ends n t tagged.tag_at in
            subst (λ l. Lists m.inside l) (sym (held t.span.vertex))
            (lists_over n m t tagged (stays_stands t.from is_end.0 a) (stays_stands t.to is_end.1 b));
      }))

  -- the vertices are shown
  nodes-kept : (at : BTreeMap ℤ (List ℤ)) (xs : List ℤ) → nodes_of (map (kept_with at) xs) ≡ xs
  nodes-kept at [] = refl
  nodes-kept at (x ∷ xs) = ap (λ ys. x ∷ ys) (nodes-kept at xs)

  nodes_shown : (at : BTreeMap ℤ (List ℤ)) → Lists S.vertices (nodes_of (map (kept_with at) (filter (stays gone) names)))
  nodes_shown at = subst (λ ys. Lists S.vertices ys) (sym (nodes-kept at (filter (stays gone) names)))
      (record { rises = rising-filter (stays gone) names ends.rise; members = left_are })

  kept_shown : (at : BTreeMap ℤ (List ℤ)) → ((z : ℤ) → list_at at z ≡ resting gone (holds_at z) names) → (kept : Kept)
      → Contains (map (kept_with at) (filter (stays gone) names)) kept → Lists (S.inside kept.node) kept.inside
  kept_shown at held kept h =
      let (z, has, same) = Contains-from_map (kept_with at) (filter (stays gone) names) kept h in
      subst (λ (k : Kept). Lists (S.inside k.node) k.inside) (sym same)
      (subst (λ l. Lists (S.inside z) l) (sym (held z)) (lists_at z ((left_are z).0 has)))

  -- the links that were given and are left
  given_left : (link : LinkOf ℤ) → Contains (filter (link_stays gone) given) link ↔ (Contains S.links link × ((n : ℕ) × (link.edge ≡ pos n)))
  given_left link = (there, back) where
    there : Contains (filter (link_stays gone) given) link → Contains S.links link × ((n : ℕ) × (link.edge ≡ pos n))
    there h =
        let (is, left) = Contains-from_filter (link_stays gone) given link h in
        let (a, b) = and_parts (stays gone link.from) (stays gone link.to) left in
        (sound.stand link is (stays_stands link.from (end_from given link is) a) (stays_stands link.to (end_to given link is) b), are_given link is)

    back : Contains S.links link × ((n : ℕ) × (link.edge ≡ pos n)) → Contains (filter (link_stays gone) given) link
    back (has, (n, edge)) =
        let is_given : Contains given link = elim (sound.links_are link has) as (λ _. Contains given link) [
          | inl is ↦ is
          | inr made ↦ absurd (elim made.either as (λ _. ⊥) [
            | inl same ↦ no_pos n (0 + made.place) (sym edge ∙ ap (λ (l : LinkOf ℤ). l.edge) same)
            | inr both ↦ no_pos n (0 + made.place) (sym edge ∙ ap (λ (l : LinkOf ℤ). l.edge) both.1)
          ])
        ] in
        Contains-filter (link_stays gone) given link is_given
        (and_from (stays gone link.from) (stays gone link.to) (stands_stays link.from (sound.ends link has).0) (stands_stays link.to (sound.ends link has).1))

  -- the links of shortcuts
  links_of_shown : (shortcuts : List Shortcut) (link : LinkOf ℤ) → Contains (flat_map (links_shown directed) shortcuts) link ↔ IsShortcutLink directed shortcuts link
  links_of_shown shortcuts link = (
    (λ h. let (shown, has, among) = Contains-from_flat_map (links_shown directed) shortcuts link h in (shown, (has, stands_for directed shown link among))),
    (λ (shown, (has, stands)). Contains-flat_map (links_shown directed) shortcuts shown link has (for_stands directed shown link stands)),
  )

  -- all of it
  pub is_shown : (at over : BTreeMap ℤ (List ℤ)) (links : List (LinkOf ℤ)) → ((z : ℤ) → list_at at z ≡ resting gone (holds_at z) names)
      → ((v : ℤ) → list_at over v ≡ resting gone (holds_over v) names) → IsStrictlyRising (link_cmp int_cmp) links
      → ((link : LinkOf ℤ) → Contains links link
      ↔ Contains (filter (link_stays gone) given ++ flat_map (links_shown directed) (shown_from over 0 (filter (tag_stays gone) (tags_of directed events)))) link)
      → IsShown directed S (map (kept_with at) (filter (stays gone) names)) (shown_from over 0 (filter (tag_stays gone) (tags_of directed events))) links
  is_shown at over links held_at held_over rise are =
      let shortcuts = shown_from over 0 (filter (tag_stays gone) (tags_of directed events)) in
      let first = filter (link_stays gone) given in
      let second = flat_map (links_shown directed) shortcuts in
      record {
        nodes = nodes_shown at;
        holds = kept_shown at held_at;
        shortcuts_are = shortcuts_shown over held_over;
        links_rise = rise;
        links_are = λ link. (
          (λ h. elim (Contains-append_cases first second link ((are link).0 h))
              as (λ _. (Contains S.links link × ((n : ℕ) × (link.edge ≡ pos n))) ⊎ IsShortcutLink directed shortcuts link) [
                | inl a ↦ inl ((given_left link).0 a)
                | inr b ↦ inr ((links_of_shown shortcuts link).0 b)
              ]),
          (λ either. (are link).1 (elim either as (λ _. Contains (first ++ second) link) [
            | inl a ↦ Contains-append_left first second link ((given_left link).1 a)
            | inr b ↦ Contains-append_right first second link ((links_of_shown shortcuts link).1 b)
          ])),
        );
      }

-- what is listed after a log shows the state after it
pub shown_by : (directed : Bool) (given : List (LinkOf ℤ)) → AreGiven given → (directed ≡ false → HaveOpposites given) → (events : List Event)
    → IsLogFrom directed (first_state given) events → (names : List ℤ) → AreEnds given names → (gone : BTreeMap ℤ Gone)
    → ((x : ℤ) → get int_cmp gone x ≡ gone_from 0 events x) → (at over : BTreeMap ℤ (List ℤ)) → ((z : ℤ) → list_at at z ≡ resting gone (holds_at z) names)
    → ((v : ℤ) → list_at over v ≡ resting gone (holds_over v) names) → (vertices : List Kept) → vertices ≡ map (kept_with at) (filter (stays gone) names)
    → (shortcuts : List Shortcut) → shortcuts ≡ shown_from over 0 (filter (tag_stays gone) (tags_of directed events)) → (links : List (LinkOf ℤ))
    → IsStrictlyRising (link_cmp int_cmp) links
    → ((link : LinkOf ℤ) → Contains links link ↔ Contains (filter (link_stays gone) given ++ flat_map (links_shown directed) shortcuts) link)
    → IsShown directed (state_of directed given events) vertices shortcuts links
shown_by directed given are_given opposites events log names ends gone found at over held_at held_over vertices vertices_is shortcuts shortcuts_is links rise are =
    let S = state_of directed given events in
    let start = first_sound directed given opposites in
    let sound : IsSound directed given S = log_sound directed given (first_state given) events start log in
    let holding : IsHolding directed given events S = log_holding directed given are_given [] events (first_state given) start (first_holding directed given) log in
    let known : (x : ℤ) → rest_of events x ≡ option_map (λ (g : Gone). g.holder) (get int_cmp gone x)
    = λ x. rest_is directed given (first_state given) 0 events x start log ∙ ap (option_map (λ (g : Gone). g.holder)) (sym (found x)) in
    subst (λ vs. IsShown directed S vs shortcuts links) (sym vertices_is)
    (subst (λ ss. IsShown directed S (map (kept_with at) (filter (stays gone) names)) ss links) (sym shortcuts_is)
    (is_shown directed given are_given events S sound holding names ends gone known at over links held_at held_over rise
    (λ link. subst (λ ss. Contains links link ↔ Contains (filter (link_stays gone) given ++ flat_map (links_shown directed) ss) link) shortcuts_is (are link))))
