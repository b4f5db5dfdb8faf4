-- Sets of candidates, one change at a time.
use Rattle.std.proofs.Common.{◌≡◌, ◌≢◌, ◌⊎◌, inl, inr, ℕ, ◌+◌, ◌<◌, ℤ, pos, true, false, cond, List, [], ◌∷◌, ◌++◌, length, take, get_or, Some, Ordering, Less, Equal, Greater, refl, sym, subst, ◌∙◌, ap, arith}
use Rattle.std.specs.Prelude.{◌≤ℤ◌, ◌<ℤ◌, ◌↔◌}
use Rattle.std.specs.List.{Contains, list_any}
use Rattle.std.specs.BTreeMap.{is_at}
use Rattle.std.specs.Ordering.{int_cmp, int_eq, is_gt}
use Rattle.std.specs.BTreeSet.{BTreeSet, contains}
use Rattle.std.proofs.lemmas.Cmp.{int_ranked}
use Rattle.std.proofs.lemmas.Int.{ints}
use Rattle.std.proofs.lemmas.List.Elements.{Contains-append_left, Contains-append_cases, Contains-push, Contains-push_cases}
use Rattle.std.proofs.lemmas.List.{take_more}
use Rattle.std.proofs.lemmas.List.Concat.{flat_map-append}
use Rattle.std.proofs.lemmas.Bool.{true≢false}
use Rattle.pgr_outside.proofs.Lists.{Contains-cons_cases, Contains-none}
use Rattle.pgr_walks.specs.declared.link.LinkOf.{LinkOf}
use Rattle.pgr_words.specs.declared.method.Method.{Method}
use Rattle.pgr_contract.specs.declared.event.Event.{Event}
use Rattle.pgr_contract.specs.State.{ends_of}
use Rattle.pgr_contract.specs.Steps.{Qualifies}
use Rattle.pgr_contract.specs.Events.{IsFound}
use Rattle.pgr_contract.specs.Candidates.{Among, AreEndsIn, IsAdded, IsTakenOut}
use Rattle.pgr_contract.proofs.Ids.{same_id, eq-int_eq, ne-int_eq}

-- an id more in the set
pub among-new : (id : ℤ) (old new : BTreeSet ℤ) → ((q : ℤ) → contains int_cmp new q ≡ cond (int_eq id q) true (contains int_cmp old q)) → (x : ℤ)
    → Among new x ↔ (Among old x ⊎ (id ≡ x))
among-new id old new changed x = by (same_id id x) where
  by : (id ≡ x) ⊎ (id ≢ x) → Among new x ↔ (Among old x ⊎ (id ≡ x))
  by (inl same) = ((λ h. inr same), (λ either. changed x ∙ ap (λ b. cond b true (contains int_cmp old x)) (eq-int_eq id x same)))
  by (inr differs) =
      let now : contains int_cmp new x ≡ contains int_cmp old x = changed x ∙ ap (λ b. cond b true (contains int_cmp old x)) (ne-int_eq id x differs) in
      ((λ h. inl (sym now ∙ h)), (λ either. elim either as (λ _. Among new x) [ inl old_has ↦ now ∙ old_has | inr same ↦ absurd (differs same) ]))

-- an id that isn't barred was added
pub IsAdded-by : (barred : BTreeSet ℤ) (id : ℤ) (old new : BTreeSet ℤ) → ((q : ℤ) → contains int_cmp new q ≡ cond (int_eq id q) true (contains int_cmp old q))
    → contains int_cmp barred id ≡ false → IsAdded barred id old new
IsAdded-by barred id old new changed free = record {
  kept = λ x h. (among-new id old new changed x).1 (inl h);
  added = λ not_barred. (among-new id old new changed id).1 (inr refl);
  allowed = λ x h. elim ((among-new id old new changed x).0 h) as (λ _. Among old x ⊎ ¬ Among barred x) [
    | inl had ↦ inl had
    | inr same ↦ inr (λ is. true≢false (sym is ∙ (ap (contains int_cmp barred) (sym same) ∙ free)))
  ];
}

-- one that is barred wasn't
pub IsAdded-not : (barred : BTreeSet ℤ) (id : ℤ) (set : BTreeSet ℤ) → Among barred id → IsAdded barred id set set
IsAdded-not barred id set is = record { kept = λ x h. h; added = λ free. absurd (free is); allowed = λ x h. inl h }

-- ends of one link more
ends-more : (links : List (LinkOf ℤ)) (link : LinkOf ℤ) (x : ℤ) → Contains (ends_of (links ++ link ∷ [])) x → Contains (ends_of links) x ⊎ ((link.from ≡ x) ⊎ (link.to ≡ x))
ends-more links link x h =
    by (Contains-append_cases (ends_of links) (link.from ∷ link.to ∷ []) x (subst (λ l. Contains l x) (flat_map-append (λ (l : LinkOf ℤ). l.from ∷ l.to ∷ []) links (link ∷ [])) h))
  where
    last : Contains (link.to ∷ []) x → Contains (ends_of links) x ⊎ ((link.from ≡ x) ⊎ (link.to ≡ x))
    last h = elim (Contains-cons_cases link.to [] x h) as (λ _. Contains (ends_of links) x ⊎ ((link.from ≡ x) ⊎ (link.to ≡ x)))
        [ inl to ↦ inr (inr to) | inr none ↦ absurd (Contains-none x none) ]

    by : Contains (ends_of links) x ⊎ Contains (link.from ∷ link.to ∷ []) x → Contains (ends_of links) x ⊎ ((link.from ≡ x) ⊎ (link.to ≡ x))
    by (inl old) = inl old
    by (inr new) = elim (Contains-cons_cases link.from (link.to ∷ []) x new) as (λ _. Contains (ends_of links) x ⊎ ((link.from ≡ x) ⊎ (link.to ≡ x))) [
      | inl from ↦ inr (inl from)
      | inr rest ↦ last rest
    ]

pub AreEndsIn-more : (links : List (LinkOf ℤ)) (link : LinkOf ℤ) (barred old once new : BTreeSet ℤ) → AreEndsIn links barred old → IsAdded barred link.from old once
    → IsAdded barred link.to once new
    → AreEndsIn (links ++ link ∷ []) barred new
AreEndsIn-more links link barred old once new so_far first second = record {
  all = λ x h free. elim (ends-more links link x h) as (λ _. Among new x) [
    | inl had ↦ second.kept x (first.kept x (so_far.all x had free))
    | inr either ↦ elim either as (λ _. Among new x) [
      | inl from ↦ second.kept x (subst (Among once) from (first.added (λ is. free (subst (Among barred) from is))))
      | inr to ↦ subst (Among new) to (second.added (λ is. free (subst (Among barred) to is)))
    ]
  ];
  allowed = λ x h. elim (second.allowed x h) as (λ _. ¬ Among barred x) [
    | inl had ↦ elim (first.allowed x had) as (λ _. ¬ Among barred x) [ inl old_had ↦ so_far.allowed x old_had | inr free ↦ free ]
    | inr free ↦ free
  ];
}

pub AreEndsIn-none : (barred set : BTreeSet ℤ) → set.keys ≡ [] → AreEndsIn [] barred set
AreEndsIn-none barred set empty = record {
  all = λ x h. absurd (Contains-none x h);
  allowed = λ x h. absurd (true≢false (sym h ∙ empty_has x));
}
  where
    empty_has : (x : ℤ) → contains int_cmp set x ≡ false
    empty_has x = ap (λ ks. contains int_cmp (record set { keys = ks }) x) empty

-- while candidates that don't qualify are taken out, those that do stay
pub record AreLeft (method : Method) (links : List (LinkOf ℤ)) (old now : BTreeSet ℤ) : Type 0 where
  pub left : (x : ℤ) → Among old x → Qualifies method (Contains links) x → Among now x
  pub fewer : (x : ℤ) → Among now x → Among old x

-- an id more of a list
pub set_more : (ids : List ℤ) (i : ℕ) (old new : BTreeSet ℤ) → i < length ids
    → ((q : ℤ) → contains int_cmp new q ≡ cond (int_eq (get_or ids i (pos 0)) q) true (contains int_cmp old q)) → ((x : ℤ) → Among old x ↔ Contains (take i ids) x)
    → (x : ℤ) → Among new x ↔ Contains (take (i + 1) ids) x
set_more ids i old new below changed so_far x =
    let id = get_or ids i (pos 0) in
    let more : take (i + 1) ids ≡ take i ids ++ id ∷ [] = take_more ids i (pos 0) below in
    let both = among-new id old new changed x in (
      (λ h. subst (λ l. Contains l x) (sym more) (elim (both.0 h) as (λ _. Contains (take i ids ++ id ∷ []) x) [
        | inl had ↦ Contains-append_left (take i ids) (id ∷ []) x ((so_far x).0 had)
        | inr is ↦ subst (Contains (take i ids ++ id ∷ [])) is (Contains-push (take i ids) id)
      ])),
      (λ h. both.1 (elim (Contains-push_cases (take i ids) id x (subst (λ l. Contains l x) more h)) as (λ _. Among old x ⊎ (id ≡ x)) [
        | inl had ↦ inl ((so_far x).1 had)
        | inr is ↦ inr is
      ])),
    )

-- an id less in the set
among-gone : (id : ℤ) (old new : BTreeSet ℤ) → ((q : ℤ) → contains int_cmp new q ≡ cond (int_eq id q) false (contains int_cmp old q)) → (x : ℤ)
    → Among new x ↔ (Among old x × (x ≢ id))
among-gone id old new changed x = by (same_id id x) where
  by : (id ≡ x) ⊎ (id ≢ x) → Among new x ↔ (Among old x × (x ≢ id))
  by (inl same) =
      let gone : contains int_cmp new x ≡ false = changed x ∙ ap (λ b. cond b false (contains int_cmp old x)) (eq-int_eq id x same) in
      ((λ h. absurd (true≢false (sym h ∙ gone))), (λ both. absurd (both.1 (sym same))))
  by (inr differs) =
      let now : contains int_cmp new x ≡ contains int_cmp old x = changed x ∙ ap (λ b. cond b false (contains int_cmp old x)) (ne-int_eq id x differs) in
      ((λ h. (sym now ∙ h, (λ e. differs (sym e)))), (λ both. now ∙ both.0))

no_more : (x y : ℤ) → is_gt (int_cmp x y) ≡ false → x ≤ℤ y
no_more x y h = by (int_cmp x y) refl h where
  by : (o : Ordering) → int_cmp x y ≡ o → is_gt o ≡ false → x ≤ℤ y
  by Less e f = let less : x <ℤ y = int_ranked x y Less (sym e) in omega (arith, ints)
  by Equal e f = let same : x ≡ y = int_ranked x y Equal (sym e) in omega (arith, ints)
  by Greater e f = absurd (true≢false f)

-- the least candidate qualifies
pub taken_out : (method : Method) (links : List (LinkOf ℤ)) (initial now new : BTreeSet ℤ) (event : Event) (v : ℤ) → AreLeft method links initial now
    → IsFound method links v (Some event) → Among now v → ((q : ℤ) → Among now q → is_gt (int_cmp v q) ≡ false)
    → ((q : ℤ) → contains int_cmp new q ≡ cond (int_eq v q) false (contains int_cmp now q)) → IsTakenOut method links initial new event
taken_out method links initial now new event v left found member lower changed = record {
  event_of = found.0;
  by = found.1.1;
  member = subst (Among initial) (sym found.1.0) (left.fewer v member);
  least = λ x h qualifies. subst (λ y. y ≤ℤ x) (sym found.1.0) (no_more v x (lower x (left.left x h qualifies)));
  left = λ x h qualifies differs. (among-gone v now new changed x).1 (left.left x h qualifies, (λ e. differs (e ∙ sym found.1.0)));
  fewer = λ x h. left.fewer x ((among-gone v now new changed x).0 h).0;
}

-- it doesn't
pub passed_over : (method : Method) (links : List (LinkOf ℤ)) (initial now new : BTreeSet ℤ) (v : ℤ) → AreLeft method links initial now → ¬ Qualifies method (Contains links) v
    → ((q : ℤ) → contains int_cmp new q ≡ cond (int_eq v q) false (contains int_cmp now q)) → AreLeft method links initial new
passed_over method links initial now new v left not changed = record {
  left = λ x h qualifies. (among-gone v now new changed x).1 (left.left x h qualifies, (λ e. not (subst (Qualifies method (Contains links)) e qualifies)));
  fewer = λ x h. left.fewer x ((among-gone v now new changed x).0 h).0;
}

-- there is none left
nothing-among : (keys : List ℤ) (x : ℤ) → length keys ≡ 0 → list_any (is_at (int_cmp x)) keys ≡ false
nothing-among [] x e = refl
nothing-among (k ∷ ks) x e = absurd (omega (arith, e))

pub all_out : (method : Method) (links : List (LinkOf ℤ)) (initial now new : BTreeSet ℤ) → AreLeft method links initial now → length now.keys ≡ 0 → new.keys ≡ now.keys
    → ((x : ℤ) → Among initial x → ¬ Qualifies method (Contains links) x) × ((x : ℤ) → Among new x → Among initial x)
all_out method links initial now new left empty same = (
  (λ x h qualifies. true≢false (sym (left.left x h qualifies) ∙ nothing-among now.keys x empty)),
  (λ x h. absurd (true≢false (sym h ∙ (ap (list_any (is_at (int_cmp x))) same ∙ nothing-among now.keys x empty)))),
)

pub AreLeft-first : (method : Method) (links : List (LinkOf ℤ)) (set : BTreeSet ℤ) → AreLeft method links set set
AreLeft-first method links set = record { left = λ x h qualifies. h; fewer = λ x h. h }

-- ends of one link more
pub AreEndsIn-take : (links : List (LinkOf ℤ)) (i : ℕ) (link : LinkOf ℤ) (barred set : BTreeSet ℤ) → i < length links
    → AreEndsIn (take i links ++ get_or links i link ∷ []) barred set
    → AreEndsIn (take (i + 1) links) barred set
AreEndsIn-take links i link barred set below ends = subst (λ ls. AreEndsIn ls barred set) (sym (take_more links i link below)) ends
