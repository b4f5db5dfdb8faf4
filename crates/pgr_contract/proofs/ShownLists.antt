-- What is left, listed one vertex, shortcut or link at a time.
use Rattle.std.proofs.Common.{◌≡◌, ℕ, suc, ◌+◌, ◌<◌, ℤ, negsuc, Bool, true, false, ◌&&◌, cond, List, [], ◌∷◌, ◌++◌, length, map, take, get_or, Option, Some, None, refl, sym, subst, ◌∙◌, ap, append_assoc, arith}
use Rattle.std.specs.List.{filter, flat_map, slice_get}
use Rattle.std.specs.Ordering.{int_cmp}
use Rattle.std.specs.BTreeMap.{BTreeMap, get}
use Rattle.std.proofs.lemmas.List.{take_more, append-nil, map-append}
use Rattle.std.proofs.lemmas.List.Elements.{filter-append}
use Rattle.std.proofs.lemmas.List.Concat.{flat_map-append}
use Rattle.pgr_outside.proofs.Lists.{take_one_more}
use Rattle.pgr_walks.specs.declared.link.LinkOf.{LinkOf}
use Rattle.pgr_contract.specs.declared.contracted.Kept.{Kept}
use Rattle.pgr_contract.specs.declared.contracted.Shortcut.{Shortcut}
use Rattle.pgr_contract.specs.declared.event.Bypassed.{Bypassed}
use Rattle.pgr_contract.specs.declared.event.Event.{Event}
use Rattle.pgr_contract.specs.declared.event.Event.TheVariants.{Pass}
use Rattle.pgr_contract.specs.declared.held.Span.{Span}
use Rattle.pgr_contract.specs.declared.held.Holder.{Holder}
use Rattle.pgr_contract.specs.declared.held.Gone.{Gone}
use Rattle.pgr_contract.specs.Held.{Tag, tag, tags_at, tags_of, span_of, rests}
use Rattle.pgr_contract.specs.Lists.{list_at, resting, stays, tag_stays, kept_with, shown_from, links_shown, link_stays}

filter-push : {X : Type 0} (p : X → Bool) (xs : List X) (x : X) → filter p (xs ++ x ∷ []) ≡ filter p xs ++ cond (p x) (x ∷ []) []
filter-push p xs x = filter-append p xs (x ∷ [])

pub resting_more : (gone : BTreeMap ℤ Gone) (test : Holder → Bool) (names : List ℤ) (n : ℕ) (x : ℤ) → slice_get names n ≡ Some x
    → resting gone test (take (n + 1) names) ≡ resting gone test (take n names) ++ cond (rests test (get int_cmp gone x)) (x ∷ []) []
resting_more gone test names n x at = ap (resting gone test) (take_one_more names n x at) ∙ filter-push (λ y. rests test (get int_cmp gone y)) (take n names) x

pub kept_more : (lists : BTreeMap ℤ (List ℤ)) (gone : BTreeMap ℤ Gone) (names : List ℤ) (n : ℕ) (x : ℤ) → slice_get names n ≡ Some x
    → map (kept_with lists) (filter (stays gone) (take (n + 1) names)) ≡ map (kept_with lists) (filter (stays gone) (take n names)) ++ cond (stays gone x)
    (kept_with lists x ∷ []) []
kept_more lists gone names n x at =
    ap (λ xs. map (kept_with lists) (filter (stays gone) xs)) (take_one_more names n x at)
    ∙ (ap (map (kept_with lists)) (filter-push (stays gone) (take n names) x)
    ∙ (map-append (kept_with lists) (filter (stays gone) (take n names)) (cond (stays gone x) (x ∷ []) [])
    ∙ ap (λ ys. map (kept_with lists) (filter (stays gone) (take n names)) ++ ys) (by (stays gone x))))
  where
    by : (b : Bool) → map (kept_with lists) (cond b (x ∷ []) []) ≡ cond b (kept_with lists x ∷ []) []
    by true = refl
    by false = refl

pub kept_after : (lists : BTreeMap ℤ (List ℤ)) (gone : BTreeMap ℤ Gone) (names : List ℤ) (n : ℕ) (x : ℤ) (old new : List Kept) → slice_get names n ≡ Some x
    → old ≡ map (kept_with lists) (filter (stays gone) (take n names)) → new ≡ old ++ cond (stays gone x) (kept_with lists x ∷ []) []
    → new ≡ map (kept_with lists) (filter (stays gone) (take (n + 1) names))
kept_after lists gone names n x old new at so_far step =
    step ∙ (ap (λ o. o ++ cond (stays gone x) (kept_with lists x ∷ []) []) so_far ∙ sym (kept_more lists gone names n x at))

-- of a vertex that isn't left nothing is listed
pub nothing_kept : (gone : BTreeMap ℤ Gone) (x : ℤ) (kept : Kept) (list : List Kept) → stays gone x ≡ false → list ≡ list ++ cond (stays gone x) (kept ∷ []) []
nothing_kept gone x kept list e = sym (append-nil list) ∙ ap (λ b. list ++ cond b (kept ∷ []) []) (sym e)

-- both ends are left
pub both_left : (gone : BTreeMap ℤ Gone) (a b : ℤ) → stays gone a ≡ true → (stays gone a && stays gone b) ≡ stays gone b
both_left gone a b e = ap (λ x. x && stays gone b) e

pub one_gone : (gone : BTreeMap ℤ Gone) (a b : ℤ) → stays gone a ≡ false → (stays gone a && stays gone b) ≡ false
one_gone gone a b e = ap (λ x. x && stays gone b) e

-- shortcuts, listed one after the other
length-shown : (lists : BTreeMap ℤ (List ℤ)) (n : ℕ) (tags : List Tag) → length (shown_from lists n tags) ≡ length tags
length-shown lists n [] = refl
length-shown lists n (t ∷ more) = ap suc (length-shown lists (suc n) more)

shown-append : (lists : BTreeMap ℤ (List ℤ)) (n : ℕ) (xs ys : List Tag) → shown_from lists n (xs ++ ys) ≡ shown_from lists n xs ++ shown_from lists (n + length xs) ys
shown-append lists n [] ys = let same : n ≡ n + 0 = omega arith in ap (λ k. shown_from lists k ys) same
shown-append lists n (x ∷ xs) ys =
    let same : suc n + length xs ≡ n + suc (length xs) = omega arith in
    ap (λ zs. record { id = negsuc n; from = x.from; to = x.to; cost = x.cost; inside = list_at lists x.span.vertex } ∷ zs)
    (shown-append lists (suc n) xs ys ∙ ap (λ k. shown_from lists (suc n) xs ++ shown_from lists k ys) same)

pub shown-push : (lists : BTreeMap ℤ (List ℤ)) (tags : List Tag) (a b : ℤ) (cost : ℕ) (span : Span) (old new : List Shortcut) (id : ℤ) (inside : List ℤ)
    → old ≡ shown_from lists 0 tags
    → id ≡ negsuc (length old) → inside ≡ list_at lists span.vertex → new ≡ old ++ record { id = id; from = a; to = b; cost = cost; inside = inside } ∷ []
    → new ≡ shown_from lists 0 (tags ++ tag a b (Some cost) span)
shown-push lists tags a b cost span old new id inside shown id_is inside_is new_is =
    let count : length old ≡ 0 + length tags = ap length shown ∙ (length-shown lists 0 tags ∙ (omega arith)) in
    new_is ∙ (ap (λ i. old ++ record { id = i; from = a; to = b; cost = cost; inside = inside } ∷ []) (id_is ∙ ap negsuc count)
    ∙ (ap (λ l. old ++ record { id = negsuc (0 + length tags); from = a; to = b; cost = cost; inside = l } ∷ []) inside_is
    ∙ (ap (λ o. o ++ record { id = negsuc (0 + length tags); from = a; to = b; cost = cost; inside = list_at lists span.vertex } ∷ []) shown
    ∙ sym (shown-append lists 0 tags (tag a b (Some cost) span)))))

-- the links of shortcuts, and links that are left
pub left_more : (gone : BTreeMap ℤ Gone) (links : List (LinkOf ℤ)) (i : ℕ) (link : LinkOf ℤ) (start old new : List (LinkOf ℤ)) → i < length links
    → old ≡ start ++ filter (link_stays gone) (take i links) → new ≡ old ++ cond (link_stays gone (get_or links i link)) (get_or links i link ∷ []) []
    → new ≡ start ++ filter (link_stays gone) (take (i + 1) links)
left_more gone links i link start old new below so_far step =
    step ∙ (ap (λ o. o ++ cond (link_stays gone (get_or links i link)) (get_or links i link ∷ []) []) so_far
    ∙ (append_assoc start (filter (link_stays gone) (take i links)) (cond (link_stays gone (get_or links i link)) (get_or links i link ∷ []) [])
    ∙ ap (λ l. start ++ l) (sym (ap (filter (link_stays gone)) (take_more links i link below) ∙ filter-push (link_stays gone) (take i links) (get_or links i link)))))

pub shown_links_more : (directed : Bool) (shortcuts : List Shortcut) (i : ℕ) (shown : Shortcut) (start old new : List (LinkOf ℤ)) → i < length shortcuts
    → old ≡ start ++ flat_map (links_shown directed) (take i shortcuts) → new ≡ old ++ links_shown directed (get_or shortcuts i shown)
    → new ≡ start ++ flat_map (links_shown directed) (take (i + 1) shortcuts)
shown_links_more directed shortcuts i shown start old new below so_far step =
    let x = get_or shortcuts i shown in
    step ∙ (ap (λ o. o ++ links_shown directed x) so_far
    ∙ (append_assoc start (flat_map (links_shown directed) (take i shortcuts)) (links_shown directed x)
    ∙ ap (λ l. start ++ l) (sym (ap (flat_map (links_shown directed)) (take_more shortcuts i shown below)
    ∙ (flat_map-append (links_shown directed) (take i shortcuts) (x ∷ []) ∙ ap (λ l. flat_map (links_shown directed) (take i shortcuts) ++ l)
    (append-nil (links_shown directed x)))))))

-- the tags of one event more that are left
pub tags_more : (directed : Bool) (gone : BTreeMap ℤ Gone) (events : List Event) (i : ℕ) (event : Event) → i < length events
    → filter (tag_stays gone) (tags_of directed (take (i + 1) events)) ≡ filter (tag_stays gone) (tags_of directed (take i events)) ++ filter (tag_stays gone)
    (tags_at directed (get_or events i event))
tags_more directed gone events i event below =
    let e = get_or events i event in
    ap (λ es. filter (tag_stays gone) (tags_of directed es)) (take_more events i event below)
    ∙ (ap (filter (tag_stays gone)) (flat_map-append (tags_at directed) (take i events) (e ∷ []) ∙ ap (λ l. tags_of directed (take i events) ++ l)
    (append-nil (tags_at directed e)))
    ∙ filter-append (tag_stays gone) (tags_of directed (take i events)) (tags_at directed e))

-- of an event whose ends aren't both left no tag is, and of one whose ends are all are
tag-filter : (gone : BTreeMap ℤ Gone) (a b : ℤ) (cost : Option ℕ) (span : Span) (x : Bool) → (stays gone a && stays gone b) ≡ x
    → filter (tag_stays gone) (tag a b cost span) ≡ cond x (tag a b cost span) []
tag-filter gone a b None span true e = refl
tag-filter gone a b None span false e = refl
tag-filter gone a b (Some c) span x e = ap (λ y. cond y (record { from = a; to = b; cost = c; span = span } ∷ []) []) e

and-comm : (a b : Bool) → (a && b) ≡ (b && a)
and-comm true true = refl
and-comm true false = refl
and-comm false true = refl
and-comm false false = refl

pub tags_at-filter : (directed : Bool) (gone : BTreeMap ℤ Gone) (passed : Bypassed) (x : Bool) → (stays gone passed.low && stays gone passed.high) ≡ x
    → filter (tag_stays gone) (tags_at directed (Pass passed)) ≡ cond x (tags_at directed (Pass passed)) []
tags_at-filter true gone passed x e =
    filter-append (tag_stays gone) (tag passed.low passed.high passed.there (span_of passed)) (tag passed.high passed.low passed.back (span_of passed))
    ∙ (ap (λ l. l ++ filter (tag_stays gone) (tag passed.high passed.low passed.back (span_of passed))) (tag-filter gone passed.low passed.high passed.there (span_of passed) x e)
    ∙ (ap (λ l. cond x (tag passed.low passed.high passed.there (span_of passed)) [] ++ l)
    (tag-filter gone passed.high passed.low passed.back (span_of passed) x (and-comm (stays gone passed.high) (stays gone passed.low) ∙ e)) ∙ by x))
  where
    by : (y : Bool) → cond y (tag passed.low passed.high passed.there (span_of passed)) [] ++ cond y (tag passed.high passed.low passed.back (span_of passed)) []
        ≡ cond y (tag passed.low passed.high passed.there (span_of passed) ++ tag passed.high passed.low passed.back (span_of passed)) []
    by true = refl
    by false = refl
tags_at-filter false gone passed x e = tag-filter gone passed.low passed.high passed.there (span_of passed) x e

-- both shortcuts in the place of a vertex whose neighbours are left
pub passed_shown : (directed : Bool) (gone : BTreeMap ℤ Gone) (over : BTreeMap ℤ (List ℤ)) (passed : Bypassed) (tags : List Tag) (new : List Shortcut) → directed ≡ true
    → stays gone passed.low ≡ true → stays gone passed.high ≡ true
    → new ≡ shown_from over 0 ((tags ++ tag passed.low passed.high passed.there (span_of passed)) ++ tag passed.high passed.low passed.back (span_of passed))
    → new ≡ shown_from over 0 (tags ++ filter (tag_stays gone) (tags_at directed (Pass passed)))
passed_shown directed gone over passed tags new is low high shown =
    let first = tag passed.low passed.high passed.there (span_of passed) in
    let second = tag passed.high passed.low passed.back (span_of passed) in
    let all = tags_at-filter true gone passed true (both_left gone passed.low passed.high low ∙ high) in
    subst (λ d. new ≡ shown_from over 0 (tags ++ filter (tag_stays gone) (tags_at d (Pass passed)))) (sym is)
    (shown ∙ ap (shown_from over 0) (append_assoc tags first second ∙ ap (λ l. tags ++ l) (sym all)))
