-- Looking through a rising list of links for a tight one finds the least tight one, or shows that none is tight.
use Rattle.std.proofs.Common.{◌≡◌, ◌≢◌, ℕ, zero, suc, ◌+◌, ◌<◌, Bool, true, false, cond, ◌==◌, List, [], ◌∷◌, Option, Some, None, Contains, All, length, get_or, MatchOption, IfSome, IfNone, refl, sym, ap, ◌∙◌, subst, arith, ◌⊎◌, inl, inr}
use Rattle.std.specs.Ordering.{nat_cmp}
use Rattle.std.specs.declared.cmp.Ordering.TheVariants.{Less}
use Rattle.std.proofs.lemmas.Bool.{false≢true, eqb-true, eq-eqb, and_parts, and_from, cases_order}
use Rattle.std.proofs.lemmas.Option.{same_Some, none-some}
use Rattle.pgr_walks.specs.declared.link.LinkOf.{LinkOf}
use Rattle.pgr_walks.specs.declared.label.Label.{Label}
use Rattle.pgr_walks.specs.Link.{step_cmp}
use Rattle.pgr_walks.specs.Label.{beyond}
use Rattle.pgr_walks.specs.Graph.{IsStrictlyRising}
use Rattle.pgr_walks.specs.declared.visitor.Next.TheVariants.{Go, Stop}
use Rattle.pgr_walks.specs.Visit.{shown, Admits}
use Rattle.pgr_search.specs.Tight.{label_at, IsTight, IsLeastTight}
use Rattle.pgr_search.specs.Seeking.{Seeking, is_beyond, is_tight, seek, seek_on, MayBeSought}

-- the test says that one label is that of where the link leads, with its cost and one hop more
is_beyond-true : (here there : Label) (link : LinkOf ℕ) → is_beyond here there link ≡ true → here ≡ beyond there link
is_beyond-true here there link e =
    let both = and_parts (there.cost + link.cost == here.cost) (there.hops + 1 == here.hops) e in
    let cost : here.cost ≡ there.cost + link.cost = sym (eqb-true (there.cost + link.cost) here.cost both.0) in
    let hops : here.hops ≡ there.hops + 1 = sym (eqb-true (there.hops + 1) here.hops both.1) in
    λ i. record { cost = cost i; hops = hops i }

true-is_beyond : (here there : Label) (link : LinkOf ℕ) → here ≡ beyond there link → is_beyond here there link ≡ true
true-is_beyond here there link e = and_from (there.cost + link.cost == here.cost) (there.hops + 1 == here.hops)
    (eq-eqb (there.cost + link.cost) here.cost (sym (ap (λ l. l.cost) e))) (eq-eqb (there.hops + 1) here.hops (sym (ap (λ l. l.hops) e)))

-- the test at the label of where the link leads
abbrev at_there : Label → LinkOf ℕ → Option Label → Bool
at_there here link there = elim there [ None ↦ false | Some label ↦ is_beyond here label link ]

tested : (here : Label) (link : LinkOf ℕ) (there : Option Label) → at_there here link there ≡ true → (label : Label) × (there ≡ Some label) × (here ≡ beyond label link)
tested here link None e = absurd (false≢true e)
tested here link (Some label) e = (label, refl, is_beyond-true here label link e)

-- a link from a vertex with this label that passes the test is tight
pub is_tight-true : (here : Label) (labels : List (Option Label)) (link : LinkOf ℕ) → label_at labels link.from ≡ Some here → is_tight here labels link ≡ true → IsTight labels link
is_tight-true here labels link at e =
    let t = tested here link (label_at labels link.to) e in
    record { here = here; there = t.0; here_is = at; there_is = t.1; one_more = t.2 }

-- a tight link passes the test
pub true-is_tight : (here : Label) (labels : List (Option Label)) (link : LinkOf ℕ) → label_at labels link.from ≡ Some here → IsTight labels link → is_tight here labels link ≡ true
true-is_tight here labels link at t =
    let same : here ≡ t.here = same_Some here t.here (sym at ∙ t.here_is) in
    ap (at_there here link) t.there_is ∙ true-is_beyond here t.there link (same ∙ t.one_more)

-- the link stands in the list, passes the test, and no link before it does
pub record IsFirstPassing (test : LinkOf ℕ → Bool) (links : List (LinkOf ℕ)) (link : LinkOf ℕ) : Type 0 where
  pub place : ℕ
  pub within : place < length links
  pub is_there : (d : LinkOf ℕ) → get_or links place d ≡ link
  pub passes : test link ≡ true
  pub first : (k : ℕ) (d : LinkOf ℕ) → k < place → test (get_or links k d) ≡ false

-- what was found is the first link that passes, and none where no link passes
abbrev FoundFirst : (LinkOf ℕ → Bool) → List (LinkOf ℕ) → Option (LinkOf ℕ) → Type 0
FoundFirst test links found = MatchOption found (All (λ link. test link ≡ false) links) (IsFirstPassing test links)

-- one more link before the others, that passes
first_here : (test : LinkOf ℕ → Bool) (link : LinkOf ℕ) (links : List (LinkOf ℕ)) → test link ≡ true → FoundFirst test (link ∷ links) (Some link)
first_here test link links e = record { place = 0; within = omega arith; is_there = λ d. refl; passes = e; first = λ k d h. absurd (omega arith) }

-- one more link before the others, that doesn't pass
first_later : (test : LinkOf ℕ → Bool) (link : LinkOf ℕ) (links : List (LinkOf ℕ)) (found : Option (LinkOf ℕ)) → test link ≡ false → FoundFirst test links found
    → FoundFirst test (link ∷ links) found
first_later test link links None e all = later
  where
    later : (k : ℕ) (d : LinkOf ℕ) → k < length (link ∷ links) → test (get_or (link ∷ links) k d) ≡ false
    later zero d h = e
    later (suc k) d h = all k d (omega arith)
first_later test link links (Some x) e f = record { place = suc f.place; within = omega (arith, f.within); is_there = λ d. f.is_there d; passes = f.passes; first = before }
  where
    before : (k : ℕ) (d : LinkOf ℕ) → k < suc f.place → test (get_or (link ∷ links) k d) ≡ false
    before zero d h = e
    before (suc k) d h = f.first k d (omega arith)

-- what is left after a link, that is tight or not, and after the others
abbrev after_link : Label → List (Option Label) → Option (LinkOf ℕ) → LinkOf ℕ → List (LinkOf ℕ) → Bool → Seeking
after_link here labels found link links t = elim (cond t Stop Go) [
  | Go ↦ shown seek seek_on
      (record { here = here; labels = labels; found = cond t (Some link) found }) links
  | Stop ↦ record { here = here; labels = labels; found = cond t (Some link) found }
]

first_more : (here : Label) (labels : List (Option Label)) (link : LinkOf ℕ) (links : List (LinkOf ℕ)) (t : Bool) → is_tight here labels link ≡ t
    → FoundFirst (is_tight here labels) links (shown seek seek_on (record { here = here; labels = labels; found = None }) links).found
    → FoundFirst (is_tight here labels) (link ∷ links) (after_link here labels None link links t).found
first_more here labels link links true e f = first_here (is_tight here labels) link links e
first_more here labels link links false e f = first_later (is_tight here labels) link links _ e f

-- looking through the links, with nothing found before, finds the first that is tight
shown_first : (here : Label) (labels : List (Option Label)) (links : List (LinkOf ℕ))
    → FoundFirst (is_tight here labels) links (shown seek seek_on (record { here = here; labels = labels; found = None }) links).found
shown_first here labels [] = λ k d h. absurd (omega arith)
shown_first here labels (link ∷ links) = first_more here labels link links (is_tight here labels link) refl (shown_first here labels links)

-- the links out of a vertex with this label rise: the first that passes is the least tight one
pub first_least : (here : Label) (labels : List (Option Label)) (links : List (LinkOf ℕ)) → IsStrictlyRising (step_cmp nat_cmp) links
    → ((link : LinkOf ℕ) → Contains links link → label_at labels link.from ≡ Some here) → (link : LinkOf ℕ) → IsFirstPassing (is_tight here labels) links link
    → IsLeastTight links labels link
first_least here labels links rise at link f = record {
  among = among;
  tight = is_tight-true here labels link (at link among) f.passes;
  least = least;
}
  where
    among : Contains links link
    among = (f.place, f.within, f.is_there link)

    least : (other : LinkOf ℕ) → Contains links other → IsTight labels other → other ≢ link → step_cmp nat_cmp link other ≡ Less
    least other has t ne = by (cases_order f.place has.0)
      where
        by : (f.place ≡ has.0) ⊎ ((f.place < has.0) ⊎ (has.0 < f.place)) → step_cmp nat_cmp link other ≡ Less
        by (inl e) = absurd (ne (sym has.2 ∙ ap (λ k. get_or links k other) (sym e) ∙ f.is_there other))
        by (inr (inl h)) = subst (λ x. step_cmp nat_cmp x other ≡ Less) (f.is_there other)
            (subst (λ y. step_cmp nat_cmp (get_or links f.place other) y ≡ Less) has.2 (rise f.place has.0 other h has.1))
        by (inr (inr h)) = absurd (false≢true (sym (f.first has.0 other h) ∙ ap (is_tight here labels) has.2 ∙ true-is_tight here labels other (at other has) t))

-- what is left after looking through the links out of a vertex with this label
pub seeks_least : (here : Label) (labels : List (Option Label)) (links : List (LinkOf ℕ)) → IsStrictlyRising (step_cmp nat_cmp) links
    → ((link : LinkOf ℕ) → Contains links link → label_at labels link.from ≡ Some here) → (found : Option (LinkOf ℕ))
    → found ≡ (shown seek seek_on (record { here = here; labels = labels; found = None }) links).found
    → MatchOption found ((link : LinkOf ℕ) → Contains links link → IsTight labels link → ⊥) (IsLeastTight links labels)
seeks_least here labels links rise at None e = λ link has t. absurd (false≢true (sym (subst
    (λ r. FoundFirst (is_tight here labels) links r) (sym e) (shown_first here labels links) has.0 link has.1) ∙ ap (is_tight here labels) has.2
    ∙ true-is_tight here labels link (at link has) t))
seeks_least here labels links rise at (Some link) e =
    first_least here labels links rise at link (subst (λ r. FoundFirst (is_tight here labels) links r) (sym e) (shown_first here labels links))

-- the others may be looked at after a link, that is tight or not
abbrev AdmitsAfter : Label → List (Option Label) → Option (LinkOf ℕ) → LinkOf ℕ → List (LinkOf ℕ) → Bool → Type 0
AdmitsAfter here labels found link links t =
    elim (cond t Stop Go) [ Go ↦ Admits seek seek_on MayBeSought (record { here = here; labels = labels; found = cond t (Some link) found }) links | Stop ↦ Unit {0} ]

admits_after : (here : Label) (labels : List (Option Label)) (found : Option (LinkOf ℕ)) (link : LinkOf ℕ) (links : List (LinkOf ℕ)) (t : Bool)
    → Admits seek seek_on MayBeSought (record { here = here; labels = labels; found = found }) links → AdmitsAfter here labels found link links t
admits_after here labels found link links true rest = tt
admits_after here labels found link links false rest = rest

-- each link may be looked at, where each leads to a vertex that a label, or its absence, is held of
pub admits_seeking : (here : Label) (labels : List (Option Label)) (found : Option (LinkOf ℕ)) (links : List (LinkOf ℕ))
    → ((link : LinkOf ℕ) → Contains links link → link.to < length labels) → Admits seek seek_on MayBeSought (record { here = here; labels = labels; found = found }) links
admits_seeking here labels found [] all = tt
admits_seeking here labels found (link ∷ links) all = (
  all link (0, omega arith, refl),
  admits_after here labels found link links (is_tight here labels link) (admits_seeking here labels found links (λ l h. all l (suc h.0, omega (arith, h.1), h.2))),
)

-- no link out of a vertex without a label is tight
pub no_label_not_tight : (labels : List (Option Label)) (links : List (LinkOf ℕ)) (v : ℕ) → ((link : LinkOf ℕ) → Contains links link → link.from ≡ v) → label_at labels v ≡ None
    → (link : LinkOf ℕ) → Contains links link → IsTight labels link → ⊥
no_label_not_tight labels links v at none link has t = none-some t.here (sym none ∙ ap (label_at labels) (sym (at link has)) ∙ t.here_is)

-- the links out of v, which has a label, rise, and they are looked through in order
module _ (here : Label) (labels : List (Option Label)) (links : List (LinkOf ℕ)) (v : ℕ) (rise : IsStrictlyRising (step_cmp nat_cmp) links)
    (at : (link : LinkOf ℕ) → Contains links link → link.from ≡ v) (has : label_at labels v ≡ Some here) where
  sought : (found : Option (LinkOf ℕ)) → found ≡ (shown seek seek_on (record { here = here; labels = labels; found = None }) links).found
      → MatchOption found ((link : LinkOf ℕ) → Contains links link → IsTight labels link → ⊥) (IsLeastTight links labels)
  sought = seeks_least here labels links rise (λ link h. ap (label_at labels) (at link h) ∙ has)

  pub found_least : (found : Option (LinkOf ℕ)) → found ≡ (shown seek seek_on (record { here = here; labels = labels; found = None }) links).found
      → IfSome found (IsLeastTight links labels)
  found_least None e = tt
  found_least (Some link) e = sought (Some link) e

  pub found_from : (found : Option (LinkOf ℕ)) → found ≡ (shown seek seek_on (record { here = here; labels = labels; found = None }) links).found
      → IfSome found (λ link. link.from ≡ v)
  found_from None e = tt
  found_from (Some link) e = at link (sought (Some link) e).among

  pub found_none : (found : Option (LinkOf ℕ)) → found ≡ (shown seek seek_on (record { here = here; labels = labels; found = None }) links).found
      → IfNone found ((link : LinkOf ℕ) → Contains links link → IsTight labels link → ⊥)
  found_none None e = sought None e
  found_none (Some link) e = tt
