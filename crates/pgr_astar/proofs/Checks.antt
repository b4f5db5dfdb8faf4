-- Looking through the rising links out of a vertex finds the first that breaks an estimate, and so does looking through those of all vertices, one after the other.
use Rattle.std.proofs.Common.{◌≡◌, ◌≢◌, ℕ, zero, suc, ◌+◌, ◌<◌, ◌≤◌, ◌⊎◌, inl, inr, Bool, true, false, cond, List, [], ◌∷◌, Option, Some, None, Contains, length, get_or, MatchOption, IfSome, IfNone, refl, sym, ap, ◌∙◌, subst, arith, Ordering, Less, Equal, Greater}
use Rattle.std.specs.Ordering.{nat_cmp, ordering_then}
use Rattle.std.specs.Cmp.{nat_cmp_is}
use Rattle.std.proofs.lemmas.Bool.{false≢true, ltb-true, lt-ltb, cases_lt, cases_order}
use Rattle.pgr_walks.specs.declared.link.LinkOf.{LinkOf}
use Rattle.pgr_walks.specs.declared.visitor.Next.TheVariants.{Go, Stop}
use Rattle.pgr_walks.specs.Link.{step_cmp, link_cmp}
use Rattle.pgr_walks.specs.Graph.{IsStrictlyRising, IsLawful, IsLinkOf}
use Rattle.pgr_walks.specs.Visit.{shown, Admits}
use Rattle.pgr_search.specs.Estimates.{IsConsistent}
use Rattle.pgr_astar.specs.Breaking.{value_at, Breaks, IsFirstBreaking}
use Rattle.pgr_astar.specs.Checking.{Check, breaks, check, check_on, MayBeChecked}

nat_less : (x y : ℕ) → x < y → nat_cmp x y ≡ Less
nat_less x y h = sym (nat_cmp_is x y Less h)

nat_same : (x y : ℕ) → x ≡ y → nat_cmp x y ≡ Equal
nat_same x y e = sym (nat_cmp_is x y Equal e)

-- links are compared by where they begin, and from one vertex by their steps
link_less : (a b : LinkOf ℕ) → a.from < b.from → link_cmp nat_cmp a b ≡ Less
link_less a b h = ap (λ o. ordering_then o (step_cmp nat_cmp a b)) (nat_less a.from b.from h)

link_step : (a b : LinkOf ℕ) → a.from ≡ b.from → step_cmp nat_cmp a b ≡ Less → link_cmp nat_cmp a b ≡ Less
link_step a b same less = ap (λ o. ordering_then o (step_cmp nat_cmp a b)) (nat_same a.from b.from same) ∙ less

module _ (values : List ℕ) where
  -- the meaning where this was found
  abbrev with_found : Option (LinkOf ℕ) → Check
  with_found found = record { values = values; found = found }

  abbrev Unbroken : List (LinkOf ℕ) → Type 0
  Unbroken links = (link : LinkOf ℕ) → Contains links link → Breaks (value_at values) link → ⊥

  abbrev IsFirst : List (LinkOf ℕ) → LinkOf ℕ → Type 0
  IsFirst links link = IsFirstBreaking nat_cmp (Contains links) (Breaks (value_at values)) link

  -- what is left after a link, that breaks the estimate or not, and after the others
  abbrev after_link : LinkOf ℕ → List (LinkOf ℕ) → Bool → Check
  after_link link links b = elim (cond b Stop Go) [ Go ↦ shown check check_on (with_found (cond b (Some link) None)) links | Stop ↦ with_found (cond b (Some link) None) ]

  holds : (link : LinkOf ℕ) → Breaks (value_at values) link → breaks values link ≡ true
  holds link h = lt-ltb (value_at values link.from + link.cost) (value_at values link.to) h

  fails : (link : LinkOf ℕ) → breaks values link ≡ false → Breaks (value_at values) link → ⊥
  fails link e h = false≢true (sym e ∙ holds link h)

  first_here : (link : LinkOf ℕ) (links : List (LinkOf ℕ)) → IsStrictlyRising (step_cmp nat_cmp) (link ∷ links)
      → ((other : LinkOf ℕ) → Contains (link ∷ links) other → other.from ≡ link.from) → breaks values link ≡ true → IsFirst (link ∷ links) link
  first_here link links rise from e = record {
    has = (0, omega arith, refl);
    broken = ltb-true (value_at values link.from + link.cost) (value_at values link.to) e;
    first = first;
  }
    where
      first : (other : LinkOf ℕ) → Contains (link ∷ links) other → Breaks (value_at values) other → other ≢ link → link_cmp nat_cmp link other ≡ Less
      first other (zero, below, is) b differs = absurd (differs (sym is))
      first other (suc k, below, is) b differs =
          link_step link other (sym (from other (suc k, below, is))) (subst (λ l. step_cmp nat_cmp link l ≡ Less) is (rise 0 (suc k) other (omega arith) below))

  later : (link : LinkOf ℕ) (links : List (LinkOf ℕ)) (found : Option (LinkOf ℕ)) → breaks values link ≡ false → MatchOption found (Unbroken links) (IsFirst links)
      → MatchOption found (Unbroken (link ∷ links)) (IsFirst (link ∷ links))
  later link links None e none = none_later
    where
      none_later : Unbroken (link ∷ links)
      none_later other (zero, below, is) b = fails link e (subst (Breaks (value_at values)) (sym is) b)
      none_later other (suc k, below, is) b = none other (k, omega arith, is) b
  later link links (Some found) e first = record {
    has = (suc first.has.0, omega (arith, first.has.1), first.has.2);
    broken = first.broken;
    first = before;
  }
    where
      before : (other : LinkOf ℕ) → Contains (link ∷ links) other → Breaks (value_at values) other → other ≢ found → link_cmp nat_cmp found other ≡ Less
      before other (zero, below, is) b differs = absurd (fails link e (subst (Breaks (value_at values)) (sym is) b))
      before other (suc k, below, is) b differs = first.first other (k, omega arith, is) b differs

  more : (link : LinkOf ℕ) (links : List (LinkOf ℕ)) → IsStrictlyRising (step_cmp nat_cmp) (link ∷ links)
      → ((other : LinkOf ℕ) → Contains (link ∷ links) other → other.from ≡ link.from) → (b : Bool) → breaks values link ≡ b
      → MatchOption (shown check check_on (with_found None) links).found (Unbroken links) (IsFirst links)
      → MatchOption (after_link link links b).found (Unbroken (link ∷ links)) (IsFirst (link ∷ links))
  more link links rise from true e rest = first_here link links rise from e
  more link links rise from false e rest = later link links (shown check check_on (with_found None) links).found e rest

  -- looking through the links of a vertex, with none found before
  shown_first : (v : ℕ) (links : List (LinkOf ℕ)) → IsStrictlyRising (step_cmp nat_cmp) links → ((other : LinkOf ℕ) → Contains links other → other.from ≡ v)
      → MatchOption (shown check check_on (with_found None) links).found (Unbroken links) (IsFirst links)
  shown_first v [] rise from = λ link (k, below, is) b. omega (arith, below)
  shown_first v (link ∷ links) rise from =
      more link links rise (λ other has. from other has ∙ sym (from link (0, omega arith, refl))) (breaks values link) refl
      (shown_first v links (λ i j d lt below. rise (suc i) (suc j) d (omega arith) (omega arith)) (λ other has. from other (suc has.0, omega (arith, has.1), has.2)))

  abbrev AdmitsAfter : Option (LinkOf ℕ) → LinkOf ℕ → List (LinkOf ℕ) → Bool → Type 0
  AdmitsAfter found link links b = elim (cond b Stop Go) [ Go ↦ Admits check check_on MayBeChecked (with_found (cond b (Some link) found)) links | Stop ↦ Unit {0} ]

  admits_after : (found : Option (LinkOf ℕ)) (link : LinkOf ℕ) (links : List (LinkOf ℕ)) (b : Bool) → Admits check check_on MayBeChecked (with_found found) links
      → AdmitsAfter found link links b
  admits_after found link links true rest = tt
  admits_after found link links false rest = rest

  -- each link may be looked at whose ends have estimates
  pub admits_checks : (found : Option (LinkOf ℕ)) (links : List (LinkOf ℕ))
      → ((link : LinkOf ℕ) → Contains links link → (link.from < length values) × (link.to < length values)) → Admits check check_on MayBeChecked (with_found found) links
  admits_checks found [] ends = tt
  admits_checks found (link ∷ links) ends =
      let here = ends link (0, omega arith, refl) in (
        record { from_below = here.0; to_below = here.1 },
        admits_after found link links (breaks values link) (admits_checks found links (λ l h. ends l (suc h.0, omega (arith, h.1), h.2))),
      )

  pub found_first : (v : ℕ) (links : List (LinkOf ℕ)) → IsStrictlyRising (step_cmp nat_cmp) links → ((other : LinkOf ℕ) → Contains links other → other.from ≡ v)
      → (found : Option (LinkOf ℕ)) → found ≡ (shown check check_on (with_found None) links).found → IfSome found (IsFirst links)
  found_first v links rise from None e = tt
  found_first v links rise from (Some link) e = subst (λ o. MatchOption o (Unbroken links) (IsFirst links)) (sym e) (shown_first v links rise from)

  pub found_none : (v : ℕ) (links : List (LinkOf ℕ)) → IsStrictlyRising (step_cmp nat_cmp) links → ((other : LinkOf ℕ) → Contains links other → other.from ≡ v)
      → (found : Option (LinkOf ℕ)) → found ≡ (shown check check_on (with_found None) links).found → IfNone found (Unbroken links)
  found_none v links rise from None e = subst (λ o. MatchOption o (Unbroken links) (IsFirst links)) (sym e) (shown_first v links rise from)
  found_none v links rise from (Some link) e = tt

  -- one vertex more whose links don't break the estimate
  pub one_more_unbroken : (outs : ℕ → List (LinkOf ℕ)) (n : ℕ) → ((u : ℕ) → u < n → Unbroken (outs u)) → Unbroken (outs n) → (u : ℕ) → u < n + 1 → Unbroken (outs u)
  one_more_unbroken outs n earlier here u below = at (cases_lt u n)
    where
      at : (u < n) ⊎ (n ≤ u) → Unbroken (outs u)
      at (inl less) = earlier u less
      at (inr more) = let same : n ≡ u = omega arith in subst (λ x. Unbroken (outs x)) same here

  module _ (size : ℕ) (outs ins : ℕ → List (LinkOf ℕ)) (lawful : IsLawful size outs ins) where
    -- a link of the graph is one of those out of where it begins
    out_of : (link : LinkOf ℕ) → IsLinkOf size ins link → (link.from < size) × Contains (outs link.from) link
    out_of link (below, has) = let ends = (lawful.at link.to below).in_ends link has in (ends.1, (lawful.both link ends.1 below).1 has)

    -- where no link out of a vertex below n breaks the estimate, the first of those out of n is the first of all
    pub first_of_all : (n : ℕ) → n < size → ((u : ℕ) → u < n → Unbroken (outs u)) → (link : LinkOf ℕ) → IsFirst (outs n) link
        → IsFirstBreaking nat_cmp (IsLinkOf size ins) (Breaks (value_at values)) link
    first_of_all n below earlier link f = record {
      has = (ends.1, (lawful.both link (subst (λ x. x < size) (sym ends.0) below) ends.1).0 (subst (λ x. Contains (outs x) link) (sym ends.0) f.has));
      broken = f.broken;
      first = λ other has b differs. before other (out_of other has) b differs (cases_order other.from n);
    }
      where
        ends : (link.from ≡ n) × (link.to < size)
        ends = (lawful.at n below).out_ends link f.has

        before : (other : LinkOf ℕ) → (other.from < size) × Contains (outs other.from) other → Breaks (value_at values) other → other ≢ link
            → (other.from ≡ n) ⊎ ((other.from < n) ⊎ (n < other.from)) → link_cmp nat_cmp link other ≡ Less
        before other has b differs (inl same) = f.first other (subst (λ x. Contains (outs x) other) same has.1) b differs
        before other has b differs (inr (inl less)) = absurd (earlier other.from less other has.1 b)
        before other has b differs (inr (inr more)) = link_less link other (omega (arith, ends.0))

    -- where no link out of any vertex breaks it, the estimate is consistent
    pub all_consistent : ((u : ℕ) → u < size → Unbroken (outs u)) → IsConsistent (IsLinkOf size ins) (value_at values)
    all_consistent unbroken link has = at (cases_lt (value_at values link.from + link.cost) (value_at values link.to))
      where
        at : (value_at values link.from + link.cost < value_at values link.to) ⊎ (value_at values link.to ≤ value_at values link.from + link.cost)
            → value_at values link.to ≤ value_at values link.from + link.cost
        at (inl b) = let out = out_of link has in absurd (unbroken link.from out.0 link out.1 b)
        at (inr within) = within
