-- The links of shortcuts.
use Rattle.std.proofs.Common.{◌≡◌, ◌⊎◌, inl, inr, ℕ, zero, suc, ◌+◌, ℤ, Bool, true, false, List, [], ◌∷◌, Some, refl, sym, subst, ◌∙◌, ap, arith}
use Rattle.std.specs.List.{Contains, slice_get}
use Rattle.pgr_outside.proofs.Lists.{Contains-here, Contains-later, Contains-cons_cases, Contains-none}
use Rattle.pgr_walks.specs.declared.link.LinkOf.{LinkOf}
use Rattle.pgr_walks.specs.Reaches.{turned}
use Rattle.pgr_contract.specs.State.{Made, link_of_made, links_of_made}

-- the link is that of a shortcut, or in the undirected graph that turned
pub record IsMade (directed : Bool) (first : ℕ) (made : List Made) (link : LinkOf ℤ) : Type 0 where
  pub place : ℕ
  pub shown : Made
  pub at : slice_get made place ≡ Some shown
  pub either : (link ≡ link_of_made (first + place) shown) ⊎ ((directed ≡ false) × (link ≡ turned (link_of_made (first + place) shown)))

-- the same one place later
later : (directed : Bool) (n : ℕ) (m : Made) (more : List Made) (link : LinkOf ℤ) → IsMade directed (suc n) more link → IsMade directed n (m ∷ more) link
later directed n m more link h =
    let same : suc n + h.place ≡ n + suc h.place = omega arith in
    record {
      place = suc h.place;
      shown = h.shown;
      at = h.at;
      either = subst (λ k. (link ≡ link_of_made k h.shown) ⊎ ((directed ≡ false) × (link ≡ turned (link_of_made k h.shown)))) same h.either;
    }

here : (directed : Bool) (n : ℕ) (m : Made) (more : List Made) (link : LinkOf ℤ) → (link ≡ link_of_made n m) ⊎ ((directed ≡ false) × (link ≡ turned (link_of_made n m)))
    → IsMade directed n (m ∷ more) link
here directed n m more link either =
    let same : n ≡ n + 0 = omega arith in
    record {
      place = 0;
      shown = m;
      at = refl;
      either = subst (λ k. (link ≡ link_of_made k m) ⊎ ((directed ≡ false) × (link ≡ turned (link_of_made k m)))) same either;
    }

-- what the links of shortcuts are
pub IsMade-from : (directed : Bool) (n : ℕ) (made : List Made) (link : LinkOf ℤ) → Contains (links_of_made directed n made) link → IsMade directed n made link
IsMade-from directed n [] link h = absurd (Contains-none link h)
IsMade-from true n (m ∷ more) link h = by (Contains-cons_cases (link_of_made n m) (links_of_made true (suc n) more) link h) (λ rest. IsMade-from true (suc n) more link rest)
  where
    by : (link_of_made n m ≡ link) ⊎ Contains (links_of_made true (suc n) more) link → (Contains (links_of_made true (suc n) more) link → IsMade true (suc n) more link)
        → IsMade true n (m ∷ more) link
    by (inl first) on = here true n m more link (inl (sym first))
    by (inr rest) on = later true n m more link (on rest)
IsMade-from false n (m ∷ more) link h =
    by (Contains-cons_cases (link_of_made n m) (turned (link_of_made n m) ∷ links_of_made false (suc n) more) link h) (λ rest. IsMade-from false (suc n) more link rest)
  where
    on_by : (turned (link_of_made n m) ≡ link) ⊎ Contains (links_of_made false (suc n) more) link
        → (Contains (links_of_made false (suc n) more) link → IsMade false (suc n) more link)
        → IsMade false n (m ∷ more) link
    on_by (inl second) on = here false n m more link (inr (refl, sym second))
    on_by (inr rest) on = later false n m more link (on rest)

    by : (link_of_made n m ≡ link) ⊎ Contains (turned (link_of_made n m) ∷ links_of_made false (suc n) more) link
        → (Contains (links_of_made false (suc n) more) link → IsMade false (suc n) more link) → IsMade false n (m ∷ more) link
    by (inl first) on = here false n m more link (inl (sym first))
    by (inr rest) on = on_by (Contains-cons_cases (turned (link_of_made n m)) (links_of_made false (suc n) more) link rest) on

-- each shortcut has its link among them
pub links_of_made-there : (directed : Bool) (n : ℕ) (made : List Made) (k : ℕ) (m : Made) → slice_get made k ≡ Some m
    → Contains (links_of_made directed n made) (link_of_made (n + k) m)
links_of_made-there directed n [] k m at = absurd (let e = at in cc)
links_of_made-there true n (x ∷ more) zero m at =
    let is : x ≡ m = cc in
    let same : n ≡ n + 0 = omega arith in
    subst (λ l. Contains (links_of_made true n (x ∷ more)) l) (ap (λ y. link_of_made n y) is ∙ ap (λ k. link_of_made k m) same)
    (Contains-here (link_of_made n x) (links_of_made true (suc n) more))
links_of_made-there true n (x ∷ more) (suc k) m at =
    let same : suc n + k ≡ n + suc k = omega arith in
    Contains-later (link_of_made n x) (links_of_made true (suc n) more) (link_of_made (n + suc k) m)
    (subst (λ j. Contains (links_of_made true (suc n) more) (link_of_made j m)) same (links_of_made-there true (suc n) more k m at))
links_of_made-there false n (x ∷ more) zero m at =
    let is : x ≡ m = cc in
    let same : n ≡ n + 0 = omega arith in
    subst (λ l. Contains (links_of_made false n (x ∷ more)) l) (ap (λ y. link_of_made n y) is ∙ ap (λ k. link_of_made k m) same)
    (Contains-here (link_of_made n x) (turned (link_of_made n x) ∷ links_of_made false (suc n) more))
links_of_made-there false n (x ∷ more) (suc k) m at =
    let same : suc n + k ≡ n + suc k = omega arith in
    Contains-later (link_of_made n x) (turned (link_of_made n x) ∷ links_of_made false (suc n) more) (link_of_made (n + suc k) m)
    (Contains-later (turned (link_of_made n x)) (links_of_made false (suc n) more) (link_of_made (n + suc k) m)
    (subst (λ j. Contains (links_of_made false (suc n) more) (link_of_made j m)) same (links_of_made-there false (suc n) more k m at)))

-- and in the undirected graph that turned
pub links_of_made-back : (n : ℕ) (made : List Made) (k : ℕ) (m : Made) → slice_get made k ≡ Some m → Contains (links_of_made false n made) (turned (link_of_made (n + k) m))
links_of_made-back n [] k m at = absurd (let e = at in cc)
links_of_made-back n (x ∷ more) zero m at =
    let is : x ≡ m = cc in
    let same : n ≡ n + 0 = omega arith in
    subst (λ l. Contains (links_of_made false n (x ∷ more)) l) (ap (λ y. turned (link_of_made n y)) is ∙ ap (λ k. turned (link_of_made k m)) same)
    (Contains-later (link_of_made n x) (turned (link_of_made n x) ∷ links_of_made false (suc n) more) (turned (link_of_made n x))
    (Contains-here (turned (link_of_made n x)) (links_of_made false (suc n) more)))
links_of_made-back n (x ∷ more) (suc k) m at =
    let same : suc n + k ≡ n + suc k = omega arith in
    Contains-later (link_of_made n x) (turned (link_of_made n x) ∷ links_of_made false (suc n) more) (turned (link_of_made (n + suc k) m))
    (Contains-later (turned (link_of_made n x)) (links_of_made false (suc n) more) (turned (link_of_made (n + suc k) m))
    (subst (λ j. Contains (links_of_made false (suc n) more) (turned (link_of_made j m))) same (links_of_made-back (suc n) more k m at)))
