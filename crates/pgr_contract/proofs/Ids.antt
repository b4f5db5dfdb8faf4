-- Ids can be told apart, and whether a link has one as an end.
use Rattle.std.proofs.Common.{◌≡◌, ◌≢◌, ◌⊎◌, inl, inr, ℤ, Bool, true, false, not, ◌||◌, List, refl, sym, ◌∙◌, ap, arith}
use Rattle.std.specs.List.{Contains}
use Rattle.std.specs.Ordering.{int_eq}
use Rattle.std.specs.Cmp.{signed_Decides}
use Rattle.std.proofs.lemmas.Bool.{true≢false, not-true}
use Rattle.std.specs.Prelude.{◌<ℤ◌}
use Rattle.std.proofs.lemmas.Int.{ints}
use Rattle.pgr_outside.proofs.Lists.{Contains-filter, Contains-from_filter}
use Rattle.pgr_walks.specs.declared.link.LinkOf.{LinkOf}
use Rattle.pgr_contract.specs.State.{touches, without_vertex, without_links_at}

-- two ids are the same or differ
pub same_id : (x y : ℤ) → (x ≡ y) ⊎ (x ≢ y)
same_id x y = by (int_eq x y) refl where
  by : (b : Bool) → int_eq x y ≡ b → (x ≡ y) ⊎ (x ≢ y)
  by true e = inl ((signed_Decides x y).0 e)
  by false e = inr (λ same. true≢false (sym ((signed_Decides x y).1 same) ∙ e))

-- a lesser id is another
pub less_apart : (x y : ℤ) → x <ℤ y → x ≢ y
less_apart x y less same = absurd (omega (arith, ints))

-- what the test of two ids says
pub int_eq-true : (x y : ℤ) → int_eq x y ≡ true → x ≡ y
int_eq-true x y e = (signed_Decides x y).0 e

pub int_eq-false : (x y : ℤ) → int_eq x y ≡ false → x ≢ y
int_eq-false x y e same = true≢false (sym ((signed_Decides x y).1 same) ∙ e)

pub eq-int_eq : (x y : ℤ) → x ≡ y → int_eq x y ≡ true
eq-int_eq x y same = (signed_Decides x y).1 same

pub ne-int_eq : (x y : ℤ) → x ≢ y → int_eq x y ≡ false
ne-int_eq x y differs = by (int_eq x y) refl where
  by : (b : Bool) → int_eq x y ≡ b → int_eq x y ≡ false
  by true e = absurd (differs (int_eq-true x y e))
  by false e = e

-- the test goes both ways
pub int_eq-turned : (x y : ℤ) → int_eq x y ≡ int_eq y x
int_eq-turned x y = by (same_id x y) where
  by : (x ≡ y) ⊎ (x ≢ y) → int_eq x y ≡ int_eq y x
  by (inl same) = eq-int_eq x y same ∙ sym (eq-int_eq y x (sym same))
  by (inr differs) = ne-int_eq x y differs ∙ sym (ne-int_eq y x (λ same. differs (sym same)))

-- a link that doesn't touch a vertex has other ends
pub touches-false : (v : ℤ) (link : LinkOf ℤ) → touches v link ≡ false → (link.from ≢ v) × (link.to ≢ v)
touches-false v link e = by (int_eq link.from v) (int_eq link.to v) refl refl e where
  by : (a b : Bool) → int_eq link.from v ≡ a → int_eq link.to v ≡ b → (a || b) ≡ false → (link.from ≢ v) × (link.to ≢ v)
  by true b p q f = absurd (true≢false f)
  by false true p q f = absurd (true≢false f)
  by false false p q f = (int_eq-false link.from v p, int_eq-false link.to v q)

pub untouched : (v : ℤ) (link : LinkOf ℤ) → link.from ≢ v → link.to ≢ v → touches v link ≡ false
untouched v link from to = ap (λ a. a || int_eq link.to v) (ne-int_eq link.from v from) ∙ ne-int_eq link.to v to

-- and one that does begins or ends there
pub touches-true : (v : ℤ) (link : LinkOf ℤ) → touches v link ≡ true → (link.from ≡ v) ⊎ (link.to ≡ v)
touches-true v link e = by (same_id link.from v) (same_id link.to v) where
  by : (link.from ≡ v) ⊎ (link.from ≢ v) → (link.to ≡ v) ⊎ (link.to ≢ v) → (link.from ≡ v) ⊎ (link.to ≡ v)
  by (inl from) to = inl from
  by (inr from) (inl to) = inr to
  by (inr from) (inr to) = absurd (true≢false (sym e ∙ untouched v link from to))

pub touched_from : (v : ℤ) (link : LinkOf ℤ) → link.from ≡ v → touches v link ≡ true
touched_from v link from = ap (λ a. a || int_eq link.to v) (eq-int_eq link.from v from)

pub touched_to : (v : ℤ) (link : LinkOf ℤ) → link.to ≡ v → touches v link ≡ true
touched_to v link to = by (int_eq link.from v) where
  by : (a : Bool) → (a || int_eq link.to v) ≡ true
  by true = refl
  by false = eq-int_eq link.to v to

-- the links that don't touch v
pub without_links-from : (v : ℤ) (links : List (LinkOf ℤ)) (link : LinkOf ℤ) → Contains (without_links_at v links) link
    → Contains links link × ((link.from ≢ v) × (link.to ≢ v))
without_links-from v links link h =
    let found = Contains-from_filter (λ l. not (touches v l)) links link h in
    (found.0, touches-false v link (not-true (touches v link) found.1))

pub without_links-keeps : (v : ℤ) (links : List (LinkOf ℤ)) (link : LinkOf ℤ) → Contains links link → link.from ≢ v → link.to ≢ v
    → Contains (without_links_at v links) link
without_links-keeps v links link h from to = Contains-filter (λ l. not (touches v l)) links link h (ap not (untouched v link from to))

-- the vertices but v
pub without_vertex-from : (v : ℤ) (vertices : List ℤ) (x : ℤ) → Contains (without_vertex v vertices) x → Contains vertices x × (x ≢ v)
without_vertex-from v vertices x h =
    let found = Contains-from_filter (λ y. not (int_eq y v)) vertices x h in
    (found.0, int_eq-false x v (not-true (int_eq x v) found.1))

pub without_vertex-keeps : (v : ℤ) (vertices : List ℤ) (x : ℤ) → Contains vertices x → x ≢ v → Contains (without_vertex v vertices) x
without_vertex-keeps v vertices x h differs = Contains-filter (λ y. not (int_eq y v)) vertices x h (ap not (ne-int_eq x v differs))
