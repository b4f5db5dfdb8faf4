-- Links taken both ways, and the names of the ends of spans.
use Rattle.std.proofs.Common.{◌≡◌, ◌⊎◌, inl, inr, ⊎_elim, ℕ, zero, suc, ◌<◌, List, get_or, map, ℤ, refl, sym, subst, ◌∙◌, ap, arith}
use Rattle.std.specs.List.{All, Contains, flat_map}
use Rattle.std.specs.List.Sorted.{IsPermutation, IsNonDecreasingBy}
use Rattle.std.proofs.lemmas.List.Elements.{Contains-get_or, All-contains}
use Rattle.std.proofs.lemmas.List.Sorted.{Contains-permutation, IsPermutation-sym}
use Rattle.pgr_walks.specs.declared.link.LinkOf.{LinkOf}
use Rattle.pgr_walks.specs.Walk.{IsVertex}
use Rattle.pgr_numbers.specs.Names.{AreEnds}
use Rattle.pgr_spans.specs.declared.span.Span.{Span}
use Rattle.pgr_spans.specs.declared.arrow.Arrow.{Arrow}
use Rattle.pgr_spans.specs.Linked.{IsEndOf}
use Rattle.pgr_spans.specs.Lists.{AreEndsOf}
use Rattle.pgr_spans.specs.Exploring.{HasPlacesBelow}
use Rattle.pgr_spans.specs.Network.{link_of, both_ways, AreArrows}
use Rattle.pgr_outside.proofs.Lists.{Contains-map, Contains-from_map, Contains-flat_map, Contains-from_flat_map}

-- the ends of links of spans are the ends of the spans
pub ends_of_spans : (spans : List Span) (names : List ℤ) → AreEnds (map link_of spans) names → AreEndsOf spans names
ends_of_spans spans names are = record {
  rise = are.rise;
  each = λ id. (
    (λ has. from id ((are.ends id).0 has)),
    (λ (s, s_has, end). (are.ends id).1 (link_of s, Contains-map link_of spans s s_has, end)),
  );
} where
  from : (id : ℤ) → IsVertex (Contains (map link_of spans)) id → IsEndOf spans id
  from id (link, has, end) =
      let (s, s_has, is) = Contains-from_map link_of spans link has in
      (s, s_has, ⊎_elim (λ at. inl (at ∙ ap (λ l. l.from) is)) (λ at. inr (at ∙ ap (λ l. l.to) is)) end)

module _ (size : ℕ) (links : List (LinkOf ℕ)) (below : All (λ link. (link.from < size) × (link.to < size)) links) (given arrows : List Arrow)
    (are : given ≡ flat_map both_ways links) (moved : IsPermutation given arrows) where
  -- what a link gives is there
  has_arrow : (link : LinkOf ℕ) (arrow : Arrow) → Contains links link → Contains (both_ways link) arrow → Contains arrows arrow
  has_arrow link arrow has among =
      Contains-permutation given arrows arrow moved (subst (λ xs. Contains xs arrow) (sym are) (Contains-flat_map both_ways links link arrow has among))

  -- and what is there is of a link
  from_link : (v w : ℕ) → Contains arrows (record { from = v; to = w })
      → (link : LinkOf ℕ) × Contains links link × (((link.from ≡ v) × (link.to ≡ w)) ⊎ ((link.from ≡ w) × (link.to ≡ v)))
  from_link v w has =
      let arrow : Arrow = record { from = v; to = w } in
      let (link, link_has, among) = Contains-from_flat_map both_ways links arrow
      (subst (λ xs. Contains xs arrow) are (Contains-permutation arrows given arrow (IsPermutation-sym given arrows moved) has)) in
      (link, link_has, by link among) where
        by : (link : LinkOf ℕ) → Contains (both_ways link) (record { from = v; to = w }) → ((link.from ≡ v) × (link.to ≡ w)) ⊎ ((link.from ≡ w) × (link.to ≡ v))
        by link (zero, inside, is) = inl (ap (λ a. a.from) is, ap (λ a. a.to) is)
        by link (suc zero, inside, is) = inr (ap (λ a. a.to) is, ap (λ a. a.from) is)
        by link (suc (suc k), inside, is) = absurd (omega arith)

  -- sorted, they are the arrows of the links
  pub are_arrows : IsNonDecreasingBy (λ arrow. arrow.from) arrows → AreArrows size links arrows
  are_arrows sorted = record {
    sorted = sorted;
    below = λ k d inside. bounds (get_or arrows k d) (from_link (get_or arrows k d).from (get_or arrows k d).to (Contains-get_or arrows k d inside));
    back = λ v w has. back v w (from_link v w has);
    along = λ link has. has_arrow link (record { from = link.from; to = link.to }) has (0, omega arith, refl);
    only = from_link;
  } where
    bounds : (arrow : Arrow) → (link : LinkOf ℕ) × Contains links link × (((link.from ≡ arrow.from) × (link.to ≡ arrow.to)) ⊎ ((link.from ≡ arrow.to) × (link.to ≡ arrow.from)))
        → HasPlacesBelow size arrow
    bounds arrow (link, has, inl (from, to)) =
        let b = All-contains (λ l. (l.from < size) × (l.to < size)) links link below has in
        (subst (λ n. n < size) from b.0, subst (λ n. n < size) to b.1)
    bounds arrow (link, has, inr (from, to)) =
        let b = All-contains (λ l. (l.from < size) × (l.to < size)) links link below has in
        (subst (λ n. n < size) to b.1, subst (λ n. n < size) from b.0)

    back : (v w : ℕ) → (link : LinkOf ℕ) × Contains links link × (((link.from ≡ v) × (link.to ≡ w)) ⊎ ((link.from ≡ w) × (link.to ≡ v)))
        → Contains arrows (record { from = w; to = v })
    back v w (link, has, inl (from, to)) =
        subst (λ n. Contains arrows (record { from = n; to = v })) to
        (subst (λ n. Contains arrows (record { from = link.to; to = n })) from (has_arrow link (record { from = link.to; to = link.from }) has (1, omega arith, refl)))
    back v w (link, has, inr (from, to)) =
        subst (λ n. Contains arrows (record { from = n; to = v })) from
        (subst (λ n. Contains arrows (record { from = link.from; to = n })) to (has_arrow link (record { from = link.from; to = link.to }) has (0, omega arith, refl)))
