-- Links once sorted and without repeats: the same links, each once.
use Rattle.std.proofs.Common.{◌≡◌, ℕ, ◌↔◌, List, Bool, true, ◌&&◌, nat_eq, rules, sym, subst, ◌∙◌}
use Rattle.std.specs.Ordering.{nat_cmp, int_eq, eq_by_cmp}
use Rattle.std.specs.Cmp.Rules.{comparing}
use Rattle.std.specs.Cmp.{IsEquivalence, Equal-is}
use Rattle.std.specs.List.{Contains, dedup}
use Rattle.std.specs.List.Sorted.{IsSorted, IsPermutation, IsStrictlySortedBy}
use Rattle.std.proofs.lemmas.Cmp.{nat_cmp_total, eq_by_cmp_equiv}
use Rattle.std.proofs.lemmas.List.Sorted.{Contains-permutation, IsPermutation-sym}
use Rattle.std.proofs.lemmas.List.Kept.{Contains-dedup, Contains-from_dedup, IsStrictlySortedBy-dedup}
use Rattle.std.proofs.lemmas.Map.Keys.{Less-from_sorted}
use Rattle.pgr_walks.specs.declared.link.LinkOf.{LinkOf}
use Rattle.pgr_walks.specs.Link.{link_cmp}
use Rattle.pgr_walks.specs.Walk.{IsWithoutRepeats}
use Rattle.pgr_walks.specs.Graph.{IsStrictlyRising}
use Rattle.pgr_walks.specs.LinkOrders.{link_total, link_tie, nat_tie}
use Rattle.pgr_walks.proofs.Repeats.{IsWithoutRepeats-from_Apart}
use Rattle.pgr_turns.proofs.Counting.{apart_rising}

-- links are the same where all their parts are
abbrev same_parts : LinkOf ℕ → LinkOf ℕ → Bool
same_parts x y = nat_eq x.from y.from && (int_eq x.edge y.edge && (nat_eq x.cost y.cost && nat_eq x.to y.to))

pub parts_tie : (x y : LinkOf ℕ) → same_parts x y ≡ eq_by_cmp (link_cmp nat_cmp) x y
parts_tie x y = search (comparing, rules)

module _ (same : LinkOf ℕ → LinkOf ℕ → Bool) (ties : (x y : LinkOf ℕ) → same x y ≡ eq_by_cmp (link_cmp nat_cmp) x y) where
  same_is_equality : (x y : LinkOf ℕ) → same x y ≡ true → x ≡ y
  same_is_equality x y e = link_tie nat_cmp nat_tie x y ((Equal-is _).0 (sym (ties x y) ∙ e))

  same_equivalence : IsEquivalence same
  same_equivalence = let e = eq_by_cmp_equiv (link_total nat_cmp nat_cmp_total) in record {
    refl = λ x. ties x x ∙ e.refl x;
    symm = λ x y. ties x y ∙ (e.symm x y ∙ sym (ties y x));
    congr = λ x y z h. ties x z ∙ (e.congr x y z (sym (ties x y) ∙ h) ∙ sym (ties y z));
  }

  pub kept_by : (links sorted last : List (LinkOf ℕ)) → IsPermutation links sorted → last ≡ dedup same sorted → (link : LinkOf ℕ) → Contains links link ↔ Contains last link
  kept_by links sorted last moved last_is link =
      let P : List (LinkOf ℕ) → Type 0 = λ ls. Contains ls link in (
        λ h. subst P (sym last_is) (Contains-dedup same_equivalence same_is_equality sorted link (Contains-permutation links sorted link moved h)),
        λ h. Contains-permutation sorted links link (IsPermutation-sym links sorted moved) (Contains-from_dedup same sorted link (subst P last_is h)),
      )

  pub once_by : (sorted last : List (LinkOf ℕ)) → IsSorted (link_cmp nat_cmp) sorted → last ≡ dedup same sorted → IsWithoutRepeats last
  once_by sorted last in_order last_is =
      let P : List (LinkOf ℕ) → Type 0 = IsStrictlySortedBy (link_cmp nat_cmp) in
      let rising : IsStrictlyRising (link_cmp nat_cmp) last = λ i j d before inside. Less-from_sorted (link_cmp nat_cmp) last i j d
      (subst P (sym last_is) (IsStrictlySortedBy-dedup (link_total nat_cmp nat_cmp_total) ties sorted in_order)) before inside in
      IsWithoutRepeats-from_Apart last (apart_rising (link_cmp nat_cmp) (link_total nat_cmp nat_cmp_total) last rising)
