-- Links that were sorted, each kept once.
use Rattle.std.proofs.Common.{◌≡◌, ◌↔◌, ℤ, List, Bool, true, ◌&&◌, nat_eq, rules, sym, subst, ◌∙◌}
use Rattle.std.specs.Ordering.{int_cmp, int_eq, eq_by_cmp}
use Rattle.std.specs.Cmp.Rules.{comparing}
use Rattle.std.specs.Cmp.{IsEquivalence, Equal-is}
use Rattle.std.specs.List.{Contains, dedup}
use Rattle.std.specs.List.Sorted.{IsSorted, IsPermutation, IsStrictlySortedBy}
use Rattle.std.proofs.lemmas.Cmp.{int_cmp_total, eq_by_cmp_equiv}
use Rattle.std.proofs.lemmas.List.Sorted.{Contains-permutation, IsPermutation-sym}
use Rattle.std.proofs.lemmas.List.Kept.{Contains-dedup, Contains-from_dedup, IsStrictlySortedBy-dedup}
use Rattle.std.proofs.lemmas.Map.Keys.{Less-from_sorted}
use Rattle.pgr_walks.specs.declared.link.LinkOf.{LinkOf}
use Rattle.pgr_walks.specs.Link.{link_cmp}
use Rattle.pgr_walks.specs.Graph.{IsStrictlyRising}
use Rattle.pgr_walks.specs.LinkOrders.{link_total, link_tie, int_tie}

-- links are the same where all their parts are
abbrev same_parts : LinkOf ℤ → LinkOf ℤ → Bool
same_parts x y = int_eq x.from y.from && (int_eq x.edge y.edge && (nat_eq x.cost y.cost && int_eq x.to y.to))

pub parts_tie : (x y : LinkOf ℤ) → same_parts x y ≡ eq_by_cmp (link_cmp int_cmp) x y
parts_tie x y = search (comparing, rules)

module _ (same : LinkOf ℤ → LinkOf ℤ → Bool) (ties : (x y : LinkOf ℤ) → same x y ≡ eq_by_cmp (link_cmp int_cmp) x y) where
  same_is_equality : (x y : LinkOf ℤ) → same x y ≡ true → x ≡ y
  same_is_equality x y e = link_tie int_cmp int_tie x y ((Equal-is _).0 (sym (ties x y) ∙ e))

  same_equivalence : IsEquivalence same
  same_equivalence = let e = eq_by_cmp_equiv (link_total int_cmp int_cmp_total) in record {
    refl = λ x. ties x x ∙ e.refl x;
    symm = λ x y. ties x y ∙ (e.symm x y ∙ sym (ties y x));
    congr = λ x y z h. ties x z ∙ (e.congr x y z (sym (ties x y) ∙ h) ∙ sym (ties y z));
  }

  -- a sort and a `dedup` keep the links
  pub links_kept : (all links sorted last : List (LinkOf ℤ)) → links ≡ all → IsPermutation links sorted → last ≡ dedup same sorted → (link : LinkOf ℤ)
      → Contains last link ↔ Contains all link
  links_kept all links sorted last is moved last_is link =
      let P : List (LinkOf ℤ) → Type 0 = λ ls. Contains ls link in (
        λ h. subst P is (Contains-permutation sorted links link (IsPermutation-sym links sorted moved) (Contains-from_dedup same sorted link (subst P last_is h))),
        λ h. subst P (sym last_is)
            (Contains-dedup same_equivalence same_is_equality sorted link (Contains-permutation links sorted link moved (subst P (sym is) h))),
      )

  -- and leave them rising strictly
  pub links_rise : (sorted last : List (LinkOf ℤ)) → IsSorted (link_cmp int_cmp) sorted → last ≡ dedup same sorted → IsStrictlyRising (link_cmp int_cmp) last
  links_rise sorted last in_order last_is i j d before inside =
      let P : List (LinkOf ℤ) → Type 0 = IsStrictlySortedBy (link_cmp int_cmp) in
      Less-from_sorted (link_cmp int_cmp) last i j d (subst P (sym last_is) (IsStrictlySortedBy-dedup (link_total int_cmp int_cmp_total) ties sorted in_order)) before inside
