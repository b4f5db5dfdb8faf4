-- The links of a table, as they are listed and once they are sorted; and a sort and a `dedup` of links.
use Rattle.std.proofs.Common.{◌≡◌, ◌↔◌, ℤ, List, map, Bool, true, ◌&&◌, nat_eq, rules, sym, subst, ◌∙◌}
use Rattle.std.specs.Ordering.{int_cmp, int_eq, eq_by_cmp}
use Rattle.std.specs.Cmp.Rules.{comparing}
use Rattle.std.specs.Cmp.{IsEquivalence, Equal-is}
use Rattle.std.specs.List.{Contains, dedup}
use Rattle.std.specs.List.Sorted.{IsSorted, IsPermutation, IsStrictlySortedBy}
use Rattle.std.proofs.lemmas.Cmp.{int_cmp_total, eq_by_cmp_equiv}
use Rattle.std.proofs.lemmas.List.Sorted.{Contains-permutation, IsPermutation-sym}
use Rattle.std.proofs.lemmas.List.Kept.{IsStrictlySortedBy-dedup}
use Rattle.std.proofs.lemmas.Map.Keys.{Less-from_sorted}
use Rattle.pgr_outside.specs.Lists.{IsWithoutRepeats}
use Rattle.pgr_walks.specs.declared.link.LinkOf.{LinkOf}
use Rattle.pgr_walks.specs.Link.{link_cmp}
use Rattle.pgr_walks.specs.Graph.{IsStrictlyRising}
use Rattle.pgr_walks.specs.LinkOrders.{link_total, link_tie, int_tie}
use Rattle.pgr_walks.proofs.Repeats.{Apart, IsWithoutRepeats-from_Apart}
use Rattle.pgr_table.specs.declared.row.EdgeRow.{EdgeRow}
use Rattle.pgr_graph.specs.Links.{IsLinkOfTable}
use Rattle.pgr_graph.specs.RowLinks.{links_of_rows}
use Rattle.pgr_graph.proofs.RowLinks.{rows_apart, table_from_rows, rows_from_table}

-- links are the same where all their parts are
abbrev same_parts : LinkOf ℤ → LinkOf ℤ → Bool
same_parts x y = int_eq x.from y.from && (int_eq x.edge y.edge && (nat_eq x.cost y.cost && int_eq x.to y.to))

pub parts_tie : (x y : LinkOf ℤ) → same_parts x y ≡ eq_by_cmp (link_cmp int_cmp) x y
parts_tie x y = search (comparing, rules)

module _ (same : LinkOf ℤ → LinkOf ℤ → Bool) (ties : (x y : LinkOf ℤ) → same x y ≡ eq_by_cmp (link_cmp int_cmp) x y) where
  pub same_is_equality : (x y : LinkOf ℤ) → same x y ≡ true → x ≡ y
  same_is_equality x y e = link_tie int_cmp int_tie x y ((Equal-is _).0 (sym (ties x y) ∙ e))

  pub same_equivalence : IsEquivalence same
  same_equivalence = let e = eq_by_cmp_equiv (link_total int_cmp int_cmp_total) in record {
    refl = λ x. ties x x ∙ e.refl x;
    symm = λ x y. ties x y ∙ (e.symm x y ∙ sym (ties y x));
    congr = λ x y z h. ties x z ∙ (e.congr x y z (sym (ties x y) ∙ h) ∙ sym (ties y z));
  }

  -- a sort and a `dedup` leave links rising strictly
  pub links_rise : (sorted last : List (LinkOf ℤ)) → IsSorted (link_cmp int_cmp) sorted → last ≡ dedup same sorted → IsStrictlyRising (link_cmp int_cmp) last
  links_rise sorted last in_order last_is i j d before inside =
      let P : List (LinkOf ℤ) → Type 0 = IsStrictlySortedBy (link_cmp int_cmp) in
      Less-from_sorted (link_cmp int_cmp) last i j d (subst P (sym last_is) (IsStrictlySortedBy-dedup (link_total int_cmp int_cmp_total) ties sorted in_order)) before inside

-- the links of the rows are those of the table, each once
module _ (directed : Bool) (rows : List EdgeRow) (links : List (LinkOf ℤ)) (made : links ≡ links_of_rows directed rows) where
  pub links_exact : (link : LinkOf ℤ) → Contains links link ↔ IsLinkOfTable rows directed link
  links_exact link = let P : List (LinkOf ℤ) → Type 0 = λ list. Contains list link in (
    λ h. table_from_rows directed rows link (subst P made h),
    λ h. subst P (sym made) (rows_from_table directed rows link h),
  )

  pub links_once : IsWithoutRepeats (map (λ (r : EdgeRow). r.id) rows) → IsWithoutRepeats links
  links_once ids = IsWithoutRepeats-from_Apart links (subst (λ (list : List (LinkOf ℤ)). Apart list) (sym made) (rows_apart directed rows ids))

-- a sort keeps them
pub links_kept : (directed : Bool) (rows : List EdgeRow) (links sorted : List (LinkOf ℤ)) → ((link : LinkOf ℤ) → Contains links link ↔ IsLinkOfTable rows directed link)
    → IsPermutation links sorted → (link : LinkOf ℤ) → Contains sorted link ↔ IsLinkOfTable rows directed link
links_kept directed rows links sorted are moved link = (
  λ h. (are link).0 (Contains-permutation sorted links link (IsPermutation-sym links sorted moved) h),
  λ h. Contains-permutation links sorted link moved ((are link).1 h),
)
