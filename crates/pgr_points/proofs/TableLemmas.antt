-- The parts of all rows, sorted and without repeats, are the pointed links, each once and rising.
use Rattle.std.proofs.Common.{◌≡◌, ℕ, ◌↔◌, ℤ, Bool, ◌+◌, List, [], ◌++◌, take, Some, slice_get, refl, sym, subst}
use Rattle.std.specs.Ordering.{int_cmp, eq_by_cmp}
use Rattle.std.specs.List.{Any, Contains, All, dedup, flat_map}
use Rattle.std.specs.List.Sorted.{IsPermutation}
use Rattle.std.proofs.lemmas.List.Sorted.{Contains-permutation, IsPermutation-sym}
use Rattle.std.proofs.lemmas.List.Kept.{Contains-dedup, Contains-from_dedup}
use Rattle.pgr_outside.specs.Lists.{IsStrictlyRising}
use Rattle.pgr_outside.specs.declared.side.Side.{Side}
use Rattle.pgr_walks.specs.declared.link.LinkOf.{LinkOf}
use Rattle.pgr_walks.specs.Link.{link_cmp}
use Rattle.pgr_walks.proofs.Repeats.{Among}
use Rattle.pgr_table.specs.declared.row.EdgeRow.{EdgeRow}
use Rattle.pgr_table.specs.declared.row.PointRow.{PointRow}
use Rattle.pgr_table.specs.Points.{IsPoint}
use Rattle.pgr_points.specs.Pointed.{IsPartOfRow, IsPointed}
use Rattle.pgr_points.specs.Places.{place_cmp}
use Rattle.pgr_points.specs.Senses.{points_of, parts_of_row}
use Rattle.pgr_walks.proofs.Membership.{Among-flat_map, Among-from_flat_map, Among-from_Contains, Contains-from_Among}
use Rattle.pgr_points.proofs.Lists.{flat_map_one_more}
use Rattle.pgr_graph.proofs.TableLinks.{same_is_equality, same_equivalence}
use Rattle.pgr_points.proofs.RowLemmas.{row_from, row_to}

-- some element has the property, by cases on the list
pub Any-from_Among : {X : Type 0} (P : X → Type 0) (xs : List X) (x : X) → Among x xs → P x → Any P xs
Any-from_Among P xs x h p = let k = Contains-from_Among x xs h in (k.0, x, k.1, k.2, p)

pub Among-from_Any : {X : Type 0} (P : X → Type 0) (xs : List X) → (h : Any P xs) → Among h.1 xs
Among-from_Any P xs h = Among-from_Contains h.1 xs (h.0, h.2, h.3)

-- the parts of all rows, where these are the points by place
pub parts_of_rows : Side → Bool → List PointRow → List EdgeRow → List (LinkOf ℤ)
parts_of_rows driving directed placed rows = flat_map (λ (row : EdgeRow). parts_of_row driving directed row (points_of row.id placed)) rows

-- of no rows, and of one row more
pub no_rows : (driving : Side) (directed : Bool) (placed : List PointRow) (rows : List EdgeRow) → [] ≡ parts_of_rows driving directed placed (take 0 rows)
unfolding parts_of_rows
no_rows driving directed placed rows = refl

pub rows_more : (driving : Side) (directed : Bool) (placed : List PointRow) (rows : List EdgeRow) (i : ℕ) (row : EdgeRow) (before after : List (LinkOf ℤ))
    → slice_get rows i ≡ Some row
    → before ≡ parts_of_rows driving directed placed (take i rows) → after ≡ before ++ parts_of_row driving directed row (points_of row.id placed)
    → after ≡ parts_of_rows driving directed placed (take (i + 1) rows)
unfolding parts_of_rows
rows_more driving directed placed rows i row before after here so_far step =
    flat_map_one_more (λ (r : EdgeRow). parts_of_row driving directed r (points_of r.id placed)) rows i row before after here so_far step

module _ (points : List PointRow) (driving : Side) (directed : Bool) (placed : List PointRow) (rise : IsStrictlyRising place_cmp placed) (good : All IsPoint placed)
    (moved : IsPermutation points placed) (rows : List EdgeRow) (link : LinkOf ℤ) where
  there : (x : PointRow) → Among x points → Among x placed
  there x h = Among-from_Contains x placed (Contains-permutation points placed x moved (Contains-from_Among x points h))

  back : (x : PointRow) → Among x placed → Among x points
  back x h = Among-from_Contains x points (Contains-permutation placed points x (IsPermutation-sym points placed moved) (Contains-from_Among x placed h))

  pointed_from : Among link (parts_of_rows driving directed placed rows) → IsPointed rows points driving directed link
  unfolding parts_of_rows
  pointed_from h =
      let r = Among-from_flat_map (λ (row : EdgeRow). parts_of_row driving directed row (points_of row.id placed)) rows link h in
      Any-from_Among (λ row. IsPartOfRow points driving directed row link) rows r.0 r.1.0 (row_from points driving r.0 link placed rise good there back directed r.1.1)

  pointed_to : IsPointed rows points driving directed link → Among link (parts_of_rows driving directed placed rows)
  unfolding parts_of_rows
  pointed_to h =
      Among-flat_map (λ (row : EdgeRow). parts_of_row driving directed row (points_of row.id placed)) rows h.1 link
      (Among-from_Any (λ row. IsPartOfRow points driving directed row link) rows h) (row_to points driving h.1 link placed rise good there back directed h.4)

module _ (same : LinkOf ℤ → LinkOf ℤ → Bool) (ties : (x y : LinkOf ℤ) → same x y ≡ eq_by_cmp (link_cmp int_cmp) x y) where
  -- a sort and a `dedup` keep the links
  pub links_kept : (points : List PointRow) (driving : Side) (directed : Bool) (placed : List PointRow) (rise : IsStrictlyRising place_cmp placed) (good : All IsPoint placed)
      (moved : IsPermutation points placed) (rows : List EdgeRow) (links sorted last : List (LinkOf ℤ)) → links ≡ parts_of_rows driving directed placed rows
      → IsPermutation links sorted → last ≡ dedup same sorted → (link : LinkOf ℤ) → Contains last link ↔ IsPointed rows points driving directed link
  links_kept points driving directed placed rise good moved rows links sorted last are sorted_is last_is link =
      let P : List (LinkOf ℤ) → Type 0 = λ ls. Contains ls link in
      let Q : List (LinkOf ℤ) → Type 0 = λ ls. Among link ls in (
        λ h. pointed_from points driving directed placed rise good moved rows link (subst Q are (Among-from_Contains link links
            (Contains-permutation sorted links link (IsPermutation-sym links sorted sorted_is) (Contains-from_dedup same sorted link (subst P last_is h))))),
        λ h. subst P (sym last_is) (Contains-dedup (same_equivalence same ties) (same_is_equality same ties) sorted link (Contains-permutation links sorted link sorted_is
            (Contains-from_Among link links (subst Q (sym are) (pointed_to points driving directed placed rise good moved rows link h))))),
      )
