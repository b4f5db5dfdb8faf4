-- Points are noted row by row: the first row that names a vertex decides.
use Rattle.std.proofs.Common.{◌≡◌, ℕ, zero, suc, ◌+◌, ◌<◌, ◌≤◌, ◌⊎◌, inl, inr, Bool, true, false, cond, ◌||◌, List, [], ◌∷◌, ◌++◌, Option, Some, None, IsSome, IfSome, Contains, All, length, get_or, set, take, replicate, ℤ, pos, refl, sym, ap, ◌∙◌, subst, arith}
use Rattle.std.specs.Ordering.{int_eq}
use Rattle.std.specs.List.{find, slice_get}
use Rattle.std.specs.Option.{option_or, option_map, option_and_then, IsSomeAnd}
use Rattle.std.proofs.lemmas.Bool.{false≢true, cases_eq}
use Rattle.std.proofs.lemmas.Bool.Decides.{Decides-int_eq}
use Rattle.std.proofs.lemmas.Option.{none-some, same_Some, get_or_from_slice_get}
use Rattle.std.proofs.lemmas.List.{get_or-set_same, get_or-set_other, get_or_default, get_or-replicate, length-replicate, take_more}
use Rattle.std.proofs.lemmas.List.Elements.{All-take}
use Rattle.std.proofs.lemmas.List.Folds.{find-append}
use Rattle.pgr_numbers.specs.Names.{id_at}
use Rattle.pgr_table.specs.Edges.{HasPlaces, IsPlace, IsCoordinate}
use Rattle.pgr_table.specs.declared.row.EdgeRow.{EdgeRow}
use Rattle.pgr_table.specs.declared.row.Place.{Place}
use Rattle.pgr_astar.specs.declared.point.Point.{Point}
use Rattle.pgr_astar.specs.Points.{IsInPlane, IsNamedIn, first_point, second_point, names_vertex, point_in, point_of}
use Rattle.pgr_astar.specs.Pointing.{point_by, Notes, ArePoints}

-- what an option has
has_some : {X : Type 0} (o : Option X) → IsSome o → (x : X) × (o ≡ Some x)
has_some None e = absurd (false≢true e)
has_some (Some x) e = (x, refl)

-- the point that a row with a place has for a vertex
point_there : (v : ℤ) (row : EdgeRow) (place : Place) → row.place ≡ Some place → point_in v row ≡ Some ((cond (int_eq row.source v) first_point second_point) place)
point_there v row place e = ap (option_map (cond (int_eq row.source v) first_point second_point)) e

-- the point of a vertex by a row more
module _ (v : ℤ) (rows : List EdgeRow) (row : EdgeRow) (places : HasPlaces rows) where
  found_in : (found : Option EdgeRow) → ((r : EdgeRow) → found ≡ Some r → IsSome r.place)
      → option_and_then (point_in v) (option_or found (find (names_vertex v) (row ∷ []))) ≡ option_or (option_and_then (point_in v) found) (point_by row v)
  found_in None has = at (names_vertex v row)
    where
      at : (b : Bool) → option_and_then (point_in v) (cond b (Some row) None) ≡ cond b (point_in v row) None
      at true = refl
      at false = refl
  found_in (Some r) has =
      let place = has_some r.place (has r refl) in
      let there = point_there v r place.0 place.1 in
      there ∙ sym (ap (λ o. option_or o (point_by row v)) there)

  find_has : (xs : List EdgeRow) → HasPlaces xs → (r : EdgeRow) → find (names_vertex v) xs ≡ Some r → IsSome r.place
  find_has [] all r e = absurd (none-some r e)
  find_has (x ∷ xs) all r e = at (names_vertex v x) e (find_has xs (λ k d below. all (suc k) d (omega arith)) r)
    where
      at : (b : Bool) → cond b (Some x) (find (names_vertex v) xs) ≡ Some r → (find (names_vertex v) xs ≡ Some r → IsSome r.place) → IsSome r.place
      at true is later = subst (λ (y : EdgeRow). IsSome y.place) (same_Some x r is) (all 0 x (omega arith))
      at false is later = later is

  pub point_of-more : point_of (rows ++ row ∷ []) v ≡ option_or (point_of rows v) (point_by row v)
  point_of-more = ap (option_and_then (point_in v)) (find-append (names_vertex v) rows (row ∷ [])) ∙ found_in (find (names_vertex v) rows) (find_has rows places)

-- both ends of a row that has a place, one after the other
pub both_ends : (old : Option Point) (row : EdgeRow) (place : Place) (v : ℤ) → row.place ≡ Some place
    → option_or (option_or old (cond (int_eq row.source v) (Some (first_point place)) None)) (cond (int_eq row.target v) (Some (second_point place)) None) ≡ option_or old
    (point_by row v)
both_ends (Some point) row place v e = refl
both_ends None row place v e = at (int_eq row.source v) (int_eq row.target v) refl
  where
    at : (s t : Bool) → int_eq row.source v ≡ s → option_or (cond s (Some (first_point place)) None) (cond t (Some (second_point place)) None) ≡ cond (s || t) (point_in v row) None
    at true t is = sym (point_there v row place e ∙ ap (λ b. Some ((cond b first_point second_point) place)) is)
    at false true is = sym (point_there v row place e ∙ ap (λ b. Some ((cond b first_point second_point) place)) is)
    at false false is = refl

-- noting the point of an id
module _ (names : List ℤ) (points : List (Option Point)) (id : ℤ) (point : Point) (size : length points ≡ length names) where
  abbrev given : ℤ → Option Point
  given v = cond (int_eq id v) (Some point) None

  nothing_given : (v : ℤ) → (v ≡ id → ⊥) → given v ≡ None
  nothing_given v differs = at (int_eq id v) refl
    where
      at : (b : Bool) → int_eq id v ≡ b → cond b (Some point) None ≡ None
      at true e = absurd (differs (sym ((Decides-int_eq id v).0 e)))
      at false e = refl

  or_none : (o : Option Point) → option_or o None ≡ o
  or_none None = refl
  or_none (Some p) = refl

  stays : (v : ℕ) → given (id_at names v) ≡ None → get_or points v None ≡ option_or (get_or points v None) (given (id_at names v))
  stays v e = sym (ap (option_or (get_or points v None)) e ∙ or_none (get_or points v None))

  -- an id that is no name
  pub note_none : (Contains names id → ⊥) → Notes names given points points
  note_none absent v below = stays v (nothing_given (id_at names v) (λ same. absent (v, below, get_default v below ∙ same)))
    where
      get_default : (v : ℕ) → v < length names → get_or names v id ≡ id_at names v
      get_default v below = get_or_default names v id _ below

  module _ (n : ℕ) (n_below : n < length names) (is : id_at names n ≡ id) (one : (v : ℕ) → v < length names → id_at names v ≡ id → v ≡ n) where
    -- one that has a point
    pub note_again : (old : Point) → get_or points n None ≡ Some old → Notes names given points points
    note_again old e v below = at (cases_eq v n)
      where
        at : (v ≡ n) ⊎ (v ≡ n → ⊥) → get_or points v None ≡ option_or (get_or points v None) (given (id_at names v))
        at (inl same) = let there : get_or points v None ≡ Some old = ap (λ k. get_or points k None) same ∙ e in there ∙ sym (ap (λ o. option_or o (given (id_at names v))) there)
        at (inr differs) = stays v (nothing_given (id_at names v) (λ same. differs (one v below same)))

    -- one that has none
    pub note_first : get_or points n None ≡ None → Notes names given points (set points n (Some point))
    note_first e v below = at (cases_eq v n)
      where
        here : given id ≡ Some point
        here = ap (λ b. cond b (Some point) None) ((Decides-int_eq id id).1 refl)

        at : (v ≡ n) ⊎ (v ≡ n → ⊥) → get_or (set points n (Some point)) v None ≡ option_or (get_or points v None) (given (id_at names v))
        at (inl same) =
            let new : get_or (set points n (Some point)) v None ≡ Some point =
            ap (λ k. get_or (set points n (Some point)) k None) same ∙ get_or-set_same points n (Some point) None (omega (arith, n_below, size)) in
            let old : get_or points v None ≡ None = ap (λ k. get_or points k None) same ∙ e in
            let named : id_at names v ≡ id = ap (id_at names) same ∙ is in
            new ∙ sym (ap (λ o. option_or o (given (id_at names v))) old ∙ ap given named ∙ here)
        at (inr differs) = get_or-set_other points n v (Some point) None differs ∙ stays v (nothing_given (id_at names v) (λ same. differs (one v below same)))

-- a vertex that some row names has a point, in the plane
pub has_point : (rows : List EdgeRow) (v : ℤ) → HasPlaces rows → All (λ row. IfSome row.place IsPlace) rows → IsNamedIn rows v → IsSomeAnd (point_of rows v) IsInPlane
has_point [] v places in_plane (row, (k, below, is), named) = absurd (omega (arith, below))
has_point (row ∷ rows) v places in_plane named =
    at (names_vertex v row) refl (has_point rows v (λ k d below. places (suc k) d (omega arith)) (λ k d below. in_plane (suc k) d (omega arith)))
  where
    in_row : (place : Place) → row.place ≡ Some place → IsPlace place → IsSomeAnd (point_in v row) IsInPlane
    in_row place e p = subst (λ o. IsSomeAnd o IsInPlane) (sym (point_there v row place e)) (of_end (int_eq row.source v))
      where
        of_end : (b : Bool) → IsInPlane ((cond b first_point second_point) place)
        of_end true = (p.x1, p.y1)
        of_end false = (p.x2, p.y2)

    here : IsSomeAnd (point_in v row) IsInPlane
    here =
        let place = has_some row.place (places 0 row (omega arith)) in
        in_row place.0 place.1 (subst (λ o. IfSome o IsPlace) place.1 (in_plane 0 row (omega arith)))

    names : (r : EdgeRow) → (r.source ≡ v) ⊎ (r.target ≡ v) → names_vertex v r ≡ true
    names r (inl e) = ap (λ b. b || int_eq r.target v) ((Decides-int_eq r.source v).1 e)
    names r (inr e) = at_target (int_eq r.source v)
      where
        at_target : (b : Bool) → (b || int_eq r.target v) ≡ true
        at_target true = refl
        at_target false = (Decides-int_eq r.target v).1 e

    later : names_vertex v row ≡ false → IsNamedIn rows v
    later e = from named.0 named.1 named.2
      where
        from : (r : EdgeRow) → Contains (row ∷ rows) r → (r.source ≡ v) ⊎ (r.target ≡ v) → IsNamedIn rows v
        from r (zero, below, is) n = absurd (false≢true (sym e ∙ ap (names_vertex v) is ∙ names r n))
        from r (suc k, below, is) n = (r, (k, omega arith, is), n)

    at : (b : Bool) → names_vertex v row ≡ b → (IsNamedIn rows v → IsSomeAnd (point_of rows v) IsInPlane)
        → IsSomeAnd (option_and_then (point_in v) (cond b (Some row) (find (names_vertex v) rows))) IsInPlane
    at true e rest = here
    at false e rest = rest (later e)

-- the points of names by a row more
pub points_more : (rows : List EdgeRow) (names : List ℤ) (points after : List (Option Point)) (row : EdgeRow) → HasPlaces rows → ArePoints rows names points
    → length after ≡ length points → Notes names (point_by row) points after → ArePoints (rows ++ row ∷ []) names after
points_more rows names points after row places are size notes = record {
  size = size ∙ are.size;
  point = λ v below. notes v below ∙ ap (λ o. option_or o (point_by row (id_at names v))) (are.point v below) ∙ sym (point_of-more (id_at names v) rows row places);
}

-- with no row there is none
pub points_none : (names : List ℤ) (n : ℕ) → n ≡ length names → ArePoints [] names (replicate n None)
points_none names n e = record {
  size = length-replicate n None ∙ e;
  point = λ v below. get_or-replicate n v None None (omega (arith, below, e));
}

-- each name that some row names has its point, in the plane
pub all_points : (rows : List EdgeRow) (names : List ℤ) (points : List (Option Point)) → HasPlaces rows → All (λ row. IfSome row.place IsPlace) rows
    → All (IsNamedIn rows) names → ArePoints rows names points → (v : ℕ) → v < length names → IsSomeAnd (get_or points v None) IsInPlane
all_points rows names points places in_plane named are v below =
    subst (λ o. IsSomeAnd o IsInPlane) (sym (are.point v below)) (has_point rows (id_at names v) places in_plane (named v (pos 0) below))

-- a row at its place has a place in the plane
pub row_placed : (rows : List EdgeRow) (i : ℕ) (row : EdgeRow) → HasPlaces rows → slice_get rows i ≡ Some row → i < length rows → IsSome row.place
row_placed rows i row places e below = subst (λ (r : EdgeRow). IsSome r.place) (get_or_from_slice_get rows i row row e) (places i row below)

-- the points of names by the row at a place, after those before it
pub one_row_more : (rows : List EdgeRow) (names : List ℤ) (i : ℕ) (row : EdgeRow) (points after : List (Option Point)) → HasPlaces rows → slice_get rows i ≡ Some row
    → i < length rows → ArePoints (take i rows) names points → length after ≡ length points → Notes names (point_by row) points after
    → ArePoints (take (i + 1) rows) names after
one_row_more rows names i row points after places e below are size notes =
    let longer : take (i + 1) rows ≡ take i rows ++ row ∷ [] = take_more rows i row below ∙ ap (λ r. take i rows ++ r ∷ []) (get_or_from_slice_get rows i row row e) in
    subst (λ xs. ArePoints xs names after) (sym longer) (points_more (take i rows) names points after row (All-take (λ (r : EdgeRow). IsSome r.place) i rows places) are size notes)

-- two names that are the ends of a row
pub ends_named : (rows : List EdgeRow) (names : List ℤ) (row : EdgeRow) → slice_get rows 0 ≡ Some row → 0 < length rows → row.source ≡ pos 5 → row.target ≡ pos 7
    → length names ≡ 2 → id_at names 0 ≡ pos 5 → id_at names 1 ≡ pos 7 → All (IsNamedIn rows) names
ends_named rows names row there below source target two first second = at
  where
    has : Contains rows row
    has = (0, below, get_or_from_slice_get rows 0 row row there)

    at : (k : ℕ) (d : ℤ) → k < length names → IsNamedIn rows (get_or names k d)
    at zero d h = (row, has, inl (source ∙ sym first ∙ get_or_default names 0 (pos 0) d h))
    at (suc zero) d h = (row, has, inr (target ∙ sym second ∙ get_or_default names 1 (pos 0) d h))
    at (suc (suc k)) d h = absurd (omega (arith, h, two))
