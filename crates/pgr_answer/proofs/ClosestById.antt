-- Which rows of roots are closest by number is which are by id.
use Rattle.std.proofs.Common.{◌≡◌, inl, inr, ⊎_elim, ℕ, zero, suc, ◌<◌, Bool, true, false, cond, List, [], ◌∷◌, map, length, refl, sym, ap, ◌∙◌, subst, arith, Ordering, Less, Equal, Greater}
use Rattle.std.specs.Prelude.{◌↔◌, ℤ, Contains, filter}
use Rattle.std.specs.Ordering.{nat_cmp, int_cmp}
use Rattle.std.proofs.lemmas.Cmp.{int_cmp_total, tied_itself}
use Rattle.pgr_outside.proofs.Lists.{Contains-map, Contains-from_map}
use Rattle.pgr_walks.specs.LinkOrders.{int_tie}
use Rattle.pgr_numbers.specs.Names.{id_at}
use Rattle.pgr_reach.specs.declared.reach.ReachedOf.{ReachedOf}
use Rattle.pgr_reach.specs.Equicost.{AreClosest, IsClosest, with_kept}
use Rattle.pgr_answer.specs.DrivingDistance.{Rooted}
use Rattle.pgr_answer.specs.Rooted.{named_row, named_list, IsRowBelow, IsListBelow}

-- the place of an id behind a name, by how the two compare
abbrev next_place : Ordering → ℕ → ℕ
next_place Less later = suc later
next_place Equal later = 0
next_place Greater later = suc later

-- the place of an id among names
abbrev place_of : List ℤ → ℤ → ℕ
place_of [] id = 0
place_of (name ∷ names) id = next_place (int_cmp name id) (place_of names id)

-- an id that has a number stands at its place
place_is : (names : List ℤ) (n : ℕ) (id : ℤ) → n < length names → id_at names n ≡ id → (place_of names id < length names) × (id_at names (place_of names id) ≡ id)
place_is [] n id inside is = absurd (omega arith)
place_is (name ∷ names) n id inside is = by (int_cmp name id) refl (later n inside is (λ m below at. place_is names m id below at))
  where
    later : (n : ℕ) → n < length (name ∷ names) → id_at (name ∷ names) n ≡ id
        → ((m : ℕ) → m < length names → id_at names m ≡ id → (place_of names id < length names) × (id_at names (place_of names id) ≡ id))
        → (int_cmp name id ≡ Equal → ⊥)
        → (place_of names id < length names) × (id_at names (place_of names id) ≡ id)
    later zero inside is rest differ = absurd (differ (subst (λ x. int_cmp name x ≡ Equal) is (tied_itself int_cmp_total name)))
    later (suc n) inside is rest differ = rest n (omega arith) is

    by : (o : Ordering) → int_cmp name id ≡ o → ((int_cmp name id ≡ Equal → ⊥) → (place_of names id < length names) × (id_at names (place_of names id) ≡ id))
        → (next_place o (place_of names id) < length (name ∷ names)) × (id_at (name ∷ names) (next_place o (place_of names id)) ≡ id)
    by Less e rest = let r = rest (λ f. absurd cc) in (omega (arith, r.0), r.1)
    by Equal e rest = (omega arith, int_tie name id e)
    by Greater e rest = let r = rest (λ f. absurd cc) in (omega (arith, r.0), r.1)

-- the row of an id as that of its place
abbrev unnamed_row : List ℤ → ReachedOf ℤ → ReachedOf ℕ
unnamed_row names row = record { node = place_of names row.node; label = row.label; pred = place_of names row.pred; edge = row.edge; cost = row.cost }

-- a test of rows by number as one of rows by id
abbrev by_place : List ℤ → (ℕ → ReachedOf ℕ → Bool) → ℤ → ReachedOf ℤ → Bool
by_place names keeps root row = keeps (place_of names root) (unnamed_row names row)

-- the rows that a test keeps, by number and by id
kept_named : (names : List ℤ) (keeps : ReachedOf ℕ → Bool) (other : ReachedOf ℤ → Bool) (rows : List (ReachedOf ℕ))
    → ((row : ReachedOf ℕ) → Contains rows row → other (named_row names row) ≡ keeps row)
    → map (named_row names) (filter keeps rows) ≡ filter other (map (named_row names) rows)
kept_named names keeps other [] same = refl
kept_named names keeps other (row ∷ rows) same =
    by (keeps row) (other (named_row names row)) (same row (0, omega arith, refl))
    (kept_named names keeps other rows (λ r (k, inside, is). same r (suc k, omega arith, is)))
  where
    by : (a b : Bool) → b ≡ a → map (named_row names) (filter keeps rows) ≡ filter other (map (named_row names) rows)
        → map (named_row names) (cond a (row ∷ filter keeps rows) (filter keeps rows))
        ≡ cond b (named_row names row ∷ filter other (map (named_row names) rows)) (filter other (map (named_row names) rows))
    by true true e rest = ap (λ l. named_row names row ∷ l) rest
    by false false e rest = rest
    by true false e rest = absurd cc
    by false true e rest = absurd cc

-- a row that a test keeps is one of the rows
of_filter : (keeps : ReachedOf ℕ → Bool) (rows : List (ReachedOf ℕ)) (row : ReachedOf ℕ) → Contains (filter keeps rows) row → Contains rows row
of_filter keeps [] row has = has
of_filter keeps (first ∷ rows) row has = by (keeps first) (of_filter keeps rows row) has
  where
    later : Contains rows row → Contains (first ∷ rows) row
    later (k, inside, is) = (suc k, omega arith, is)

    by : (a : Bool) → (Contains (filter keeps rows) row → Contains rows row) → Contains (cond a (first ∷ filter keeps rows) (filter keeps rows)) row → Contains (first ∷ rows) row
    by true rest (zero, inside, is) = (0, omega arith, is)
    by true rest (suc k, inside, is) = later (rest (k, omega arith, is))
    by false rest kept = later (rest kept)

module _ (names : List ℤ)
    (order : (m n : ℕ) → m < length names → n < length names → int_cmp (id_at names m) (id_at names n) ≡ nat_cmp m n)
    (one : (m n : ℕ) → m < length names → n < length names → id_at names m ≡ id_at names n → m ≡ n) where
  -- the place of the id of a number is the number
  place_again : (n : ℕ) → n < length names → place_of names (id_at names n) ≡ n
  place_again n below = let at = place_is names n (id_at names n) below refl in one (place_of names (id_at names n)) n at.0 below at.1

  -- a row by id is again the row by number
  row_again : (row : ReachedOf ℕ) → IsRowBelow (length names) row → unnamed_row names (named_row names row) ≡ row
  row_again row below =
      let node = place_again row.node below.0 in
      let pred = place_again row.pred below.1 in
      λ i. record { node = node i; label = row.label; pred = pred i; edge = row.edge; cost = row.cost }

  module _ (old : List (Rooted ℕ)) (below : (list : Rooted ℕ) → Contains old list → IsListBelow (length names) list) where
    -- what is closest by number is so by id
    closest_named : (root : ℕ) (row : ReachedOf ℕ) → root < length names → row.node < length names → IsClosest nat_cmp old root row
        → IsClosest int_cmp (map (named_list names) old) (id_at names root) (named_row names row)
    closest_named root row root_below row_below closest other rows there has has_there node =
        let list = Contains-from_map (named_list names) old (other, rows) has in
        let number = list.0 in
        let is : named_list names number ≡ (other, rows) = sym list.2 in
        let among : Contains (map (named_row names) number.1) there = subst (λ rs. Contains rs there) (sym (ap (λ (l : Rooted ℤ). l.1) is)) has_there in
        let found = Contains-from_map (named_row names) number.1 there among in
        let found_is : named_row names found.0 ≡ there = sym found.2 in
        let bound = below number list.1 in
        let same : found.0.node ≡ row.node = one found.0.node row.node (bound.1 found.0 found.1).0 row_below (ap (λ (r : ReachedOf ℤ). r.node) found_is ∙ node) in
        let cost : found.0.label.cost ≡ there.label.cost = ap (λ (r : ReachedOf ℤ). r.label.cost) found_is in
        ⊎_elim (λ less. inl (omega (arith, less, cost)))
        (λ tied. inr (
          tied.0 ∙ cost,
          λ less. tied.1
              (sym (order number.0 root bound.0 root_below) ∙ ap (λ x. int_cmp x (id_at names root)) (ap (λ (l : Rooted ℤ). l.0) is) ∙ less),
        ))
        (closest number.0 number.1 found.0 list.1 found.1 same)

    -- and back
    closest_numbered : (root : ℕ) (row : ReachedOf ℕ) → root < length names → IsClosest int_cmp (map (named_list names) old) (id_at names root) (named_row names row)
        → IsClosest nat_cmp old root row
    closest_numbered root row root_below closest other rows there has has_there node =
        let bound = below (other, rows) has in
        ⊎_elim inl (λ tied. inr (tied.0, λ less. tied.1 (order other root bound.0 root_below ∙ less)))
        (closest (id_at names other) (map (named_row names) rows) (named_row names there) (Contains-map (named_list names) old (other, rows) has)
        (Contains-map (named_row names) rows there has_there) (ap (id_at names) node))

    -- closest rows by number are closest rows by id
    pub closest_by_ids : (new : List (Rooted ℕ)) → AreClosest nat_cmp old new → AreClosest int_cmp (map (named_list names) old) (map (named_list names) new)
    closest_by_ids new closest = record {
      keeps = by_place names closest.keeps;
      lists = ap (map (named_list names)) closest.lists ∙ all_named old (λ list has. has);
      exactly = λ root rows row has has_row.
          let list = Contains-from_map (named_list names) old (root, rows) has in
          let is : named_list names list.0 ≡ (root, rows) = sym list.2 in
          let among : Contains (map (named_row names) list.0.1) row = subst (λ rs. Contains rs row) (sym (ap (λ (l : Rooted ℤ). l.1) is)) has_row in
          let found = Contains-from_map (named_row names) list.0.1 row among in
          subst (λ x. (by_place names closest.keeps x row ≡ true) ↔ IsClosest int_cmp (map (named_list names) old) x row) (ap (λ (l : Rooted ℤ). l.0) is)
          (subst (λ r. (by_place names closest.keeps (id_at names list.0.0) r ≡ true) ↔ IsClosest int_cmp (map (named_list names) old) (id_at names list.0.0) r) (sym found.2)
          (exactly list.0 found.0 list.1 found.1));
    }
      where
        keeps_is : (list : Rooted ℕ) (row : ReachedOf ℕ) → Contains old list → Contains list.1 row
            → by_place names closest.keeps (id_at names list.0) (named_row names row) ≡ closest.keeps list.0 row
        keeps_is list row has has_row =
            let bound = below list has in
            ap (λ n. closest.keeps n (unnamed_row names (named_row names row))) (place_again list.0 bound.0) ∙ ap (closest.keeps list.0) (row_again row (bound.1 row has_row))

        exactly : (list : Rooted ℕ) (row : ReachedOf ℕ) → Contains old list → Contains list.1 row
            → (by_place names closest.keeps (id_at names list.0) (named_row names row) ≡ true)
            ↔ IsClosest int_cmp (map (named_list names) old) (id_at names list.0) (named_row names row)
        exactly list row has has_row =
            let bound = below list has in
            let same = keeps_is list row has has_row in
            let either = closest.exactly list.0 list.1 row has has_row in (
              λ e. closest_named list.0 row bound.0 (bound.1 row has_row).0 (either.0 (sym same ∙ e)),
              λ h. same ∙ either.1 (closest_numbered list.0 row bound.0 h),
            )

        all_named : (lists : List (Rooted ℕ)) → ((list : Rooted ℕ) → Contains lists list → Contains old list)
            → map (named_list names) (map (with_kept closest.keeps) lists) ≡ map (with_kept (by_place names closest.keeps)) (map (named_list names) lists)
        all_named [] among = refl
        all_named (list ∷ lists) among =
            let has = among list (0, omega arith, refl) in
            let rows = kept_named names (closest.keeps list.0) (by_place names closest.keeps (id_at names list.0)) list.1 (λ row has_row. keeps_is list row has has_row) in
            let rest = all_named lists (λ l (k, inside, is). among l (suc k, omega arith, is)) in
            λ i. (id_at names list.0, rows i) ∷ rest i

    -- and the vertices that are kept are below the same number
    pub kept_below : (new : List (Rooted ℕ)) → AreClosest nat_cmp old new → (list : Rooted ℕ) → Contains new list → IsListBelow (length names) list
    kept_below new closest list has =
        let found = Contains-from_map (with_kept closest.keeps) old list (subst (λ ls. Contains ls list) closest.lists has) in
        let bound = below found.0 found.1 in
        subst (IsListBelow (length names)) (sym found.2) (bound.0, λ row has_row. bound.1 row (of_filter (closest.keeps found.0.0) found.0.1 row has_row))
