-- The arcs of rows, row by row: exactly those that the rows give, no two with one key, and together at most what the rows count.
use Rattle.std.proofs.Common.{◌≡◌, ◌≢◌, ℕ, zero, suc, ◌+◌, ◌<◌, ◌≤◌, ◌⊎◌, inl, inr, ⊎_elim, ℤ, pos, negsuc, List, [], ◌∷◌, ◌++◌, map, take, Bool, true, false, Option, Some, None, slice_get, refl, sym, ap, subst, ◌∙◌, arith}
use Rattle.std.specs.Prelude.{◌==◌, if◌then◌else◌}
use Rattle.std.specs.List.{Contains}
use Rattle.std.specs.Option.{option_to_list}
use Rattle.std.specs.Ordering.{int_eq}
use Rattle.std.proofs.lemmas.Bool.Decides.{Decides-int_eq, Decides-eqb}
use Rattle.std.proofs.lemmas.List.{append-nil, append_assoc}
use Rattle.std.proofs.lemmas.List.Sums.{sum_by-cons}
use Rattle.pgr_outside.specs.Lists.{IsWithoutRepeats}
use Rattle.pgr_outside.proofs.Lists.{take_one_more}
use Rattle.pgr_walks.specs.declared.link.LinkOf.{LinkOf}
use Rattle.pgr_walks.specs.Walk.{cost_of}
use Rattle.pgr_walks.proofs.Repeats.{Among, Apart, Apart-from_IsWithoutRepeats}
use Rattle.pgr_walks.proofs.Membership.{Among-from_Contains, Contains-from_Among, Among-cases, Among-left, Among-right, Among-map}
use Rattle.pgr_walks.proofs.BackWalks.{cost_of-append}
use Rattle.pgr_table.specs.declared.row.CapacityRow.{CapacityRow}
use Rattle.pgr_table.specs.Rows.{counted}
use Rattle.pgr_table.specs.Capacities.{capacities_of, sum_of_capacities}
use Rattle.pgr_graph.specs.declared.links.Direction.{Direction}
use Rattle.pgr_graph.specs.declared.links.Direction.TheVariants.{Forward, Backward}
use Rattle.pgr_graph.specs.Arcs.{capacity_along, arc_along, IsArcOfRow, IsArcOfTable}
use Rattle.pgr_graph.specs.ArcSenses.{arc_of_sense}

-- an arc along a row has its edge and its capacity
arc_edge : (row : CapacityRow) (direction : Direction) (n : ℕ) → (arc_along row direction n).edge ≡ row.id
arc_edge row Forward n = refl
arc_edge row Backward n = refl

arc_cost : (row : CapacityRow) (direction : Direction) (n : ℕ) → (arc_along row direction n).cost ≡ n
arc_cost row Forward n = refl
arc_cost row Backward n = refl

-- the arc stands along a row in the direction, with that capacity
record IsArcAlong (row : CapacityRow) (direction : Direction) (capacity : ℤ) (arc : LinkOf ℤ) : Type 0 where
  apart : row.source ≢ row.target
  positive : 0 < arc.cost
  capacity_is : capacity ≡ pos arc.cost
  along : arc ≡ arc_along row direction arc.cost

-- what a capacity that isn't negative gives, by whether it is 0 and whether the row's ends are equal
abbrev given_by : Bool → Bool → CapacityRow → Direction → ℕ → List (LinkOf ℤ)
given_by none loop row direction n = option_to_list (if none then None else if loop then None else Some (arc_along row direction n))

some_capacity : (n : ℕ) → (n == 0) ≡ false → 0 < n
some_capacity zero e = cc
some_capacity (suc n) e = omega arith

no_capacity : (n : ℕ) → (n == 0) ≡ true → 0 < n → ⊥
no_capacity n e h = let none : n ≡ 0 = (Decides-eqb n 0).0 e in omega (arith, none, h)

loop_yes : (row : CapacityRow) → int_eq row.source row.target ≡ true → row.source ≡ row.target
loop_yes row = (Decides-int_eq row.source row.target).0

loop_no : (row : CapacityRow) → int_eq row.source row.target ≡ false → row.source ≢ row.target
loop_no row apart same = cc ((Decides-int_eq row.source row.target).1 same)

sense_gives : (row : CapacityRow) (direction : Direction) (capacity : ℤ) (arc : LinkOf ℤ) → Among arc (option_to_list (arc_of_sense row direction capacity))
    → IsArcAlong row direction capacity arc
sense_gives row direction (negsuc n) arc h = absurd h
sense_gives row direction (pos n) arc h = by (n == 0) (int_eq row.source row.target) (some_capacity n) (loop_no row) h
  where
    by : (none loop : Bool) → (none ≡ false → 0 < n) → (loop ≡ false → row.source ≢ row.target) → Among arc (given_by none loop row direction n)
        → IsArcAlong row direction (pos n) arc
    by true loop some apart h = absurd h
    by false true some apart h = absurd h
    by false false some apart (inl e) =
        let cost : n ≡ arc.cost = sym (arc_cost row direction n) ∙ ap (λ (l : LinkOf ℤ). l.cost) e in
        let positive = some refl in
        record { apart = apart refl; positive = omega (arith, cost, positive); capacity_is = ap pos cost; along = sym e ∙ ap (arc_along row direction) cost }
    by false false some apart (inr h) = absurd h

gives_sense : (row : CapacityRow) (direction : Direction) (capacity : ℤ) (arc : LinkOf ℤ) → IsArcAlong row direction capacity arc
    → Among arc (option_to_list (arc_of_sense row direction capacity))
gives_sense row direction (negsuc n) arc h = cc h.capacity_is
gives_sense row direction (pos n) arc h = by (n == 0) (int_eq row.source row.target) (no_capacity n) (loop_yes row)
  where
    cost : n ≡ arc.cost
    cost = let same = h.capacity_is in cc

    by : (none loop : Bool) → (none ≡ true → 0 < n → ⊥) → (loop ≡ true → row.source ≡ row.target) → Among arc (given_by none loop row direction n)
    by true loop none same = absurd (none refl (omega (arith, cost, h.positive)))
    by false true none same = absurd (h.apart (same refl))
    by false false none same = inl (ap (arc_along row direction) cost ∙ sym h.along)

-- it counts no more than the capacity does
sense_sum : (row : CapacityRow) (direction : Direction) (capacity : ℤ) → cost_of (option_to_list (arc_of_sense row direction capacity)) ≤ counted capacity
sense_sum row direction (negsuc n) = omega arith
sense_sum row direction (pos n) = by (n == 0) (int_eq row.source row.target)
  where
    by : (none loop : Bool) → cost_of (given_by none loop row direction n) ≤ n
    by true loop = omega arith
    by false true = omega arith
    by false false = let e = arc_cost row direction n in omega arith

-- the arcs that a row gives
abbrev arcs_of_row : CapacityRow → List (LinkOf ℤ)
arcs_of_row row = option_to_list (arc_of_sense row Forward row.capacity) ++ option_to_list (arc_of_sense row Backward row.reverse_capacity)

row_cases : (row : CapacityRow) (arc : LinkOf ℤ) → Among arc (arcs_of_row row) → IsArcAlong row Forward row.capacity arc ⊎ IsArcAlong row Backward row.reverse_capacity arc
row_cases row arc h = ⊎_elim
    (λ k. inl (sense_gives row Forward row.capacity arc k))
    (λ k. inr (sense_gives row Backward row.reverse_capacity arc k))
    (Among-cases arc (option_to_list (arc_of_sense row Forward row.capacity)) (option_to_list (arc_of_sense row Backward row.reverse_capacity)) h)

row_gives : (row : CapacityRow) (arc : LinkOf ℤ) → Among arc (arcs_of_row row) → IsArcOfRow row arc
row_gives row arc h = ⊎_elim
    (λ k. record { apart = k.apart; positive = k.positive; direction = Forward; capacity = k.capacity_is; along = k.along })
    (λ k. record { apart = k.apart; positive = k.positive; direction = Backward; capacity = k.capacity_is; along = k.along })
    (row_cases row arc h)

gives_row : (row : CapacityRow) (arc : LinkOf ℤ) → IsArcOfRow row arc → Among arc (arcs_of_row row)
gives_row row arc h = at h.direction h.capacity h.along
  where
    at : (direction : Direction) → capacity_along row direction ≡ pos arc.cost → arc ≡ arc_along row direction arc.cost → Among arc (arcs_of_row row)
    at Forward capacity along = Among-left arc (option_to_list (arc_of_sense row Forward row.capacity))
        (option_to_list (arc_of_sense row Backward row.reverse_capacity)) (gives_sense row Forward row.capacity arc
        (record { apart = h.apart; positive = h.positive; capacity_is = capacity; along = along }))
    at Backward capacity along = Among-right arc (option_to_list (arc_of_sense row Forward row.capacity))
        (option_to_list (arc_of_sense row Backward row.reverse_capacity)) (gives_sense row Backward row.reverse_capacity arc
        (record { apart = h.apart; positive = h.positive; capacity_is = capacity; along = along }))

row_edge : (row : CapacityRow) (arc : LinkOf ℤ) → Among arc (arcs_of_row row) → arc.edge ≡ row.id
row_edge row arc h =
    let given = row_gives row arc h in ap (λ (l : LinkOf ℤ). l.edge) given.along ∙ arc_edge row given.direction arc.cost

row_sum : (row : CapacityRow) → cost_of (arcs_of_row row) ≤ capacities_of row
row_sum row =
    let forward = sense_sum row Forward row.capacity in
    let backward = sense_sum row Backward row.reverse_capacity in
    let both = cost_of-append (option_to_list (arc_of_sense row Forward row.capacity)) (option_to_list (arc_of_sense row Backward row.reverse_capacity)) in
    omega arith

-- what tells arcs apart: edge, start and end
abbrev pub key : LinkOf ℤ → ℤ × (ℤ × ℤ)
key arc = (arc.edge, (arc.from, arc.to))

-- an element of a list whose elements were changed
Among-from_map : {X Y : Type 0} (f : X → Y) (y : Y) (xs : List X) → Among y (map f xs) → (x : X) × Among x xs × (f x ≡ y)
Among-from_map f y [] h = absurd h
Among-from_map f y (x ∷ xs) (inl e) = (x, inl refl, e)
Among-from_map f y (x ∷ xs) (inr h) = let more = Among-from_map f y xs h in (more.0, inr more.1, more.2)

-- two lists, each without two elements alike, of which no element of one is like one of the other
Apart-map_append : {X Y : Type 0} (f : X → Y) (xs ys : List X) → Apart (map f xs) → Apart (map f ys) → ((x y : X) → Among x xs → Among y ys → f x ≢ f y)
    → Apart (map f (xs ++ ys))
Apart-map_append f [] ys a b none = b
Apart-map_append {X} {Y} f (x ∷ xs) ys a b none = (
  λ among. let other = Among-from_map f (f x) (xs ++ ys) among in ⊎_elim
      (λ k. a.0 (subst (λ (z : Y). Among z (map f xs)) other.2 (Among-map f xs other.0 k)))
      (λ k. none x other.0 (inl refl) k (sym other.2))
      (Among-cases other.0 xs ys other.1),
  Apart-map_append f xs ys a.1 b (λ z y h k. none z y (inr h) k),
)

-- elements that can be told apart by what is made of them are different
pub Apart-from_map : {X Y : Type 0} (f : X → Y) (xs : List X) → Apart (map f xs) → Apart xs
Apart-from_map f [] h = tt
Apart-from_map f (x ∷ xs) h = (λ among. h.0 (Among-map f xs x among), Apart-from_map f xs h.1)

apart_option : {X Y : Type 0} (f : X → Y) (o : Option X) → Apart (map f (option_to_list o))
apart_option f None = tt
apart_option f (Some x) = (λ h. h, tt)

-- the arcs of one row have different keys: they begin at different vertices
row_keys : (row : CapacityRow) → Apart (map key (arcs_of_row row))
row_keys row = Apart-map_append key (option_to_list (arc_of_sense row Forward row.capacity)) (option_to_list (arc_of_sense row Backward row.reverse_capacity))
    (apart_option key (arc_of_sense row Forward row.capacity)) (apart_option key (arc_of_sense row Backward row.reverse_capacity)) (λ x y h k same.
    let there = sense_gives row Forward row.capacity x h in
    let back = sense_gives row Backward row.reverse_capacity y k in
    let from : x.from ≡ row.source = ap (λ (l : LinkOf ℤ). l.from) there.along in
    let other : y.from ≡ row.target = ap (λ (l : LinkOf ℤ). l.from) back.along in
    let one : x.from ≡ y.from = ap (λ (p : ℤ × (ℤ × ℤ)). p.1.0) same in
    there.apart (sym from ∙ (one ∙ other)))

-- the arcs that rows give
abbrev pub arcs_of_rows : List CapacityRow → List (LinkOf ℤ)
arcs_of_rows [] = []
arcs_of_rows (row ∷ rows) = arcs_of_row row ++ arcs_of_rows rows

arcs-push : (rows : List CapacityRow) (row : CapacityRow) → arcs_of_rows (rows ++ row ∷ []) ≡ arcs_of_rows rows ++ arcs_of_row row
arcs-push [] row = append-nil (arcs_of_row row)
arcs-push (first ∷ rows) row =
    ap (λ list. arcs_of_row first ++ list) (arcs-push rows row) ∙ sym (append_assoc (arcs_of_row first) (arcs_of_rows rows) (arcs_of_row row))

-- one row more gives its arcs
pub arcs-more : (rows : List CapacityRow) (i : ℕ) (row : CapacityRow) (before after : List (LinkOf ℤ)) → slice_get rows i ≡ Some row
    → before ≡ arcs_of_rows (take i rows)
    → after ≡ (before ++ option_to_list (arc_of_sense row Forward row.capacity)) ++ option_to_list (arc_of_sense row Backward row.reverse_capacity)
    → after ≡ arcs_of_rows (take (i + 1) rows)
arcs-more rows i row before after here before_is after_is =
    after_is ∙ (append_assoc before (option_to_list (arc_of_sense row Forward row.capacity)) (option_to_list (arc_of_sense row Backward row.reverse_capacity))
    ∙ (ap (λ list. list ++ arcs_of_row row) before_is ∙ (sym (arcs-push (take i rows) row) ∙ sym (ap arcs_of_rows (take_one_more rows i row here)))))

-- an arc of rows is one of some row
among_rows : (rows : List CapacityRow) (arc : LinkOf ℤ) → Among arc (arcs_of_rows rows) → (row : CapacityRow) × Among row rows × Among arc (arcs_of_row row)
among_rows [] arc h = absurd h
among_rows (row ∷ rows) arc h = ⊎_elim (λ k. (row, inl refl, k)) (λ k. let more = among_rows rows arc k in (more.0, inr more.1, more.2))
    (Among-cases arc (arcs_of_row row) (arcs_of_rows rows) h)

rows_among : (rows : List CapacityRow) (arc : LinkOf ℤ) (row : CapacityRow) → Among row rows → Among arc (arcs_of_row row) → Among arc (arcs_of_rows rows)
rows_among [] arc row h k = absurd h
rows_among (first ∷ rows) arc row (inl e) k = Among-left arc (arcs_of_row first) (arcs_of_rows rows) (subst (λ (r : CapacityRow). Among arc (arcs_of_row r)) (sym e) k)
rows_among (first ∷ rows) arc row (inr h) k = Among-right arc (arcs_of_row first) (arcs_of_rows rows) (rows_among rows arc row h k)

-- the arcs of rows with different ids have different keys
keys_apart : (rows : List CapacityRow) → Apart (map (λ (r : CapacityRow). r.id) rows) → Apart (map key (arcs_of_rows rows))
keys_apart [] apart = tt
keys_apart (row ∷ rows) apart = Apart-map_append key (arcs_of_row row) (arcs_of_rows rows) (row_keys row) (keys_apart rows apart.1) (λ x y h k same.
    let later = among_rows rows y k in
    let here = row_edge row x h in
    let behind = row_edge later.0 y later.2 in
    let one : x.edge ≡ y.edge = ap (λ (p : ℤ × (ℤ × ℤ)). p.0) same in
    let P : ℤ → Type 0 = λ id. Among id (map (λ (r : CapacityRow). r.id) rows) in
    apart.0 (subst P (sym behind ∙ (sym one ∙ here)) (Among-map (λ (r : CapacityRow). r.id) rows later.0 later.1)))

pub apart_keys : (rows : List CapacityRow) → IsWithoutRepeats (map (λ (r : CapacityRow). r.id) rows) → Apart (map key (arcs_of_rows rows))
apart_keys rows ids = keys_apart rows (Apart-from_IsWithoutRepeats (map (λ (r : CapacityRow). r.id) rows) ids)

-- together they count at most what the rows do
pub rows_sum : (rows : List CapacityRow) → cost_of (arcs_of_rows rows) ≤ sum_of_capacities rows
rows_sum [] = omega arith
rows_sum (row ∷ rows) =
    let first = row_sum row in
    let more = rows_sum rows in
    let both = cost_of-append (arcs_of_row row) (arcs_of_rows rows) in
    let sums : sum_of_capacities (row ∷ rows) ≡ capacities_of row + sum_of_capacities rows = sum_by-cons capacities_of row rows in
    omega arith

-- they are the arcs of the table
pub table_from_rows : (rows : List CapacityRow) (arc : LinkOf ℤ) → Contains (arcs_of_rows rows) arc → IsArcOfTable rows arc
table_from_rows rows arc h =
    let at = among_rows rows arc (Among-from_Contains arc (arcs_of_rows rows) h) in
    let place = Contains-from_Among at.0 rows at.1 in
    (place.0, at.0, place.1, place.2, row_gives at.0 arc at.2)

pub rows_from_table : (rows : List CapacityRow) (arc : LinkOf ℤ) → IsArcOfTable rows arc → Contains (arcs_of_rows rows) arc
rows_from_table rows arc has = Contains-from_Among arc (arcs_of_rows rows)
    (rows_among rows arc has.1 (Among-from_Contains has.1 rows (has.0, has.2, has.3)) (gives_row has.1 arc has.4))
