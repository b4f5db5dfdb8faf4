-- The slots of a table's rows: where the slot of a row stands, and that their links are those of the rows.
use Rattle.std.proofs.Common.{◌≡◌, ◌≢◌, ℕ, zero, suc, ◌+◌, ◌*◌, ◌<◌, ◌≤◌, List, [], ◌∷◌, ◌++◌, length, Bool, true, false, if◌then◌else◌, Option, Some, None, slice_get, refl, sym, ap, subst, ◌∙◌, arith, ℤ, mul-suc}
use Rattle.std.specs.List.{flat_map}
use Rattle.std.specs.Option.{option_to_list}
use Rattle.std.specs.Ordering.{int_eq}
use Rattle.std.proofs.lemmas.Bool.Decides.{Decides-int_eq}
use Rattle.std.proofs.lemmas.Grind.{flat_map-append}
use Rattle.std.proofs.lemmas.List.{append-nil, append_assoc, length-append}
use Rattle.pgr_walks.specs.declared.link.LinkOf.{LinkOf}
use Rattle.pgr_numbers.specs.Slots.{links_in}
use Rattle.pgr_table.specs.declared.row.EdgeRow.{EdgeRow}
use Rattle.pgr_graph.specs.declared.links.Direction.TheVariants.{Forward, Backward}
use Rattle.pgr_graph.specs.Senses.{link_of_sense}
use Rattle.pgr_graph.specs.RowLinks.{links_of_row, links_of_rows}
use Rattle.pgr_graph.specs.RowSlots.{second_along, slots_of_row, slots_of_table}
use Rattle.pgr_graph.proofs.RowLinks.{sense, both_by}

-- an element of the first list, and one past it
append-within : {X : Type 0} (xs ys : List X) (k : ℕ) (x : X) → slice_get xs k ≡ Some x → slice_get (xs ++ ys) k ≡ Some x
append-within [] ys k x here = cc here
append-within (y ∷ xs) ys zero x here = here
append-within (y ∷ xs) ys (suc k) x here = append-within xs ys k x here

append-past : {X : Type 0} (xs ys : List X) (per k : ℕ) → length xs ≡ per → slice_get (xs ++ ys) (k + per) ≡ slice_get ys k
append-past [] ys per k len = let same : k + per ≡ k = omega arith in ap (slice_get ys) same
append-past (x ∷ xs) ys per k len =
    let same : k + per ≡ suc (k + length xs) = omega arith in
    ap (slice_get ((x ∷ xs) ++ ys)) same ∙ append-past xs ys (length xs) k refl

-- where lists of one length stand one after the other, a place is that of a list and one within it
pub flat_map-at : {X Y : Type 0} (f : X → List Y) (per : ℕ) → ((x : X) → length (f x) ≡ per) → (xs : List X) (i k slot : ℕ) (x : X) (y : Y)
    → slice_get xs i ≡ Some x → slice_get (f x) k ≡ Some y → slot ≡ per * i + k → slice_get (flat_map f xs) slot ≡ Some y
flat_map-at f per len [] i k slot x y here at is = cc here
flat_map-at f per len (first ∷ xs) zero k slot x y here at is =
    let same : slot ≡ k = omega arith in
    let it : first ≡ x = cc here in
    ap (slice_get (f first ++ flat_map f xs)) same ∙ append-within (f first) (flat_map f xs) k y (subst (λ z. slice_get (f z) k ≡ Some y) (sym it) at)
flat_map-at f per len (first ∷ xs) (suc i) k slot x y here at is =
    let same : slot ≡ (per * i + k) + per = omega (arith, mul-suc per i) in
    ap (slice_get (f first ++ flat_map f xs)) same ∙ (append-past (f first) (flat_map f xs) per (per * i + k) (len first)
    ∙ flat_map-at f per len xs i k (per * i + k) x y here at refl)

-- and their number
pub flat_map-length : {X Y : Type 0} (f : X → List Y) (per : ℕ) → ((x : X) → length (f x) ≡ per) → (xs : List X) → length (flat_map f xs) ≡ per * length xs
flat_map-length f per len [] = omega arith
flat_map-length f per len (x ∷ xs) =
    omega (arith, length-append (f x) (flat_map f xs), len x, flat_map-length f per len xs, mul-suc per (length xs))

-- the links of the slots of a row are those of the row
row_slots : (directed : Bool) (row : EdgeRow) → links_in (slots_of_row directed row) ≡ links_of_row directed row
row_slots true row = by (int_eq row.source row.target) (int_eq row.cost row.reverse_cost)
  where
    by : (loop same : Bool) → links_in (link_of_sense row Forward row.cost
        ∷ (if loop then (if same then None else link_of_sense row Forward row.reverse_cost) else link_of_sense row Backward row.reverse_cost) ∷ [])
        ≡ (if loop then both_by same row Forward else sense row Forward row.cost ++ sense row Backward row.reverse_cost)
    by true true = simp append-nil
    by true false = simp append-nil
    by false same = simp append-nil
row_slots false row = by (int_eq row.source row.target) (int_eq row.cost row.reverse_cost)
  where
    by : (loop same : Bool) → links_in (link_of_sense row Forward row.cost
        ∷ (if same then None else link_of_sense row Forward row.reverse_cost)
        ∷ (if loop then None else link_of_sense row Backward row.cost)
        ∷ (if loop then None else (if same then None else link_of_sense row Backward row.reverse_cost)) ∷ [])
        ≡ (if loop then both_by same row Forward else both_by same row Forward ++ both_by same row Backward)
    by true true = simp append-nil
    by true false = simp append-nil
    by false true = simp append-nil
    by false false = simp (append-nil, append_assoc)

-- and those of the slots of all rows those of the rows
pub table_slots : (directed : Bool) (rows : List EdgeRow) → links_in (slots_of_table directed rows) ≡ links_of_rows directed rows
table_slots directed [] = refl
table_slots directed (row ∷ rows) =
    flat_map-append option_to_list (slots_of_row directed row) (slots_of_table directed rows)
    ∙ (ap (λ list. list ++ links_in (slots_of_table directed rows)) (row_slots directed row) ∙ ap (λ list. links_of_row directed row ++ list) (table_slots directed rows))

-- a row has as many slots as any other
pub row_slots-length : (directed : Bool) (row : EdgeRow) → length (slots_of_row directed row) ≡ (if directed then 2 else 4)
row_slots-length true row = refl
row_slots-length false row = refl

-- so have the rows together
pub table_slots-length : (directed : Bool) (rows : List EdgeRow) → length (slots_of_table directed rows) ≡ (if directed then 2 else 4) * length rows
table_slots-length directed rows = flat_map-length (slots_of_row directed) (if directed then 2 else 4) (row_slots-length directed) rows

-- where the slot of a row stands
pub slot-at : (directed : Bool) (rows : List EdgeRow) (i k slot : ℕ) (row : EdgeRow) (link : Option (LinkOf ℤ)) → slice_get rows i ≡ Some row
    → slice_get (slots_of_row directed row) k ≡ Some link → slot ≡ (if directed then 2 else 4) * i + k → slice_get (slots_of_table directed rows) slot ≡ Some link
slot-at directed = flat_map-at (slots_of_row directed) (if directed then 2 else 4) (row_slots-length directed)

-- the same of the directed graph and of the undirected one
pub slot-directed : (directed : Bool) (rows : List EdgeRow) (i k slot : ℕ) (row : EdgeRow) (link : Option (LinkOf ℤ)) → directed ≡ true → slice_get rows i ≡ Some row
    → slice_get (slots_of_row true row) k ≡ Some link → slot ≡ 2 * i + k → slice_get (slots_of_table directed rows) slot ≡ Some link
slot-directed true rows i k slot row link is = slot-at true rows i k slot row link
slot-directed false rows i k slot row link is = cc is

pub slot-undirected : (directed : Bool) (rows : List EdgeRow) (i k slot : ℕ) (row : EdgeRow) (link : Option (LinkOf ℤ)) → directed ≡ false → slice_get rows i ≡ Some row
    → slice_get (slots_of_row false row) k ≡ Some link → slot ≡ 4 * i + k → slice_get (slots_of_table directed rows) slot ≡ Some link
slot-undirected true rows i k slot row link is = cc is
slot-undirected false rows i k slot row link is = slot-at false rows i k slot row link

pub length-directed : (directed : Bool) (rows : List EdgeRow) → directed ≡ true → length (slots_of_table directed rows) ≡ 2 * length rows
length-directed true rows is = table_slots-length true rows
length-directed false rows is = cc is

pub length-undirected : (directed : Bool) (rows : List EdgeRow) → directed ≡ false → length (slots_of_table directed rows) ≡ 4 * length rows
length-undirected true rows is = cc is
length-undirected false rows is = table_slots-length false rows

-- there are at most four slots for each row
pub few-slots : (directed : Bool) (rows : List EdgeRow) → length (slots_of_table directed rows) ≤ 4 * length rows
few-slots true rows = omega (arith, table_slots-length true rows)
few-slots false rows = omega (arith, table_slots-length false rows)

-- the last two slots of a row in the undirected graph: empty in a self loop
is_loop : (row : EdgeRow) → row.source ≡ row.target → int_eq row.source row.target ≡ true
is_loop row = (Decides-int_eq row.source row.target).1

is_no_loop : (row : EdgeRow) → row.source ≢ row.target → int_eq row.source row.target ≡ false
is_no_loop row apart = by (int_eq row.source row.target) refl
  where
    by : (loop : Bool) → int_eq row.source row.target ≡ loop → loop ≡ false
    by true is = absurd (apart ((Decides-int_eq row.source row.target).0 is))
    by false is = refl

pub loop-slot : (row : EdgeRow) (slot : ℕ) → row.source ≡ row.target → slot ≢ 0 → slot ≢ 1 → slot < 4 → slice_get (slots_of_row false row) slot ≡ Some None
loop-slot row zero same first second below = absurd (first refl)
loop-slot row (suc zero) same first second below = absurd (second refl)
loop-slot row (suc (suc zero)) same first second below = ap (λ loop. Some (if loop then None else link_of_sense row Backward row.cost)) (is_loop row same)
loop-slot row (suc (suc (suc zero))) same first second below = ap (λ loop. Some (if loop then None else second_along row Backward)) (is_loop row same)
loop-slot row (suc (suc (suc (suc slot)))) same first second below = absurd (omega arith)

pub third-slot : (row : EdgeRow) (slot : ℕ) (link : Option (LinkOf ℤ)) → row.source ≢ row.target → slot ≡ 2 → link ≡ link_of_sense row Backward row.cost
    → slice_get (slots_of_row false row) slot ≡ Some link
third-slot row slot link apart third is =
    ap (slice_get (slots_of_row false row)) third
    ∙ (ap (λ loop. Some (if loop then None else link_of_sense row Backward row.cost)) (is_no_loop row apart) ∙ ap Some (sym is))

pub fourth-slot : (row : EdgeRow) (slot : ℕ) (link : Option (LinkOf ℤ)) → row.source ≢ row.target → slot ≡ 3 → link ≡ second_along row Backward
    → slice_get (slots_of_row false row) slot ≡ Some link
fourth-slot row slot link apart fourth is =
    ap (slice_get (slots_of_row false row)) fourth
    ∙ (ap (λ loop. Some (if loop then None else second_along row Backward)) (is_no_loop row apart) ∙ ap Some (sym is))
