-- The rows that edges and a list of places make.
use Rattle.std.proofs.Common.{◌≡◌, ◌≤◌, ℕ, zero, suc, ℤ, List, [], ◌∷◌, ◌++◌, length, map, slice_get, Option, Some, None, Bor, refl, sym, ap, ◌∙◌, arith, length-append, false}
use Rattle.std.specs.Prelude.{IsSome}
use Rattle.std.specs.List.{list_any}
use Rattle.std.specs.Ordering.{int_eq}
use Rattle.std.specs.Option.{option_copied}
use Rattle.std.specs.Slice.{IsItemAt}
use Rattle.std.proofs.lemmas.Option.{slice_get_past, slice_get_read}
use Rattle.std.proofs.lemmas.List.Elements.{All-head, All-tail}
use Rattle.pgr_table.specs.declared.row.EdgeRow.{EdgeRow}
use Rattle.pgr_table.specs.declared.row.Place.{Place}
use Rattle.pgr_table.specs.declared.edge_list.PlainEdge.{PlainEdge}
use Rattle.pgr_table.specs.Edges.{HasPlaces}
use Rattle.pgr_table.specs.KeptEdges.{edge_row, edge_rows, ids_of}
use Rattle.pgr_table.proofs.Keyed.{list_any-ids}

-- there is a row for each edge
pub length-edge_rows : (edges : List PlainEdge) (places : List Place) → length (edge_rows edges places) ≡ length edges
length-edge_rows [] places = refl
length-edge_rows (edge ∷ edges) [] = ap suc (length-edge_rows edges [])
length-edge_rows (edge ∷ edges) (place ∷ places) = ap suc (length-edge_rows edges places)

-- the ids of the edges are those of the rows
pub ids-edge_rows : (edges : List PlainEdge) (places : List Place) → ids_of edges ≡ map (λ (row : EdgeRow). row.id) (edge_rows edges places)
ids-edge_rows [] places = refl
ids-edge_rows (edge ∷ edges) [] = ap (λ (ids : List ℤ). edge.id ∷ ids) (ids-edge_rows edges [])
ids-edge_rows (edge ∷ edges) (place ∷ places) = ap (λ (ids : List ℤ). edge.id ∷ ids) (ids-edge_rows edges places)

-- an id that no row has is none of the edges'
pub new-edge_rows : (edges : List PlainEdge) (places : List Place) (id : ℤ) → list_any (λ (row : EdgeRow). int_eq id row.id) (edge_rows edges places) ≡ false
    → list_any (int_eq id) (ids_of edges) ≡ false
new-edge_rows edges places id new =
    ap (list_any (int_eq id)) (ids-edge_rows edges places) ∙ list_any-ids (λ (row : EdgeRow). row.id) id (edge_rows edges places) ∙ new

-- the row of an edge has the place that stands where the edge does
pub edge_rows-at : (edges : List PlainEdge) (places : List Place) (i : ℕ) (edge : PlainEdge) → slice_get edges i ≡ Some edge
    → slice_get (edge_rows edges places) i ≡ Some (edge_row edge (slice_get places i))
edge_rows-at [] places i edge h = cc h
edge_rows-at (first ∷ edges) [] zero edge h = let same : first ≡ edge = cc h in ap (λ (e : PlainEdge). Some (edge_row e None)) same
edge_rows-at (first ∷ edges) [] (suc i) edge h = edge_rows-at edges [] i edge h
edge_rows-at (first ∷ edges) (place ∷ places) zero edge h = let same : first ≡ edge = cc h in ap (λ (e : PlainEdge). Some (edge_row e (Some place))) same
edge_rows-at (first ∷ edges) (place ∷ places) (suc i) edge h = edge_rows-at edges places i edge h

-- what `get` lends is the place that stands there, if one does
pub option_copied-get : (places : List Place) (i : ℕ) (lent : Option (Bor Place)) → IsItemAt places i lent → option_copied lent ≡ slice_get places i
option_copied-get places i None item = sym (slice_get_past places i item.3)
option_copied-get places i (Some place) item = sym (slice_get_read places (length places) i place.now refl item.3.0 item.1)

-- one more edge, where no place is left for it
edge_rows-edge : (edges : List PlainEdge) (places : List Place) (edge : PlainEdge) → length places ≤ length edges
    → edge_rows (edges ++ edge ∷ []) places ≡ edge_rows edges places ++ edge_row edge None ∷ []
edge_rows-edge [] [] edge within = refl
edge_rows-edge [] (place ∷ places) edge within = absurd (omega arith)
edge_rows-edge (one ∷ edges) [] edge within = ap (λ (rows : List EdgeRow). edge_row one None ∷ rows) (edge_rows-edge edges [] edge (omega arith))
edge_rows-edge (one ∷ edges) (place ∷ places) edge within =
    ap (λ (rows : List EdgeRow). edge_row one (Some place) ∷ rows) (edge_rows-edge edges places edge (omega arith))

-- one more edge and one more place, where each edge has a place
edge_rows-placed : (edges : List PlainEdge) (places : List Place) (edge : PlainEdge) (place : Place) → length places ≡ length edges
    → edge_rows (edges ++ edge ∷ []) (places ++ place ∷ []) ≡ edge_rows edges places ++ edge_row edge (Some place) ∷ []
edge_rows-placed [] [] edge place same = refl
edge_rows-placed [] (one ∷ places) edge place same = absurd (omega arith)
edge_rows-placed (one ∷ edges) [] edge place same = absurd (omega arith)
edge_rows-placed (one ∷ edges) (first ∷ places) edge place same =
    ap (λ (rows : List EdgeRow). edge_row one (Some first) ∷ rows) (edge_rows-placed edges places edge place (omega arith))

-- where each row has a place, there are as many places as edges
HasPlaces-length : (edges : List PlainEdge) (places : List Place) → HasPlaces (edge_rows edges places) → length edges ≤ length places
HasPlaces-length [] places all = omega arith
HasPlaces-length (edge ∷ edges) [] all =
    let some : IsSome (edge_row edge None).place = All-head (λ (row : EdgeRow). IsSome row.place) (edge_row edge None) (edge_rows edges []) all in
    cc some
HasPlaces-length (edge ∷ edges) (place ∷ places) all =
    let rest = All-tail (λ (row : EdgeRow). IsSome row.place) (edge_row edge (Some place)) (edge_rows edges places) all in
    let within : length edges ≤ length places = HasPlaces-length edges places rest in
    omega arith

-- what one more row makes of the edges and the places
pub record IsPushed (edges : List PlainEdge) (places : List Place) (row : EdgeRow) (new : List PlainEdge) (new_places : List Place) : Type 0 where
  pub rows : edge_rows new new_places ≡ edge_rows edges places ++ row ∷ []
  pub within : length new_places ≤ length new

module _ (edges : List PlainEdge) (places : List Place) (edge : PlainEdge) (new : List PlainEdge) where
  pub edge_rows-push : length places ≤ length edges → new ≡ edges ++ edge ∷ [] → IsPushed edges places (edge_row edge None) new places
  edge_rows-push within pushed = record {
    rows = ap (λ (these : List PlainEdge). edge_rows these places) pushed ∙ edge_rows-edge edges places edge within;
    within = omega (arith, ap length pushed, length-append edges (edge ∷ []));
  }

  pub edge_rows-push_placed : (place : Place) → length places ≤ length edges → HasPlaces (edge_rows edges places) → new ≡ edges ++ edge ∷ []
      → IsPushed edges places (edge_row edge (Some place)) new (places ++ place ∷ [])
  edge_rows-push_placed place within all pushed =
      let enough = HasPlaces-length edges places all in
      let same : length places ≡ length edges = omega (arith, enough) in
      record {
        rows = ap (λ (these : List PlainEdge). edge_rows these (places ++ place ∷ [])) pushed ∙ edge_rows-placed edges places edge place same;
        within = omega (arith, ap length pushed, length-append edges (edge ∷ []), length-append places (place ∷ []));
      }
