-- Links of one edge have the same two ends, so states are few: a table has one row for each id, and the ends of a row are those of each of its links.
use Rattle.std.proofs.Common.{◌≡◌, ℕ, ℤ, pos, ◌+◌, ◌*◌, ◌^◌, ◌<◌, ◌≤◌, inl, inr, ⊎_elim, Bool, List, length, get_or, map, refl, sym, ap, subst, ◌∙◌, arith, Some}
use Rattle.std.specs.Prelude.{slice_get}
use Rattle.std.proofs.lemmas.Bool.{cases_order}
use Rattle.std.proofs.lemmas.List.{length-map, get_or-map, get_or_default}
use Rattle.std.proofs.lemmas.Option.{slice_get-get_or}
use Rattle.pgr_outside.specs.Lists.{IsWithoutRepeats}
use Rattle.pgr_walks.specs.declared.link.LinkOf.{LinkOf}
use Rattle.pgr_table.specs.declared.row.EdgeRow.{EdgeRow}
use Rattle.pgr_graph.specs.declared.links.Direction.{Direction}
use Rattle.pgr_graph.specs.declared.links.Direction.TheVariants.{Forward, Backward}
use Rattle.pgr_table.specs.Rows.{most_elements}
use Rattle.pgr_graph.specs.Links.{link_along, IsLinkOfTable}
use Rattle.pgr_turns.specs.MostStates.{HasSameEnds}
use Rattle.pgr_numbers.specs.Names.{IsNumbered, id_at, named}
use Rattle.pgr_answer.proofs.ClassesById.{AreNamed}

-- the edge of a link along a row is the row
edge_along : (row : EdgeRow) (d : Direction) (n : ℕ) → (link_along row d n).edge ≡ row.id
edge_along row Forward n = refl
edge_along row Backward n = refl

-- two links along a row have its two ends
same_along : (row : EdgeRow) (d e : Direction) (m n : ℕ) → HasSameEnds (link_along row d m) (link_along row e n)
same_along row Forward Forward m n = inl (refl, refl)
same_along row Forward Backward m n = inr (refl, refl)
same_along row Backward Forward m n = inr (refl, refl)
same_along row Backward Backward m n = inl (refl, refl)

-- an element that stands at two places of a list without repeats stands at one
one_place : {X : Type 0} (xs : List X) → IsWithoutRepeats xs → (i j : ℕ) (d : X) → i < length xs → j < length xs → get_or xs i d ≡ get_or xs j d → i ≡ j
one_place xs once i j d i_in j_in same =
    let equal : slice_get xs i ≡ slice_get xs j = slice_get-get_or xs i d i_in ∙ (ap Some same ∙ sym (slice_get-get_or xs j d j_in)) in
    ⊎_elim (λ e. e) (λ differ. absurd (⊎_elim (λ before. once i j before j_in equal) (λ after. once j i after i_in (sym equal)) differ)) (cases_order i j)

-- links of a table that have one edge have the same two ends
pub same_ends : (rows : List EdgeRow) (directed : Bool) → IsWithoutRepeats (map (λ (row : EdgeRow). row.id) rows) → (link other : LinkOf ℤ)
    → IsLinkOfTable rows directed link → IsLinkOfTable rows directed other → link.edge ≡ other.edge → HasSameEnds link other
same_ends rows directed once link other (i, row, i_in, i_is, gives) (j, other_row, j_in, j_is, also) edges =
    let ids = map (λ (r : EdgeRow). r.id) rows in
    let at : (k : ℕ) → k < length rows → get_or ids k (pos 0) ≡ (get_or rows k row).id = λ k within. get_or-map (λ (r : EdgeRow). r.id) rows k row (pos 0) within in
    let edge : link.edge ≡ row.id = ap (λ (l : LinkOf ℤ). l.edge) gives.2 ∙ edge_along row gives.0 link.cost in
    let other_edge : other.edge ≡ other_row.id = ap (λ (l : LinkOf ℤ). l.edge) also.2 ∙ edge_along other_row also.0 other.cost in
    let at_j : get_or rows j row ≡ other_row = get_or_default rows j row other_row j_in ∙ j_is in
    let same : get_or ids i (pos 0) ≡ get_or ids j (pos 0) =
    at i i_in ∙ (ap (λ (r : EdgeRow). r.id) i_is ∙ (sym edge ∙ (edges ∙ (other_edge ∙ (ap (λ (r : EdgeRow). r.id) (sym at_j) ∙ sym (at j j_in)))))) in
    let long = length-map rows (λ (r : EdgeRow). r.id) in
    let place : i ≡ j = one_place ids once i j (pos 0) (omega (arith, i_in, long)) (omega (arith, j_in, long)) same in
    let one : other_row ≡ row = sym at_j ∙ (ap (λ k. get_or rows k row) (sym place) ∙ i_is) in
    let is : other ≡ link_along row also.0 other.cost = also.2 ∙ ap (λ (r : EdgeRow). link_along r also.0 other.cost) one in
    subst (λ (l : LinkOf ℤ). HasSameEnds l other) (sym gives.2)
    (subst (HasSameEnds (link_along row gives.0 link.cost)) (sym is) (same_along row gives.0 also.0 link.cost other.cost))

-- and so have the numbered links that stand for them
pub same_number_ends : (names : List ℤ) (Has : LinkOf ℕ → Type 0) (HasId : LinkOf ℤ → Type 0) → AreNamed names Has HasId
    → ((m n : ℕ) → m < length names → n < length names → id_at names m ≡ id_at names n → m ≡ n)
    → (link other : LinkOf ℕ) → Has link → Has other → HasSameEnds (named names link) (named names other) → HasSameEnds link other
same_number_ends names Has HasId are one link other has also same =
    let a : IsNumbered names link = are.ends link has in
    let b : IsNumbered names other = are.ends other also in
    ⊎_elim
    (λ e. inl (one other.from link.from b.0 a.0 e.0, one other.to link.to b.1 a.1 e.1))
    (λ e. inr (one other.from link.to b.0 a.1 e.0, one other.to link.from b.1 a.0 e.1))
    same

-- so there are few enough states: one for each vertex, and two at most for each id
pub few_states : (most count names ids : ℕ) → most ≤ count + 2 * ids → count ≡ names → names < 2 ^ 31 → ids ≤ most_elements → most < 2 ^ 32
few_states most count names ids at_most size few small = omega (arith, at_most, size, few, small)
