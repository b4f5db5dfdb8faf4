-- The links of rows, row by row: exactly those that the rows give, each once where the ids of the rows are distinct.
use Rattle.std.proofs.Common.{◌≡◌, ◌≢◌, ℕ, ◌⊎◌, inl, inr, ⊎_elim, ℤ, pos, negsuc, List, [], ◌∷◌, ◌++◌, map, Bool, true, false, if◌then◌else◌, refl, sym, ap, subst, ◌∙◌}
use Rattle.std.specs.List.{Contains}
use Rattle.std.specs.Option.{option_to_list}
use Rattle.std.specs.Ordering.{int_eq}
use Rattle.std.proofs.lemmas.Bool.Decides.{Decides-int_eq}
use Rattle.pgr_outside.specs.Lists.{IsWithoutRepeats}
use Rattle.pgr_walks.specs.declared.link.LinkOf.{LinkOf}
use Rattle.pgr_walks.proofs.Repeats.{Among, Apart, Apart-from_IsWithoutRepeats}
use Rattle.pgr_walks.proofs.Membership.{Among-from_Contains, Contains-from_Among, Among-left, Among-right, Among-cases, Among-map}
use Rattle.pgr_table.specs.declared.row.EdgeRow.{EdgeRow}
use Rattle.pgr_graph.specs.declared.links.Direction.{Direction}
use Rattle.pgr_graph.specs.declared.links.Direction.TheVariants.{Forward, Backward}
use Rattle.pgr_graph.specs.Links.{HasSense, link_along, IsLinkOfRow, IsLinkOfTable}
use Rattle.pgr_graph.specs.Senses.{link_of_sense}
use Rattle.pgr_graph.specs.RowLinks.{links_along, links_of_row, links_of_rows}

Apart-append : {X : Type 0} (xs ys : List X) → Apart xs → Apart ys → ((x : X) → Among x xs → Among x ys → ⊥) → Apart (xs ++ ys)
Apart-append [] ys a b none = b
Apart-append (x ∷ xs) ys a b none = (
  λ among. ⊎_elim a.0 (none x (inl refl)) (Among-cases x xs ys among),
  Apart-append xs ys a.1 b (λ z h k. none z (inr h) k),
)

-- a link along a row has its edge and its cost
along_edge : (row : EdgeRow) (direction : Direction) (n : ℕ) → (link_along row direction n).edge ≡ row.id
along_edge row Forward n = refl
along_edge row Backward n = refl

pub along_cost : (row : EdgeRow) (direction : Direction) (n : ℕ) → (link_along row direction n).cost ≡ n
along_cost row Forward n = refl
along_cost row Backward n = refl

-- what one direction of a row gives for a cost, as a list
abbrev pub sense : EdgeRow → Direction → ℤ → List (LinkOf ℤ)
sense row direction cost = option_to_list (link_of_sense row direction cost)

among_sense : (row : EdgeRow) (direction : Direction) (cost : ℤ) (link : LinkOf ℤ) → Among link (sense row direction cost)
    → (cost ≡ pos link.cost) × (link ≡ link_along row direction link.cost)
among_sense row direction (pos n) link (inl e) =
    let cost : n ≡ link.cost = sym (along_cost row direction n) ∙ ap (λ (l : LinkOf ℤ). l.cost) e in
    (ap pos cost, sym e ∙ ap (link_along row direction) cost)
among_sense row direction (pos n) link (inr h) = absurd h
among_sense row direction (negsuc n) link h = absurd h

sense_among : (row : EdgeRow) (direction : Direction) (cost : ℤ) (link : LinkOf ℤ) → cost ≡ pos link.cost → link ≡ link_along row direction link.cost
    → Among link (sense row direction cost)
sense_among row direction (pos n) link has is = let cost : n ≡ link.cost = cc has in inl (ap (link_along row direction) cost ∙ sym is)
sense_among row direction (negsuc n) link has is = cc has

apart_sense : (row : EdgeRow) (direction : Direction) (cost : ℤ) → Apart (sense row direction cost)
apart_sense row direction (pos n) = (λ h. h, tt)
apart_sense row direction (negsuc n) = tt

-- both costs of a row in one direction, by whether they are equal
abbrev pub both_by : Bool → EdgeRow → Direction → List (LinkOf ℤ)
both_by same row direction = if same then sense row direction row.cost else sense row direction row.cost ++ sense row direction row.reverse_cost

among_both : (row : EdgeRow) (direction : Direction) (link : LinkOf ℤ) → Among link (links_along row direction)
    → ((row.cost ≡ pos link.cost) ⊎ (row.reverse_cost ≡ pos link.cost)) × (link ≡ link_along row direction link.cost)
among_both row direction link = by (int_eq row.cost row.reverse_cost)
  where
    by : (same : Bool) → Among link (both_by same row direction)
        → ((row.cost ≡ pos link.cost) ⊎ (row.reverse_cost ≡ pos link.cost)) × (link ≡ link_along row direction link.cost)
    by true h = let a = among_sense row direction row.cost link h in (inl a.0, a.1)
    by false h = ⊎_elim
        (λ k. let a = among_sense row direction row.cost link k in (inl a.0, a.1))
        (λ k. let a = among_sense row direction row.reverse_cost link k in (inr a.0, a.1))
        (Among-cases link (sense row direction row.cost) (sense row direction row.reverse_cost) h)

both_among : (row : EdgeRow) (direction : Direction) (link : LinkOf ℤ) → (row.cost ≡ pos link.cost) ⊎ (row.reverse_cost ≡ pos link.cost)
    → link ≡ link_along row direction link.cost → Among link (links_along row direction)
both_among row direction link has is = by (int_eq row.cost row.reverse_cost) (Decides-int_eq row.cost row.reverse_cost).0 has
  where
    by : (same : Bool) → (same ≡ true → row.cost ≡ row.reverse_cost) → (row.cost ≡ pos link.cost) ⊎ (row.reverse_cost ≡ pos link.cost)
        → Among link (both_by same row direction)
    by true equal (inl e) = sense_among row direction row.cost link e is
    by true equal (inr e) = sense_among row direction row.cost link (equal refl ∙ e) is
    by false equal (inl e) = Among-left link (sense row direction row.cost) (sense row direction row.reverse_cost) (sense_among row direction row.cost link e is)
    by false equal (inr e) = Among-right link (sense row direction row.cost) (sense row direction row.reverse_cost) (sense_among row direction row.reverse_cost link e is)

apart_both : (row : EdgeRow) (direction : Direction) → Apart (links_along row direction)
apart_both row direction = by (int_eq row.cost row.reverse_cost) (Decides-int_eq row.cost row.reverse_cost).1
  where
    by : (same : Bool) → (row.cost ≡ row.reverse_cost → same ≡ true) → Apart (both_by same row direction)
    by true same = apart_sense row direction row.cost
    by false same = Apart-append (sense row direction row.cost) (sense row direction row.reverse_cost) (apart_sense row direction row.cost)
        (apart_sense row direction row.reverse_cost)
        (λ link h k. cc (same ((among_sense row direction row.cost link h).0 ∙ sym (among_sense row direction row.reverse_cost link k).0)))

-- of a row that is no self loop no link is both one way and the other
one_way : (row : EdgeRow) (link : LinkOf ℤ) → row.source ≢ row.target → link ≡ link_along row Forward link.cost → link ≡ link_along row Backward link.cost → ⊥
one_way row link apart there back = apart (sym (ap (λ (l : LinkOf ℤ). l.from) there) ∙ ap (λ (l : LinkOf ℤ). l.from) back)

-- of a self loop the links both ways are the same
same_ways : (row : EdgeRow) (n : ℕ) → row.source ≡ row.target → link_along row Backward n ≡ link_along row Forward n
same_ways row n e = cc e

-- the links of a row, by whether it is a self loop
abbrev pub links_by : Bool → Bool → EdgeRow → List (LinkOf ℤ)
links_by loop directed row =
    if loop then links_along row Forward
    else if directed then sense row Forward row.cost ++ sense row Backward row.reverse_cost
    else links_along row Forward ++ links_along row Backward

apart_by : (loop directed : Bool) (row : EdgeRow) → (loop ≡ false → row.source ≢ row.target) → Apart (links_by loop directed row)
apart_by true directed row none = apart_both row Forward
apart_by false true row none = Apart-append (sense row Forward row.cost) (sense row Backward row.reverse_cost) (apart_sense row Forward row.cost)
    (apart_sense row Backward row.reverse_cost)
    (λ link h k. one_way row link (none refl) (among_sense row Forward row.cost link h).1 (among_sense row Backward row.reverse_cost link k).1)
apart_by false false row none = Apart-append (links_along row Forward) (links_along row Backward) (apart_both row Forward) (apart_both row Backward)
    (λ link h k. one_way row link (none refl) (among_both row Forward link h).1 (among_both row Backward link k).1)

given_by : (loop directed : Bool) (row : EdgeRow) (link : LinkOf ℤ) → (loop ≡ true → row.source ≡ row.target) → Among link (links_by loop directed row)
    → IsLinkOfRow directed row link
given_by true true row link same h =
    let a = among_both row Forward link h in
    ⊎_elim (λ e. (Forward, e, a.1)) (λ e. (Backward, e, a.1 ∙ sym (same_ways row link.cost (same refl)))) a.0
given_by true false row link same h = let a = among_both row Forward link h in (Forward, a.0, a.1)
given_by false true row link same h = ⊎_elim
    (λ k. let a = among_sense row Forward row.cost link k in (Forward, a.0, a.1))
    (λ k. let a = among_sense row Backward row.reverse_cost link k in (Backward, a.0, a.1))
    (Among-cases link (sense row Forward row.cost) (sense row Backward row.reverse_cost) h)
given_by false false row link same h = ⊎_elim
    (λ k. let a = among_both row Forward link k in (Forward, a.0, a.1))
    (λ k. let a = among_both row Backward link k in (Backward, a.0, a.1))
    (Among-cases link (links_along row Forward) (links_along row Backward) h)

by_given : (loop directed : Bool) (row : EdgeRow) (link : LinkOf ℤ) → (loop ≡ true → row.source ≡ row.target) → (direction : Direction)
    → HasSense directed row direction link.cost → link ≡ link_along row direction link.cost → Among link (links_by loop directed row)
by_given true true row link same Forward has is = both_among row Forward link (inl has) is
by_given true true row link same Backward has is = both_among row Forward link (inr has) (is ∙ same_ways row link.cost (same refl))
by_given true false row link same Forward has is = both_among row Forward link has is
by_given true false row link same Backward has is = both_among row Forward link has (is ∙ same_ways row link.cost (same refl))
by_given false true row link same Forward has is = Among-left link (sense row Forward row.cost) (sense row Backward row.reverse_cost) (sense_among row Forward row.cost link has is)
by_given false true row link same Backward has is = Among-right link (sense row Forward row.cost) (sense row Backward row.reverse_cost)
    (sense_among row Backward row.reverse_cost link has is)
by_given false false row link same Forward has is = Among-left link (links_along row Forward) (links_along row Backward) (both_among row Forward link has is)
by_given false false row link same Backward has is = Among-right link (links_along row Forward) (links_along row Backward) (both_among row Backward link has is)

loop_yes : (row : EdgeRow) → int_eq row.source row.target ≡ true → row.source ≡ row.target
loop_yes row = (Decides-int_eq row.source row.target).0

loop_no : (row : EdgeRow) → int_eq row.source row.target ≡ false → row.source ≢ row.target
loop_no row apart same = cc ((Decides-int_eq row.source row.target).1 same)

-- the links of a row are those that it gives
row_gives : (directed : Bool) (row : EdgeRow) (link : LinkOf ℤ) → Among link (links_of_row directed row) → IsLinkOfRow directed row link
row_gives directed row link h = given_by (int_eq row.source row.target) directed row link (loop_yes row) h

gives_row : (directed : Bool) (row : EdgeRow) (link : LinkOf ℤ) → IsLinkOfRow directed row link → Among link (links_of_row directed row)
gives_row directed row link has = by_given (int_eq row.source row.target) directed row link (loop_yes row) has.0 has.1 has.2

row_edge : (directed : Bool) (row : EdgeRow) (link : LinkOf ℤ) → Among link (links_of_row directed row) → link.edge ≡ row.id
row_edge directed row link h =
    let given = row_gives directed row link h in ap (λ (l : LinkOf ℤ). l.edge) given.2 ∙ along_edge row given.0 link.cost

-- a link of rows is one of some row
among_rows : (directed : Bool) (rows : List EdgeRow) (link : LinkOf ℤ) → Among link (links_of_rows directed rows)
    → (row : EdgeRow) × Among row rows × Among link (links_of_row directed row)
among_rows directed [] link h = absurd h
among_rows directed (row ∷ rows) link h = ⊎_elim (λ k. (row, inl refl, k)) (λ k. let more = among_rows directed rows link k in (more.0, inr more.1, more.2))
    (Among-cases link (links_of_row directed row) (links_of_rows directed rows) h)

rows_among : (directed : Bool) (rows : List EdgeRow) (link : LinkOf ℤ) (row : EdgeRow) → Among row rows → Among link (links_of_row directed row)
    → Among link (links_of_rows directed rows)
rows_among directed [] link row h k = absurd h
rows_among directed (first ∷ rows) link row (inl e) k = Among-left link (links_of_row directed first) (links_of_rows directed rows)
    (subst (λ (r : EdgeRow). Among link (links_of_row directed r)) (sym e) k)
rows_among directed (first ∷ rows) link row (inr h) k = Among-right link (links_of_row directed first) (links_of_rows directed rows)
    (rows_among directed rows link row h k)

-- the links of rows with different ids are different
apart_rows : (directed : Bool) (rows : List EdgeRow) → Apart (map (λ (r : EdgeRow). r.id) rows) → Apart (links_of_rows directed rows)
apart_rows directed [] apart = tt
apart_rows directed (row ∷ rows) apart = Apart-append (links_of_row directed row) (links_of_rows directed rows)
    (apart_by (int_eq row.source row.target) directed row (loop_no row)) (apart_rows directed rows apart.1) (λ link h k.
    let later = among_rows directed rows link k in
    let here = row_edge directed row link h in
    let behind = row_edge directed later.0 link later.2 in
    apart.0 (subst (λ (id : ℤ). Among id (map (λ (r : EdgeRow). r.id) rows)) (sym behind ∙ here) (Among-map (λ (r : EdgeRow). r.id) rows later.0 later.1)))

pub rows_apart : (directed : Bool) (rows : List EdgeRow) → IsWithoutRepeats (map (λ (r : EdgeRow). r.id) rows) → Apart (links_of_rows directed rows)
rows_apart directed rows ids = apart_rows directed rows (Apart-from_IsWithoutRepeats (map (λ (r : EdgeRow). r.id) rows) ids)

-- they are the links of the table
pub table_from_rows : (directed : Bool) (rows : List EdgeRow) (link : LinkOf ℤ) → Contains (links_of_rows directed rows) link → IsLinkOfTable rows directed link
table_from_rows directed rows link h =
    let at = among_rows directed rows link (Among-from_Contains link (links_of_rows directed rows) h) in
    let place = Contains-from_Among at.0 rows at.1 in
    (place.0, at.0, place.1, place.2, row_gives directed at.0 link at.2)

pub rows_from_table : (directed : Bool) (rows : List EdgeRow) (link : LinkOf ℤ) → IsLinkOfTable rows directed link → Contains (links_of_rows directed rows) link
rows_from_table directed rows link has = Contains-from_Among link (links_of_rows directed rows)
    (rows_among directed rows link has.1 (Among-from_Contains has.1 rows (has.0, has.2, has.3)) (gives_row directed has.1 link has.4))
