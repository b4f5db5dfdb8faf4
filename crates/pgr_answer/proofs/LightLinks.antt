-- Links of a table as a contraction asks for them: the edges are ids, an undirected link has its opposite, and together they weigh at most what the rows do,
-- since of two opposite links of the undirected graph one counts, and that is one way along its row.
use Rattle.std.proofs.Common.{◌≡◌, ◌⊎◌, inl, inr, ⊎_elim, ◌↔◌, ℕ, ◌+◌, ◌≤◌, ℤ, pos, negsuc, Bool, true, false, not, if◌then◌else◌, List, [], ◌∷◌, ◌++◌, refl, sym, ap, subst, ◌∙◌, arith, Ordering, Less, Equal, Greater}
use Rattle.std.specs.Prelude.{Contains}
use Rattle.std.specs.Ordering.{int_cmp, is_gt, ordering_reverse}
use Rattle.std.proofs.lemmas.Cmp.{int_cmp_total}
use Rattle.std.proofs.lemmas.List.Elements.{All-contains}
use Rattle.std.proofs.lemmas.List.Sums.{sum_by-cons}
use Rattle.pgr_outside.specs.Lists.{IsWithoutRepeats}
use Rattle.pgr_walks.specs.declared.link.LinkOf.{LinkOf}
use Rattle.pgr_walks.specs.LinkOrders.{int_tie}
use Rattle.pgr_walks.specs.Walk.{cost_of}
use Rattle.pgr_walks.specs.Reaches.{turned}
use Rattle.pgr_walks.proofs.Repeats.{Among, Apart, Apart-from_IsWithoutRepeats}
use Rattle.pgr_walks.proofs.Membership.{Among-left, Among-right, Among-from_Contains, Contains-from_Among}
use Rattle.pgr_walks.proofs.BackWalks.{cost_of-append}
use Rattle.pgr_table.specs.declared.row.EdgeRow.{EdgeRow}
use Rattle.pgr_table.specs.Rows.{counted, greatest}
use Rattle.pgr_table.specs.Edges.{HasIds, AreAccepted, costs_of, sum_of_costs}
use Rattle.pgr_graph.specs.declared.links.Direction.{Direction}
use Rattle.pgr_graph.specs.declared.links.Direction.TheVariants.{Forward, Backward}
use Rattle.pgr_graph.specs.Links.{link_along, IsLinkOfRow, IsLinkOfTable}
use Rattle.pgr_contract.specs.Given.{AreGiven, HaveOpposites}
use Rattle.pgr_contract.specs.Weight.{counts, weight}
use Rattle.pgr_contract.specs.Weight as heavy

-- ---- a list without repeats weighs at most what one costs that has all of its links that count

-- what is left of links without one of them
without : (link : LinkOf ℤ) (links : List (LinkOf ℤ)) → Among link links
    → (rest : List (LinkOf ℤ)) × ((cost_of links ≡ link.cost + cost_of rest) × ((other : LinkOf ℤ) → Among other links → (link ≡ other) ⊎ Among other rest))
without link [] h = absurd h
without link (first ∷ links) (inl e) = (
  links,
  (ap (λ (l : LinkOf ℤ). l.cost + cost_of links) e, λ other among. ⊎_elim (λ (same : first ≡ other). inl (sym e ∙ same)) inr among),
)
without link (first ∷ links) (inr h) =
    let (rest, (cost, split)) = without link links h in (
      first ∷ rest,
      (omega (arith, cost), λ other among. ⊎_elim (λ same. inr (inl same)) (λ more. ⊎_elim inl (λ later. inr (inr later)) (split other more)) among),
    )

weight_below : (directed : Bool) (xs ys : List (LinkOf ℤ)) → Apart xs → ((link : LinkOf ℤ) → Among link xs → counts directed link ≡ true → Among link ys)
    → weight directed xs ≤ cost_of ys
weight_below directed [] ys apart among = omega arith
weight_below directed (x ∷ xs) ys apart among =
    by (counts directed x) refl (sum_by-cons (heavy.counted directed) x xs) (λ zs h. weight_below directed xs zs apart.1 h)
  where
    by : (b : Bool)
        → counts directed x ≡ b
        → weight directed (x ∷ xs) ≡ (if counts directed x then x.cost else 0) + weight directed xs
        → ((zs : List (LinkOf ℤ)) → ((link : LinkOf ℤ) → Among link xs → counts directed link ≡ true → Among link zs) → weight directed xs ≤ cost_of zs)
        → weight directed (x ∷ xs) ≤ cost_of ys
    by true is sum later =
        let (rest, (cost, split)) = without x ys (among x (inl refl) is) in
        let more = later rest
        (λ link here counts_too. ⊎_elim (λ (same : x ≡ link). absurd (apart.0 (subst (λ (l : LinkOf ℤ). Among l xs) (sym same) here))) (λ h. h)
        (split link (among link (inr here) counts_too))) in
        let whole : weight directed (x ∷ xs) ≡ x.cost + weight directed xs = sum ∙ ap (λ b. (if b then x.cost else 0) + weight directed xs) is in
        omega (arith, cost, more, whole)
    by false is sum later =
        let more = later ys (λ link here. among link (inr here)) in
        let whole : weight directed (x ∷ xs) ≡ 0 + weight directed xs = sum ∙ ap (λ b. (if b then x.cost else 0) + weight directed xs) is in
        omega (arith, more, whole)

-- ---- the links of rows that count

-- the way along a row that doesn't lead to a lesser vertex, by whether its source is greater than its target
abbrev way : Bool → Direction
way true = Backward
way false = Forward

abbrev up : EdgeRow → ℕ → LinkOf ℤ
up row = link_along row (way (is_gt (int_cmp row.source row.target)))

-- the link of a cost, where that isn't negative
abbrev there : (ℕ → LinkOf ℤ) → ℤ → List (LinkOf ℤ)
there along (pos n) = along n ∷ []
there along (negsuc n) = []

abbrev links_row : Bool → EdgeRow → List (LinkOf ℤ)
links_row true row = there (link_along row Forward) row.cost ++ there (link_along row Backward) row.reverse_cost
links_row false row = there (up row) row.cost ++ there (up row) row.reverse_cost

abbrev links_table : Bool → List EdgeRow → List (LinkOf ℤ)
links_table directed [] = []
links_table directed (row ∷ rows) = links_row directed row ++ links_table directed rows

along_cost : (row : EdgeRow) (direction : Direction) (n : ℕ) → (link_along row direction n).cost ≡ n
along_cost row Forward n = refl
along_cost row Backward n = refl

along_edge : (row : EdgeRow) (direction : Direction) (n : ℕ) → (link_along row direction n).edge ≡ row.id
along_edge row Forward n = refl
along_edge row Backward n = refl

there_cost : (row : EdgeRow) (direction : Direction) (cost : ℤ) → cost_of (there (link_along row direction) cost) ≡ counted cost
there_cost row direction (pos n) = let e = along_cost row direction n in omega (arith, e)
there_cost row direction (negsuc n) = refl

row_cost : (directed : Bool) (row : EdgeRow) → cost_of (links_row directed row) ≡ costs_of row
row_cost true row =
    let first = there_cost row Forward row.cost in
    let second = there_cost row Backward row.reverse_cost in
    cost_of-append (there (link_along row Forward) row.cost) (there (link_along row Backward) row.reverse_cost) ∙ omega (arith, first, second)
row_cost false row =
    let along = way (is_gt (int_cmp row.source row.target)) in
    let first = there_cost row along row.cost in
    let second = there_cost row along row.reverse_cost in
    cost_of-append (there (up row) row.cost) (there (up row) row.reverse_cost) ∙ omega (arith, first, second)

table_cost : (directed : Bool) (rows : List EdgeRow) → cost_of (links_table directed rows) ≡ sum_of_costs rows
table_cost directed [] = refl
table_cost directed (row ∷ rows) =
    let first = row_cost directed row in
    let more = table_cost directed rows in
    let sums = sum_by-cons costs_of row rows in
    cost_of-append (links_row directed row) (links_table directed rows) ∙ omega (arith, first, more, sums)

-- the link of a cost stands there
stands : (along : ℕ → LinkOf ℤ) (cost : ℤ) (link : LinkOf ℤ) → cost ≡ pos link.cost → link ≡ along link.cost → Among link (there along cost)
stands along cost link is same = subst (λ z. Among link (there along z)) (sym is) (inl (sym same))

-- neither of two ends is greater: they are one
one_end : (s t : ℤ) → is_gt (int_cmp s t) ≡ false → is_gt (int_cmp t s) ≡ false → s ≡ t
one_end s t low high = int_tie s t (by (int_cmp s t) (int_cmp t s) (int_cmp_total.antisymm t s) low high)
  where
    by : (o p : Ordering) → p ≡ ordering_reverse o → is_gt o ≡ false → is_gt p ≡ false → o ≡ Equal
    by Equal p e a b = refl
    by Greater p e a b = absurd cc
    by Less p e a b = absurd cc

-- a link along a row that counts in the undirected graph leads up
leads_up : (row : EdgeRow) (direction : Direction) (n : ℕ) → counts false (link_along row direction n) ≡ true → link_along row direction n ≡ up row n
leads_up row Forward n = by (is_gt (int_cmp row.source row.target))
  where
    by : (b : Bool) → not b ≡ true → link_along row Forward n ≡ link_along row (way b) n
    by true e = absurd cc
    by false e = refl
leads_up row Backward n = by (is_gt (int_cmp row.source row.target)) (is_gt (int_cmp row.target row.source)) refl refl
  where
    same_ways : row.source ≡ row.target → link_along row Backward n ≡ link_along row Forward n
    same_ways e = cc e

    by : (b c : Bool)
        → is_gt (int_cmp row.source row.target) ≡ b
        → is_gt (int_cmp row.target row.source) ≡ c
        → not c ≡ true
        → link_along row Backward n ≡ link_along row (way b) n
    by true c low high e = refl
    by false true low high e = absurd cc
    by false false low high e = same_ways (one_end row.source row.target low high)

-- a link of a row that counts is one of these
counted_among : (directed : Bool) (row : EdgeRow) (link : LinkOf ℤ) → IsLinkOfRow directed row link → counts directed link ≡ true → Among link (links_row directed row)
counted_among true row link (Forward, sense, is) e =
    Among-left link (there (link_along row Forward) row.cost) (there (link_along row Backward) row.reverse_cost) (stands (link_along row Forward) row.cost link sense is)
counted_among true row link (Backward, sense, is) e =
    Among-right link (there (link_along row Forward) row.cost) (there (link_along row Backward) row.reverse_cost)
    (stands (link_along row Backward) row.reverse_cost link sense is)
counted_among false row link (direction, sense, is) e =
    let same : link ≡ up row link.cost = is ∙ leads_up row direction link.cost (subst (λ (l : LinkOf ℤ). counts false l ≡ true) is e) in
    ⊎_elim (λ here. Among-left link (there (up row) row.cost) (there (up row) row.reverse_cost) (stands (up row) row.cost link here same))
    (λ here. Among-right link (there (up row) row.cost) (there (up row) row.reverse_cost) (stands (up row) row.reverse_cost link here same)) sense

table_among : (directed : Bool) (rows : List EdgeRow) (link : LinkOf ℤ) (row : EdgeRow) → Among row rows → Among link (links_row directed row)
    → Among link (links_table directed rows)
table_among directed [] link row h k = absurd h
table_among directed (first ∷ rows) link row (inl e) k = Among-left link (links_row directed first) (links_table directed rows)
    (subst (λ (r : EdgeRow). Among link (links_row directed r)) (sym e) k)
table_among directed (first ∷ rows) link row (inr h) k =
    Among-right link (links_row directed first) (links_table directed rows) (table_among directed rows link row h k)

-- ---- what a contraction asks of links

module _ (rows : List EdgeRow) (directed : Bool) (links : List (LinkOf ℤ)) (accepted : AreAccepted rows)
    (are : (link : LinkOf ℤ) → Contains links link ↔ IsLinkOfTable rows directed link) where
  -- they weigh at most 2^63 - 1
  pub table_is_light : IsWithoutRepeats links → weight directed links ≤ greatest
  table_is_light once =
      let below = weight_below directed links (links_table directed rows) (Apart-from_IsWithoutRepeats links once)
      (λ link among is_counted. let (k, row, inside, at, gives) = (are link).0 (Contains-from_Among link links among) in
      table_among directed rows link row (Among-from_Contains row rows (k, inside, at)) (counted_among directed row link gives is_counted)) in
      let sum = table_cost directed rows in
      omega (arith, below, sum, accepted.sum)

  -- their edges aren't negative
  pub table_is_given : AreGiven links
  table_is_given link has =
      let (k, row, inside, at, (direction, sense, is)) = (are link).0 has in
      let (n, id, most) = (All-contains HasIds rows row accepted.ids (k, inside, at)).id in
      (n, ap (λ (l : LinkOf ℤ). l.edge) is ∙ along_edge row direction link.cost ∙ id)

-- the other way along a row
abbrev other : Direction → Direction
other Forward = Backward
other Backward = Forward

turned_along : (row : EdgeRow) (direction : Direction) (n : ℕ) → turned (link_along row direction n) ≡ link_along row (other direction) n
turned_along row Forward n = refl
turned_along row Backward n = refl

-- in the undirected graph each has its opposite
pub table_has_opposites : (rows : List EdgeRow) (directed : Bool) (links : List (LinkOf ℤ))
    → ((link : LinkOf ℤ) → Contains links link ↔ IsLinkOfTable rows directed link) → directed ≡ false → HaveOpposites links
table_has_opposites rows true links are e link has = absurd cc
table_has_opposites rows false links are e link has =
    let (k, row, inside, at, (direction, sense, is)) = (are link).0 has in
    (are (turned link)).1 (k, row, inside, at, (other direction, sense, ap turned is ∙ turned_along row direction link.cost))
