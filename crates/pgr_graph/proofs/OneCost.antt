-- What the links of a table cost, however they are listed: lists without repeats that have the same elements have the same sum, and
-- one such list is made row by row.
use Rattle.std.proofs.Common.{◌≡◌, ◌+◌, ◌*◌, ◌⊎◌, ◌↔◌, inl, inr, ⊎_elim, ℤ, pos, negsuc, List, [], ◌∷◌, map, Bool, true, false, if◌then◌else◌, refl, sym, ap, subst, arith, ◌∙◌}
use Rattle.std.specs.List.{Contains}
use Rattle.std.specs.Ordering.{int_eq}
use Rattle.std.proofs.lemmas.List.Sums.{sum_by-cons}
use Rattle.pgr_outside.specs.Lists.{IsWithoutRepeats}
use Rattle.pgr_walks.specs.declared.link.LinkOf.{LinkOf}
use Rattle.pgr_walks.specs.Walk.{cost_of}
use Rattle.pgr_walks.proofs.Repeats.{Among, Apart, Apart-from_IsWithoutRepeats}
use Rattle.pgr_walks.proofs.Membership.{Among-from_Contains, Contains-from_Among}
use Rattle.pgr_walks.proofs.BackWalks.{cost_of-append}
use Rattle.pgr_table.specs.declared.row.EdgeRow.{EdgeRow}
use Rattle.pgr_table.specs.Rows.{counted}
use Rattle.pgr_graph.specs.declared.links.Direction.{Direction}
use Rattle.pgr_graph.specs.declared.links.Direction.TheVariants.{Forward, Backward}
use Rattle.pgr_graph.specs.Links.{IsLinkOfTable}
use Rattle.pgr_graph.specs.RowLinks.{links_along, links_of_row, links_of_rows}
use Rattle.pgr_graph.specs.Restricted.{each_once, links_cost, table_cost}
use Rattle.pgr_graph.proofs.RowLinks.{sense, both_by, links_by, along_cost, rows_apart, table_from_rows, rows_from_table}

-- what is left of links without one of them
record IsWithout (link : LinkOf ℤ) (links rest : List (LinkOf ℤ)) : Type 0 where
  cost : cost_of links ≡ link.cost + cost_of rest
  apart : Apart links → Apart rest
  kept : (other : LinkOf ℤ) → Among other rest → Among other links
  split : (other : LinkOf ℤ) → Among other links → (link ≡ other) ⊎ Among other rest
  gone : Apart links → Among link rest → ⊥

without : (link : LinkOf ℤ) (links : List (LinkOf ℤ)) → Among link links → (rest : List (LinkOf ℤ)) × IsWithout link links rest
without link [] h = absurd h
without link (first ∷ links) (inl e) = (
  links,
  record {
    cost = ap (λ (l : LinkOf ℤ). l.cost + cost_of links) e;
    apart = λ apart. apart.1;
    kept = λ other among. inr among;
    split = λ other among. ⊎_elim (λ (same : first ≡ other). inl (sym e ∙ same)) inr among;
    gone = λ apart among. apart.0 (subst (λ (l : LinkOf ℤ). Among l links) (sym e) among);
  },
)
without link (first ∷ links) (inr h) =
    let rest = without link links h in (
      first ∷ rest.0,
      record {
        cost = let less = rest.1.cost in omega arith;
        apart = λ apart. (λ among. apart.0 (rest.1.kept first among), rest.1.apart apart.1);
        kept = λ other among. ⊎_elim inl (λ more. inr (rest.1.kept other more)) among;
        split = λ other among. ⊎_elim (λ same. inr (inl same)) (λ more. ⊎_elim inl (λ later. inr (inr later)) (rest.1.split other more)) among;
        gone = λ apart among. ⊎_elim (λ (same : first ≡ link). apart.0 (subst (λ (l : LinkOf ℤ). Among l links) (sym same) h)) (rest.1.gone apart.1) among;
      },
    )

-- lists without repeats that have the same elements cost the same
pub same_cost : (xs ys : List (LinkOf ℤ)) → Apart xs → Apart ys → ((link : LinkOf ℤ) → Among link xs → Among link ys) → ((link : LinkOf ℤ) → Among link ys → Among link xs)
    → cost_of xs ≡ cost_of ys
same_cost [] [] a b to from = refl
same_cost [] (y ∷ ys) a b to from = absurd (from y (inl refl))
same_cost (x ∷ xs) ys a b to from =
    let rest = without x ys (to x (inl refl)) in
    let less = rest.1.cost in
    let more = same_cost xs rest.0 a.1 (rest.1.apart b)
    (λ link among. ⊎_elim (λ (same : x ≡ link). absurd (a.0 (subst (λ (l : LinkOf ℤ). Among l xs) (sym same) among))) (λ h. h) (rest.1.split link (to link (inr among))))
    (λ link among. ⊎_elim (λ (same : x ≡ link). absurd (rest.1.gone b (subst (λ (l : LinkOf ℤ). Among l rest.0) (sym same) among))) (λ h. h)
    (from link (rest.1.kept link among))) in
    omega arith

-- what the links of a row cost
cost_sense : (row : EdgeRow) (direction : Direction) (cost : ℤ) → cost_of (sense row direction cost) ≡ counted cost
cost_sense row direction (pos n) = let cost = along_cost row direction n in omega arith
cost_sense row direction (negsuc n) = refl

cost_both : (row : EdgeRow) (direction : Direction) → cost_of (links_along row direction) ≡ each_once row.cost row.reverse_cost
cost_both row direction = by (int_eq row.cost row.reverse_cost)
  where
    by : (same : Bool) → cost_of (both_by same row direction) ≡ (if same then counted row.cost else counted row.cost + counted row.reverse_cost)
    by true = cost_sense row direction row.cost
    by false = cost_of-append (sense row direction row.cost) (sense row direction row.reverse_cost)
        ∙ rw (cost_sense row direction row.cost, cost_sense row direction row.reverse_cost) refl

cost_by : (loop directed : Bool) (row : EdgeRow) → cost_of (links_by loop directed row) ≡ (if loop then each_once row.cost row.reverse_cost
    else if directed then counted row.cost + counted row.reverse_cost else 2 * each_once row.cost row.reverse_cost)
cost_by true directed row = cost_both row Forward
cost_by false true row =
    let forward = cost_sense row Forward row.cost in
    let backward = cost_sense row Backward row.reverse_cost in
    let both = cost_of-append (sense row Forward row.cost) (sense row Backward row.reverse_cost) in
    omega arith
cost_by false false row =
    let forward = cost_both row Forward in
    let backward = cost_both row Backward in
    let both = cost_of-append (links_along row Forward) (links_along row Backward) in
    omega arith

-- and those of all rows
cost_rows : (directed : Bool) (rows : List EdgeRow) → cost_of (links_of_rows directed rows) ≡ table_cost directed rows
cost_rows directed [] = refl
cost_rows directed (row ∷ rows) =
    let first : cost_of (links_of_row directed row) ≡ links_cost directed row = cost_by (int_eq row.source row.target) directed row in
    let more = cost_rows directed rows in
    let both = cost_of-append (links_of_row directed row) (links_of_rows directed rows) in
    let sums : table_cost directed (row ∷ rows) ≡ links_cost directed row + table_cost directed rows = sum_by-cons (links_cost directed) row rows in
    omega arith

-- links that are those of a table, each once, cost what its rows say
pub one_cost : (rows : List EdgeRow) (directed : Bool) (links : List (LinkOf ℤ)) → IsWithoutRepeats (map (λ (r : EdgeRow). r.id) rows) → IsWithoutRepeats links
    → ((link : LinkOf ℤ) → Contains links link ↔ IsLinkOfTable rows directed link) → cost_of links ≡ table_cost directed rows
one_cost rows directed links ids apart are = same_cost links (links_of_rows directed rows) (Apart-from_IsWithoutRepeats links apart) (rows_apart directed rows ids)
    (λ link among. Among-from_Contains link (links_of_rows directed rows) (rows_from_table directed rows link ((are link).0 (Contains-from_Among link links among))))
    (λ link among. Among-from_Contains link links ((are link).1 (table_from_rows directed rows link (Contains-from_Among link (links_of_rows directed rows) among))))
    ∙ cost_rows directed rows
