-- The allowed routes that are found for the pairs of a network, as a table over the links that it has.
use Rattle.std.proofs.Common.{◌≡◌, ◌≢◌, ℕ, ℤ, ◌<◌, List, [], length, map, ap, subst}
use Rattle.std.specs.Prelude.{◌↔◌, All, Contains}
use Rattle.std.specs.Ordering.{int_cmp, nat_cmp}
use Rattle.pgr_outside.specs.Lists.{IsStrictlyRising}
use Rattle.pgr_walks.specs.declared.link.LinkOf.{LinkOf}
use Rattle.pgr_numbers.specs.Names.{AreEnds, IsNumbered, id_at, named}
use Rattle.pgr_turns.specs.Restrictions.{nonempty, IsAllowedWalk}
use Rattle.pgr_rows.specs.declared.rows.PathRow.{PathRow}
use Rattle.pgr_rows.specs.declared.rows.Rows.TheVariants.{Paths}
use Rattle.pgr_answer.specs.declared.pair.Pair.{Pair}
use Rattle.pgr_answer.specs.declared.found.Found.{Found}
use Rattle.pgr_answer.specs.AllowedRoutes.{IsAllowedRoute, allowed_over}
use Rattle.pgr_answer.specs.Answers.{AreAnswersBy}
use Rattle.pgr_answer.specs.Finding.{found_cmp, AreFoundBy}
use Rattle.pgr_answer.specs.Found.{seen, answer_of, walks_found}
use Rattle.pgr_answer.specs.Gathering.{IsNumberedPair}
use Rattle.pgr_answer.specs.Paths.{path_table}
use Rattle.pgr_answer.specs.Trsp.{IsAllowedTable, IsLeastAllowed}
use Rattle.pgr_answer.proofs.AllowedById.{walk_by_some, least_by_all}
use Rattle.pgr_answer.proofs.AnswersAlong.{answers-seen, answers-over_by}
use Rattle.pgr_answer.proofs.TablesFound.{map-both, answers_found}

module _ (names : List ℤ) (Asked : ℤ → ℤ → Type 0) (pairs : List Pair) (are_pairs : (pair : Pair) → Contains pairs pair ↔ IsNumberedPair names Asked pair)
    (links : List (LinkOf ℤ)) (are_ends : AreEnds links names)
    (order : (m n : ℕ) → m < length names → n < length names → int_cmp (id_at names m) (id_at names n) ≡ nat_cmp m n)
    (one : (m n : ℕ) → m < length names → n < length names → id_at names m ≡ id_at names n → m ≡ n)
    (Has : LinkOf ℤ → Type 0) (exactly : (link : LinkOf ℤ) → Contains links link ↔ Has link) (restrictions : List (List ℤ)) where
  -- the rows of the allowed routes that are found are a table of the paths that meet no restriction
  pub allowed_table_found : (found : List (Found (List (LinkOf ℕ)))) (rows : List PathRow)
      → AreFoundBy (allowed_over links (nonempty restrictions)) (IsAllowedRoute links (nonempty restrictions) names) names pairs found
      → IsStrictlyRising found_cmp found
      → rows ≡ path_table (walks_found names found)
      → IsAllowedTable Has restrictions Asked (Paths rows)
  allowed_table_found found rows are rise rows_are =
      let Leads = allowed_over links (nonempty restrictions) in
      let Shows = IsLeastAllowed (Contains links) (nonempty restrictions) in
      let answers = answers_found names Asked pairs are_pairs links are_ends order one (IsAllowedRoute links (nonempty restrictions) names) found are rise in
      let seen_so = answers-seen (map (named names)) (Contains links) Asked (IsAllowedRoute links (nonempty restrictions) names) Shows
      (λ s t route is. is.least) (map (answer_of names) found) answers in
      let walks = subst (AreAnswersBy (Contains links) Leads Asked Shows) (map-both (seen (map (named names))) (answer_of names) found) seen_so in (
        walks_found names found,
        answers-over_by (Contains links) Has exactly Leads (IsAllowedWalk Has restrictions) (walk_by_some (Contains links) Has exactly restrictions)
            Asked Shows (IsLeastAllowed Has restrictions) (least_by_all (Contains links) Has exactly restrictions) (walks_found names found) walks,
        ap Paths rows_are,
      )

-- the routes that are found are between numbers of names
pub allowed_numbered : (links : List (LinkOf ℤ)) (restrictions : List (List ℤ)) (names : List ℤ) (pairs : List Pair) (found : List (Found (List (LinkOf ℕ))))
    → AreFoundBy (allowed_over links restrictions) (IsAllowedRoute links restrictions names) names pairs found → All (λ f. All (IsNumbered names) f.kept) found
allowed_numbered links restrictions names pairs found are k d within = (are.shows k d within).numbered

-- and have links
pub allowed_some : (links : List (LinkOf ℤ)) (restrictions : List (List ℤ)) (names : List ℤ) (pairs : List Pair) (found : List (Found (List (LinkOf ℕ))))
    → AreFoundBy (allowed_over links restrictions) (IsAllowedRoute links restrictions names) names pairs found → All (λ f. f.kept ≢ []) found
allowed_some links restrictions names pairs found are k d within = (are.shows k d within).some
