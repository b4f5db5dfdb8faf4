-- What is found for the pairs of a network, as a table over the links that it has.
use Rattle.std.proofs.Common.{◌≡◌, ◌≢◌, Bool, ℕ, ℤ, pos, ◌<◌, List, [], ◌∷◌, length, get_or, inl, inr, map, sym, ap, subst, ◌∙◌, refl, arith, Less}
use Rattle.std.specs.Prelude.{◌↔◌, All, Any, Contains}
use Rattle.std.specs.Ordering.{int_cmp, nat_cmp, ordering_then}
use Rattle.std.proofs.lemmas.List.{get_or-map, length-map, get_or_default}
use Rattle.std.proofs.lemmas.List.Elements.{All-map, All-weaker, All-contains_itself, Contains-get_or}
use Rattle.pgr_outside.specs.Lists.{IsStrictlyRising}
use Rattle.pgr_walks.specs.declared.link.LinkOf.{LinkOf}
use Rattle.pgr_numbers.specs.Names.{AreEnds, IsNumbered, id_at, named}
use Rattle.pgr_rows.specs.declared.rows.PathRow.{PathRow}
use Rattle.pgr_rows.specs.declared.rows.CostRow.{CostRow}
use Rattle.pgr_rows.specs.declared.rows.Rows.{Rows}
use Rattle.pgr_rows.specs.declared.rows.Rows.TheVariants.{Paths, Costs}
use Rattle.pgr_answer.specs.declared.pair.Pair.{Pair}
use Rattle.pgr_answer.specs.declared.found.Found.{Found}
use Rattle.pgr_answer.specs.Pairs.{IsAnswerable, IsAsked, IsAskedOfMatrix}
use Rattle.pgr_answer.specs.Answers.{Answer, answer_cmp, AreAnswers, AreAnswersBy}
use Rattle.pgr_answer.specs.Costs.{IsLeastCost}
use Rattle.pgr_answer.specs.CostTables.{IsCostTable, cost_row}
use Rattle.pgr_answer.specs.Gathering.{IsNumberedPair}
use Rattle.pgr_answer.specs.Finding.{IsPairAmong, HasNames, pair_of, found_cmp, AreFound, AreFoundBy}
use Rattle.pgr_answer.specs.Networks.{IsRouteBetween}
use Rattle.pgr_answer.specs.Paths.{IsLeastBetween, IsPathTable, path_table}
use Rattle.pgr_answer.specs.WithPoints.{shown_table, IsShownTable}
use Rattle.pgr_answer.specs.Found.{seen, answer_of, costs_found, walks_found}
use Rattle.pgr_answer.proofs.AnswersAlong.{Any-map, answers-seen, answers-asked, answers-over, IsLeastBetween-over, IsLeastCost-over}

-- a list seen through one function after another
pub map-both : {X Y Z : Type 0} (f : Y → Z) (g : X → Y) (xs : List X) → map f (map g xs) ≡ map (λ x. f (g x)) xs
map-both f g [] = refl
map-both f g (x ∷ xs) = ap (λ rest. f (g x) ∷ rest) (map-both f g xs)

module _ (names : List ℤ) (Asked : ℤ → ℤ → Type 0) (pairs : List Pair)
    (are_pairs : (pair : Pair) → Contains pairs pair ↔ IsNumberedPair names Asked pair) where
  -- each pair is of two numbers of names that differ
  pub pairs_among : All (IsPairAmong (length names)) pairs
  pairs_among = All-weaker (Contains pairs) (IsPairAmong (length names)) (λ pair there. let is = (are_pairs pair).0 there in (is.0, is.1, is.2)) pairs (All-contains_itself pairs)

  module _ {Shown : Type 0} (Leads : ℤ → ℤ → List (LinkOf ℤ) → Type 0) (Shows : ℤ → ℤ → Shown → Type 0) (found : List (Found Shown))
      (are : AreFoundBy Leads Shows names pairs found) where
    -- what is found is for numbers of names
    pub found_named : All (HasNames (length names)) found
    found_named = All-weaker (λ f. Contains pairs (pair_of f)) (HasNames (length names)) (λ f there. let is = (are_pairs (pair_of f)).0 there in (is.0, is.1)) found are.asked

  module _ (links : List (LinkOf ℤ)) (are_ends : AreEnds links names)
      (order : (m n : ℕ) → m < length names → n < length names → int_cmp (id_at names m) (id_at names n) ≡ nat_cmp m n)
      (one : (m n : ℕ) → m < length names → n < length names → id_at names m ≡ id_at names n → m ≡ n) where
    -- the id of a number is a vertex
    vertex : (n : ℕ) → n < length names → Contains names (id_at names n)
    vertex n below = Contains-get_or names n (pos 0) below

    -- a vertex has a number
    number : (id : ℤ) → Contains names id → (n : ℕ) × (n < length names) × (id_at names n ≡ id)
    number id (n, below, is) = (n, below, get_or_default names n (pos 0) id below ∙ is)

    -- what is found for a pair of numbers is for a pair of ids that can be answered
    answerable_ids : (pair : Pair) → IsNumberedPair names Asked pair → IsAnswerable (Contains links) (id_at names pair.start) (id_at names pair.end)
    answerable_ids pair is = record {
      start_is_vertex = (are_ends.ends (id_at names pair.start)).0 (vertex pair.start is.0);
      end_is_vertex = (are_ends.ends (id_at names pair.end)).0 (vertex pair.end is.1);
      differ = λ same. is.2 (one pair.start pair.end is.0 is.1 same);
    }

    module _ {Shown : Type 0} {Leads : ℤ → ℤ → List (LinkOf ℤ) → Type 0} (Shows : ℤ → ℤ → Shown → Type 0) (found : List (Found Shown))
        (are : AreFoundBy Leads Shows names pairs found)
        (rise : IsStrictlyRising found_cmp found) where
      -- what holds of each numbered pair of what is found
      each : (P : ℤ → ℤ → Type 0) → ((pair : Pair) → IsNumberedPair names Asked pair → P (id_at names pair.start) (id_at names pair.end))
          → All (λ answer. P answer.start answer.end) (map (answer_of names) found)
      each P holds = All-map (λ (answer : Answer Shown). P answer.start answer.end) (answer_of names) found
          (All-weaker (λ f. Contains pairs (pair_of f)) (λ f. P (id_at names f.start) (id_at names f.end))
          (λ f there. holds (pair_of f) ((are_pairs (pair_of f)).0 there)) found are.asked)

      -- a pair of ids that is asked for, can be answered and has a walk has an answer
      some : (s t : ℤ) (walk : List (LinkOf ℤ)) → Asked s t → IsAnswerable (Contains links) s t → Leads s t walk
          → Any (λ answer. (answer.start ≡ s) × (answer.end ≡ t)) (map (answer_of names) found)
      some s t walk asked answerable leads =
          let m = number s ((are_ends.ends s).1 answerable.start_is_vertex) in
          let n = number t ((are_ends.ends t).1 answerable.end_is_vertex) in
          let pair : Pair = record { end = n.0; start = m.0 } in
          let differ : m.0 ≢ n.0 = λ same. answerable.differ (sym m.2 ∙ ap (id_at names) same ∙ n.2) in
          let here : Asked (id_at names m.0) (id_at names n.0) = subst (λ a. Asked a (id_at names n.0)) (sym m.2) (subst (λ b. Asked s b) (sym n.2) asked) in
          let along : Leads (id_at names m.0) (id_at names n.0) walk = subst (λ a. Leads a (id_at names n.0) walk) (sym m.2) (subst (λ b. Leads s b walk) (sym n.2) leads) in
          let there = are.every pair walk ((are_pairs pair).1 (m.1, n.1, differ, here)) along in
          Any-map (λ (answer : Answer Shown). (answer.start ≡ s) × (answer.end ≡ t)) (answer_of names) found
          (there.0, there.1, there.2, there.3, (ap (λ (p : Pair). id_at names p.start) there.4 ∙ m.2, ap (λ (p : Pair). id_at names p.end) there.4 ∙ n.2))

      -- so has one without a walk, where something is found for each pair
      pub some_of_each : ((pair : Pair) → Contains pairs pair → Any (λ f. pair_of f ≡ pair) found) → (s t : ℤ) → Asked s t → IsAnswerable (Contains links) s t
          → Any (λ answer. (answer.start ≡ s) × (answer.end ≡ t)) (map (answer_of names) found)
      some_of_each of_each s t asked answerable =
          let m = number s ((are_ends.ends s).1 answerable.start_is_vertex) in
          let n = number t ((are_ends.ends t).1 answerable.end_is_vertex) in
          let pair : Pair = record { end = n.0; start = m.0 } in
          let differ : m.0 ≢ n.0 = λ same. answerable.differ (sym m.2 ∙ ap (id_at names) same ∙ n.2) in
          let here : Asked (id_at names m.0) (id_at names n.0) = subst (λ a. Asked a (id_at names n.0)) (sym m.2) (subst (λ b. Asked s b) (sym n.2) asked) in
          let there = of_each pair ((are_pairs pair).1 (m.1, n.1, differ, here)) in
          Any-map (λ (answer : Answer Shown). (answer.start ≡ s) × (answer.end ≡ t)) (answer_of names) found
          (there.0, there.1, there.2, there.3, (ap (λ (p : Pair). id_at names p.start) there.4 ∙ m.2, ap (λ (p : Pair). id_at names p.end) there.4 ∙ n.2))

      -- ids compare as their numbers
      same_order : (a b : Found Shown) → HasNames (length names) a → HasNames (length names) b → answer_cmp (answer_of names a) (answer_of names b) ≡ found_cmp a b
      same_order a b a_named b_named =
          ap (λ o. ordering_then o (int_cmp (id_at names a.end) (id_at names b.end))) (order a.start b.start a_named.0 b_named.0)
          ∙ ap (ordering_then (nat_cmp a.start b.start)) (order a.end b.end a_named.1 b_named.1)

      rises : IsStrictlyRising answer_cmp (map (answer_of names) found)
      rises i j x before within =
          by_found found are rise i j x before (rewritten within) where
            rewritten : j < length (map (answer_of names) found) → j < length found
            rewritten within = rw length-map at within

            named_at : (found : List (Found Shown)) → AreFoundBy Leads Shows names pairs found → All (HasNames (length names)) found
            named_at found are = found_named Leads Shows found are

            by_found : (found : List (Found Shown)) → AreFoundBy Leads Shows names pairs found → IsStrictlyRising found_cmp found → (i j : ℕ) (x : Answer Shown)
                → i < j → j < length found → answer_cmp (get_or (map (answer_of names) found) i x) (get_or (map (answer_of names) found) j x) ≡ Less
            by_found [] are rise i j x before within = absurd (omega arith)
            by_found (first ∷ rest) are rise i j x before within =
                let all = first ∷ rest in
                let a = get_or all i first in
                let b = get_or all j first in
                ap (λ y. answer_cmp y (get_or (map (answer_of names) all) j x)) (get_or-map (answer_of names) all i first x (omega arith))
                ∙ ap (answer_cmp (answer_of names a)) (get_or-map (answer_of names) all j first x within)
                ∙ same_order a b (named_at all are i first (omega arith)) (named_at all are j first within)
                ∙ rise i j first before within

      -- what is found is the answers to the pairs that are asked for
      pub answers_found : AreAnswersBy (Contains links) Leads Asked Shows (map (answer_of names) found)
      answers_found = record {
        asked = each Asked (λ pair is. is.3);
        answerable = each (IsAnswerable (Contains links)) answerable_ids;
        shows = All-map (λ (answer : Answer Shown). Shows answer.start answer.end answer.shown) (answer_of names) found are.shows;
        every = some;
        rise = rises;
      }

    module _ (Has : LinkOf ℤ → Type 0) (exactly : (link : LinkOf ℤ) → Contains links link ↔ Has link) where
      -- the routes that are found answer the pairs that are asked for with least walks
      pub walks_answer : (found : List (Found (List (LinkOf ℕ)))) → AreFound (Contains links) (IsRouteBetween links names) names pairs found → IsStrictlyRising found_cmp found
          → AreAnswers Has Asked (IsLeastBetween Has) (walks_found names found)
      walks_answer found are rise =
          let answers = answers_found (IsRouteBetween links names) found are rise in
          let seen_so = answers-seen (map (named names)) (Contains links) Asked (IsRouteBetween links names) (IsLeastBetween (Contains links))
          (λ s t route between. between.least) (map (answer_of names) found) answers in
          let walks = subst (AreAnswers (Contains links) Asked (IsLeastBetween (Contains links))) (map-both (seen (map (named names))) (answer_of names) found) seen_so in
          answers-over (Contains links) Has exactly Asked (IsLeastBetween (Contains links)) (IsLeastBetween Has)
          (IsLeastBetween-over (Contains links) Has exactly) (walks_found names found) walks

      -- their rows are a table of paths that are shown with details or without
      pub shown_table_found : (details : Bool) (found : List (Found (List (LinkOf ℕ)))) (rows : List PathRow)
          → AreFound (Contains links) (IsRouteBetween links names) names pairs found
          → IsStrictlyRising found_cmp found
          → rows ≡ shown_table details (walks_found names found)
          → IsShownTable Has Asked details (Paths rows)
      shown_table_found details found rows are rise rows_are = (walks_found names found, walks_answer found are rise, ap Paths rows_are)

      -- the rows of the routes that are found are a table of paths
      pub path_table_found : (found : List (Found (List (LinkOf ℕ)))) (rows : List PathRow)
          → AreFound (Contains links) (IsRouteBetween links names) names pairs found
          → IsStrictlyRising found_cmp found
          → rows ≡ path_table (walks_found names found)
          → IsPathTable Has Asked (Paths rows)
      path_table_found found rows are rise rows_are = (walks_found names found, walks_answer found are rise, ap Paths rows_are)

      -- the rows of the costs that are found are a table of costs
      pub cost_table_found : {Kept : Type 0} (cost : Kept → ℕ) (found : List (Found Kept)) (rows : List CostRow)
          → AreFound (Contains links) (λ start end kept. IsLeastCost (Contains links) start end (cost kept)) names pairs found
          → IsStrictlyRising found_cmp found
          → rows ≡ map cost_row (costs_found names cost found)
          → IsCostTable Has Asked (Costs rows)
      cost_table_found cost found rows are rise rows_are =
          let answers = answers_found (λ start end kept. IsLeastCost (Contains links) start end (cost kept)) found are rise in
          let seen_so = answers-seen cost (Contains links) Asked (λ start end kept. IsLeastCost (Contains links) start end (cost kept)) (IsLeastCost (Contains links))
          (λ s t kept least. least) (map (answer_of names) found) answers in
          let costs = subst (AreAnswers (Contains links) Asked (IsLeastCost (Contains links))) (map-both (seen cost) (answer_of names) found) seen_so in (
            costs_found names cost found,
            answers-over (Contains links) Has exactly Asked (IsLeastCost (Contains links)) (IsLeastCost Has)
                (IsLeastCost-over (Contains links) Has exactly) (costs_found names cost found) costs,
            ap Costs rows_are,
          )

-- the routes that are found are between numbers of names
pub routes_numbered : (links : List (LinkOf ℤ)) (names : List ℤ) (pairs : List Pair) (found : List (Found (List (LinkOf ℕ))))
    → AreFound (Contains links) (IsRouteBetween links names) names pairs found → All (λ f. All (IsNumbered names) f.kept) found
routes_numbered links names pairs found are k d within = (are.shows k d within).numbered

-- and have links
pub routes_some : (links : List (LinkOf ℤ)) (names : List ℤ) (pairs : List Pair) (found : List (Found (List (LinkOf ℕ))))
    → AreFound (Contains links) (IsRouteBetween links names) names pairs found → All (λ f. f.kept ≢ []) found
routes_some links names pairs found are k d within = (are.shows k d within).some

-- of the pairs that can be answered a matrix asks for those that its vertices twice and no combinations ask for
asked_of_matrix : (Has : LinkOf ℤ → Type 0) (vids : List ℤ) (s t : ℤ) → IsAnswerable Has s t → IsAsked vids vids [] s t ↔ IsAskedOfMatrix vids s t
asked_of_matrix Has vids s t answerable = (into, λ asked. inl (asked.0, asked.1))
  where
    into : IsAsked vids vids [] s t → IsAskedOfMatrix vids s t
    into (inl both) = (both.0, both.1, answerable.differ)
    into (inr (k, within, is)) = absurd (omega arith)

-- the costs between vertices twice, and no combinations, are those of their matrix
pub matrix_table : (Has : LinkOf ℤ → Type 0) (vids : List ℤ) (rows : Rows) → IsCostTable Has (IsAsked vids vids []) rows → IsCostTable Has (IsAskedOfMatrix vids) rows
matrix_table Has vids rows (answers, are, rows_are) = (
  answers,
  answers-asked Has (IsAsked vids vids []) (IsAskedOfMatrix vids) (IsLeastCost Has)
      (asked_of_matrix Has vids) answers are,
  rows_are,
)
