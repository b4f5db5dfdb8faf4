-- The first K routes that are found for the pairs of a network, as a table over the links that it has.
use Rattle.std.proofs.Common.{◌≡◌, ◌≢◌, ℕ, ℤ, ◌+◌, ◌<◌, ◌≤◌, List, [], ◌∷◌, ◌++◌, length, get_or, take, map, sym, ap, subst, ◌∙◌, arith}
use Rattle.std.specs.Prelude.{◌↔◌, All, Any, Contains}
use Rattle.std.specs.List.Sorted.{IsPermutation}
use Rattle.std.specs.Ordering.{int_cmp, nat_cmp}
use Rattle.std.proofs.lemmas.List.{get_or-map, length-map, map-append, take_more}
use Rattle.std.proofs.lemmas.List.Elements.{All-weaker, All-contains_itself, Contains-get_or}
use Rattle.std.proofs.lemmas.List.Sorted.{All-permutation, Contains-permutation}
use Rattle.pgr_outside.specs.Lists.{IsStrictlyRising}
use Rattle.pgr_outside.proofs.Lists.{Contains-map, Contains-from_map}
use Rattle.pgr_walks.specs.declared.link.LinkOf.{LinkOf}
use Rattle.pgr_walks.specs.Walk.{IsWalk, IsVertex, IsLooplessRoute}
use Rattle.pgr_numbers.specs.Names.{AreEnds, IsNumbered, id_at, named}
use Rattle.pgr_ksp.specs.Routes.{AreAll, AreFirst, AreFirstK}
use Rattle.pgr_rows.specs.declared.rows.KspRow.{KspRow}
use Rattle.pgr_rows.specs.declared.rows.Rows.TheVariants.{Ksp}
use Rattle.pgr_answer.specs.declared.pair.Pair.{Pair}
use Rattle.pgr_answer.specs.declared.found.Found.{Found}
use Rattle.pgr_answer.specs.Pairs.{IsAnswerable}
use Rattle.pgr_answer.specs.Answers.{Answer, AreAnswers}
use Rattle.pgr_answer.specs.Gathering.{pair_cmp, IsNumberedPair}
use Rattle.pgr_answer.specs.Finding.{pair_of, found_cmp, AreFound, AreRoutesOf, RisesByPair, HasNames}
use Rattle.pgr_answer.specs.Found.{seen, answer_of, routes_found}
use Rattle.pgr_answer.specs.Ksp.{IsKspTable, ksp_table}
use Rattle.pgr_answer.proofs.AnswersAlong.{Any-map, answers-seen, answers-over}
use Rattle.pgr_answer.proofs.TablesFound.{map-both, answers_found, some_of_each}

-- what is found for pairs in their order, sorted
pub routes_moved : (Has : LinkOf ℕ → Type 0) (k : ℕ) (pairs : List Pair) (found sorted : List (Found (List (List (LinkOf ℕ))))) → IsPermutation found sorted
    → map pair_of found ≡ pairs
    → All (λ f. AreFirstK nat_cmp Has f.start f.end k f.kept) found → AreRoutesOf Has k pairs sorted
routes_moved Has k pairs found sorted moved are first = record {
  asked = All-permutation (λ (f : Found (List (List (LinkOf ℕ)))). Contains pairs (pair_of f)) found sorted moved
      (All-weaker (Contains found) (λ f. Contains pairs (pair_of f)) (λ f has. subst (λ ps. Contains ps (pair_of f)) are (Contains-map pair_of found f has)) found
      (All-contains_itself found));
  first = All-permutation (λ (f : Found (List (List (LinkOf ℕ)))). AreFirstK nat_cmp Has f.start f.end k f.kept) found sorted moved first;
  every = λ pair has.
      let of_pair = Contains-from_map pair_of found pair (subst (λ ps. Contains ps pair) (sym are) has) in
      let place = Contains-permutation found sorted of_pair.0 moved of_pair.1 in
      (place.0, of_pair.0, place.1, place.2, sym of_pair.2);
}

-- it rises as its pairs do
pub routes_rise : (pairs : List Pair) (found : List (Found (List (List (LinkOf ℕ))))) → map pair_of found ≡ pairs → IsStrictlyRising pair_cmp pairs → RisesByPair found
routes_rise pairs found are rise i j d before inside =
    let rising : IsStrictlyRising pair_cmp (map pair_of found) = subst (IsStrictlyRising pair_cmp) (sym are) rise in
    let x : get_or (map pair_of found) i (pair_of d) ≡ pair_of (get_or found i d) = get_or-map pair_of found i d (pair_of d) (omega arith) in
    let y : get_or (map pair_of found) j (pair_of d) ≡ pair_of (get_or found j d) = get_or-map pair_of found j d (pair_of d) inside in
    (λ n. pair_cmp (sym x n) (sym y n)) ∙ rising i j (pair_of d) before (omega (arith, inside, length-map found pair_of))

-- what can be answered over a set of links can be over another that has them
answerable-along : (Has More : LinkOf ℤ → Type 0) → ((link : LinkOf ℤ) → Has link → More link) → (s t : ℤ) → IsAnswerable Has s t → IsAnswerable More s t
answerable-along Has More too s t is = record { start_is_vertex = vertex s is.start_is_vertex; end_is_vertex = vertex t is.end_is_vertex; differ = is.differ }
  where
    vertex : (v : ℤ) → IsVertex Has v → IsVertex More v
    vertex v is_vertex = (is_vertex.0, too is_vertex.0 is_vertex.1, is_vertex.2)

module _ (names : List ℤ) (Asked : ℤ → ℤ → Type 0) (pairs : List Pair) (are_pairs : (pair : Pair) → Contains pairs pair ↔ IsNumberedPair names Asked pair)
    (links : List (LinkOf ℤ)) (are_ends : AreEnds links names)
    (order : (m n : ℕ) → m < length names → n < length names → int_cmp (id_at names m) (id_at names n) ≡ nat_cmp m n)
    (one : (m n : ℕ) → m < length names → n < length names → id_at names m ≡ id_at names n → m ≡ n)
    (Has : LinkOf ℤ → Type 0) (exactly : (link : LinkOf ℤ) → Contains links link ↔ Has link)
    (k : ℕ) (Numbers : LinkOf ℕ → Type 0) (found : List (Found (List (List (LinkOf ℕ))))) (are : AreRoutesOf Numbers k pairs found) where
  -- both numbers of what is found are of names
  pub lists_named : All (HasNames (length names)) found
  lists_named = All-weaker (λ f. Contains pairs (pair_of f)) (HasNames (length names)) (λ f there. let is = (are_pairs (pair_of f)).0 there in (is.0, is.1)) found are.asked

  module _ (rise : IsStrictlyRising found_cmp found)
      (by_ids : (s t : ℕ) → s < length names → t < length names → (given : List (List (LinkOf ℕ))) → AreFirstK nat_cmp Numbers s t k given
      → AreFirstK int_cmp Has (id_at names s) (id_at names t) k (map (map (named names)) given)) where
    -- the rows of the lists that are found are a table of the first K routes
    pub ksp_table_found : (rows : List KspRow) → rows ≡ ksp_table (routes_found names found) → IsKspTable Has Asked k (Ksp rows)
    ksp_table_found rows rows_are =
        let Shows : ℤ → ℤ → List (List (LinkOf ℕ)) → Type 0 = λ s t kept. AreFirstK int_cmp Has s t k (map (map (named names)) kept) in
        let First : ℤ → ℤ → List (List (LinkOf ℤ)) → Type 0 = λ s t walks. AreFirstK int_cmp Has s t k walks in
        let shown : All (λ f. Shows (id_at names f.start) (id_at names f.end) f.kept) found = λ n d within.
        let there = (are_pairs (pair_of (get_or found n d))).0 (are.asked n d within) in
        by_ids (get_or found n d).start (get_or found n d).end there.0 there.1 (get_or found n d).kept (are.first n d within) in
        let of_pairs : AreFound (Contains links) Shows names pairs found = record { asked = are.asked; shows = shown; every = λ pair walk there is_walk. are.every pair there } in
        let answers = answers_found names Asked pairs are_pairs links are_ends order one Shows found of_pairs rise in
        let seen_so = answers-seen (map (map (named names))) (Contains links) Asked Shows First (λ s t kept first. first) (map (answer_of names) found) answers in
        let walks = subst (AreAnswers (Contains links) Asked First) (map-both (seen (map (map (named names)))) (answer_of names) found) seen_so in
        let over = answers-over (Contains links) Has exactly Asked First First (λ s t ws first. first) (routes_found names found) walks in (
          routes_found names found,
          record {
            asked = over.asked;
            answerable = over.answerable;
            first = over.shows;
            every = λ s t asked answerable.
                let P : Answer (List (List (LinkOf ℤ))) → Type 0 = λ answer. (answer.start ≡ s) × (answer.end ≡ t) in
                let there = some_of_each names Asked pairs are_pairs links are_ends order one Shows found of_pairs rise are.every s t asked
                (answerable-along Has (Contains links) (λ link. (exactly link).1) s t answerable) in
                subst (Any P) (map-both (seen (map (map (named names)))) (answer_of names) found) (Any-map P (seen (map (map (named names)))) (map (answer_of names) found) there);
            rise = over.rise;
          },
          ap Ksp rows_are,
        )

-- the routes that are found are between numbers of names
pub lists_numbered : (names : List ℤ) (Numbers : LinkOf ℕ → Type 0) (k : ℕ) (pairs : List Pair) (found : List (Found (List (List (LinkOf ℕ))))) → AreRoutesOf Numbers k pairs found
    → ((s t : ℕ) (route : List (LinkOf ℕ)) → IsLooplessRoute Numbers s route t → All (IsNumbered names) route) → All (λ f. All (All (IsNumbered names)) f.kept) found
lists_numbered names Numbers k pairs found are numbered n d within m route inside =
    numbered (get_or found n d).start (get_or found n d).end (get_or (get_or found n d).kept m route)
    ((are.first n d within).first.members (get_or (get_or found n d).kept m route) (Contains-get_or (get_or found n d).kept m route inside))

-- and have links
pub lists_some : (Numbers : LinkOf ℕ → Type 0) (k : ℕ) (pairs : List Pair) (found : List (Found (List (List (LinkOf ℕ))))) → AreRoutesOf Numbers k pairs found
    → All (λ f. All (λ route. route ≢ []) f.kept) found
lists_some Numbers k pairs found are n d within m route inside same =
    let f = get_or found n d in
    let is = (are.first n d within).first.members (get_or f.kept m route) (Contains-get_or f.kept m route inside) in
    is.ends_differ (subst (λ links. IsWalk Numbers f.start links f.end) same is.is_walk)

-- the routes that were given are the first so many
pub first_so_far : {G : Type 0} (links : G → LinkOf ℕ → Type 0) (given_graph graph : G) (s start t end k : ℕ) (given routes : List (List (LinkOf ℕ)))
    → given_graph ≡ graph → s ≡ start → t ≡ end → given ≡ routes
    → AreFirst nat_cmp (links given_graph) s t given → length routes ≤ k → (length routes < k → AreAll (links given_graph) s t given)
    → AreFirstK nat_cmp (links graph) start end k routes
first_so_far links given_graph graph s start t end k given routes same_graph same_start same_end same_given first at_most fewer =
    let P : List (List (LinkOf ℕ)) → Type 0 = λ xs. AreFirstK nat_cmp (links given_graph) s t k xs in
    let all : P routes = subst P same_given (record {
      first = first;
      at_most = omega (arith, at_most, ap (λ (xs : List (List (LinkOf ℕ))). length xs) same_given);
      fewer = λ h. fewer (omega (arith, h, ap (λ (xs : List (List (LinkOf ℕ))). length xs) same_given));
    }) in
    let at_graph = subst (λ g. AreFirstK nat_cmp (links g) s t k routes) same_graph all in
    let at_start = subst (λ v. AreFirstK nat_cmp (links graph) v t k routes) same_start at_graph in
    subst (λ v. AreFirstK nat_cmp (links graph) start v k routes) same_end at_start

-- what is found for one more pair
pub pair_more : (pairs : List Pair) (i : ℕ) (pair : Pair) (kept : List (List (LinkOf ℕ))) (found new : List (Found (List (List (LinkOf ℕ))))) → i < length pairs
    → pair ≡ get_or pairs i pair
    → map pair_of found ≡ take i pairs → new ≡ found ++ record { start = pair.start; end = pair.end; kept = kept } ∷ [] → map pair_of new ≡ take (i + 1) pairs
pair_more pairs i pair kept found new within is so_far is_new =
    let item : Found (List (List (LinkOf ℕ))) = record { start = pair.start; end = pair.end; kept = kept } in
    ap (map pair_of) is_new ∙ (map-append pair_of found (item ∷ []) ∙ ((λ n. so_far n ++ is n ∷ []) ∙ sym (take_more pairs i pair within)))
