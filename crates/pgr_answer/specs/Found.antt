-- What is found for pairs of numbers, as the answers to the pairs of ids that they stand for.
use Rattle.std.specs.Prelude.{ℕ, List, map, ℤ}
use Rattle.pgr_walks.specs.declared.link.LinkOf.{LinkOf}
use Rattle.pgr_numbers.specs.Names.{id_at, named}
use Rattle.pgr_answer.specs.declared.found.Found.{Found}
use Rattle.pgr_answer.specs.Answers.{Answer}

-- what is found for a pair as the answer to it
abbrev pub answer_of : {Shown : Type 0} → List ℤ → Found Shown → Answer Shown
answer_of names found = record { start = id_at names found.start; end = id_at names found.end; shown = found.kept }

-- the same answer, with what is shown seen by this function
abbrev pub seen : {A B : Type 0} → (A → B) → Answer A → Answer B
seen f answer = record { start = answer.start; end = answer.end; shown = f answer.shown }

-- the answers by the costs that are found
abbrev pub costs_found : {Shown : Type 0} → List ℤ → (Shown → ℕ) → List (Found Shown) → List (Answer ℕ)
costs_found names cost found = map (λ f. seen cost (answer_of names f)) found

-- the answers by the routes that are found, as walks between the ids that their numbers stand for
abbrev pub walks_found : List ℤ → List (Found (List (LinkOf ℕ))) → List (Answer (List (LinkOf ℤ)))
walks_found names found = map (λ f. seen (map (named names)) (answer_of names f)) found

-- the answers by the lists of routes that are found, as walks between the ids that their numbers stand for
abbrev pub routes_found : List ℤ → List (Found (List (List (LinkOf ℕ)))) → List (Answer (List (List (LinkOf ℤ))))
routes_found names found = map (λ f. seen (map (map (named names))) (answer_of names f)) found
