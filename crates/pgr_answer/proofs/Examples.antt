-- Small commands, pairs and tables, computed.
use Rattle.std.proofs.Common.{◌≡◌, ℕ, List, [], ◌∷◌, refl, ℤ, pos, negsuc, Option, Some, inl, inr, arith, map}
use Rattle.std.specs.Prelude.{codes, length, nat_lt, true}
use Rattle.pgr_walks.specs.declared.link.LinkOf.{LinkOf}
use Rattle.pgr_walks.specs.Walk.{IsVertex}
use Rattle.pgr_words.specs.declared.function.Function.TheVariants.{Dijkstra}
use Rattle.pgr_words.specs.declared.option.OptionName.{OptionName}
use Rattle.pgr_words.specs.declared.option.OptionName.TheVariants as option
use Rattle.pgr_words.specs.Commands.{command_with}
use Rattle.pgr_rows.specs.declared.rows.PathRow.{PathRow}
use Rattle.pgr_answer.specs.declared.role.Kind.TheVariants as kind
use Rattle.pgr_answer.specs.declared.role.Role.TheVariants.{Edges, Combinations}
use Rattle.pgr_answer.specs.declared.refused.Refused.TheVariants.{TooLong}
use Rattle.pgr_answer.specs.Files.{File, files_of, most_bytes, refusal_of, IsPossible, AreAccepted}
use Rattle.pgr_answer.specs.Contents.{tables_of}
use Rattle.pgr_answer.specs.Pairs.{IsAsked, IsAskedOfMatrix, IsAnswerable}
use Rattle.pgr_answer.specs.Answers.{Answer, AreAnswers}
use Rattle.pgr_answer.specs.Paths.{path_table}
use Rattle.pgr_answer.specs.CostTables.{cost_row}

-- the options of a command with both files
abbrev both_files : List (OptionName × List ℕ)
both_files = (option.Edges, codes "e.csv") ∷ (option.Combinations, codes "p.csv") ∷ []

-- the edges are read before the combinations
the_edges_come_first : files_of (command_with Dijkstra both_files) ≡ record { role = Edges; kind = kind.Edges; name = codes "e.csv" }
    ∷ record { role = Combinations; kind = kind.Combinations; name = codes "p.csv" } ∷ []
the_edges_come_first = refl

-- a content that is too long is refused so, whatever else is wrong with it
too_long : (file : File) (bytes : List ℕ) → nat_lt most_bytes (length bytes) ≡ true → refusal_of file bytes ≡ Some (TooLong file.role)
too_long file bytes long = rw long refl

-- where nothing is known of a file, it still has to have a content
no_contents : (known : List ℕ → Option (List ℕ)) (file : File) → AreAccepted known (file ∷ []) [] → ⊥
no_contents known file are = let none = are.of_files in absurd cc

-- a known content is the only one
one_content : (known : List ℕ → Option (List ℕ)) (file : File) (bytes other : List ℕ) → known file.name ≡ Some bytes → IsPossible known (record { file = file; bytes = other })
    → other ≡ bytes
one_content known file bytes other is possible = rw is at possible

-- no file of combinations: no row of them
no_rows : (tables_of []).combinations ≡ []
no_rows = refl

-- a row of combinations is asked for, though the lists are empty
a_row_is_asked : IsAsked [] [] (record { source = pos 4; target = pos 2 } ∷ []) (pos 4) (pos 2)
a_row_is_asked = inr (0, omega arith, refl)

-- a start with an end of the lists is asked for
a_pair_of_lists_is_asked : IsAsked (pos 1 ∷ pos 9 ∷ []) (pos 1 ∷ []) [] (pos 9) (pos 1)
a_pair_of_lists_is_asked = inl ((1, omega arith, refl), (0, omega arith, refl))

-- a matrix has no diagonal
no_diagonal : (vids : List ℤ) (v : ℤ) → IsAskedOfMatrix vids v v → ⊥
no_diagonal vids v asked = asked.2 refl

-- equal ends aren't answerable
equal_ends : (Has : LinkOf ℤ → Type 0) (v : ℤ) → IsAnswerable Has v v → ⊥
equal_ends Has v answerable = answerable.differ refl

-- where there is no link there is no answer
abbrev no_link : LinkOf ℤ → Type 0
no_link link = ⊥

no_vertex : (v : ℤ) → IsVertex no_link v → ⊥
no_vertex v vertex = vertex.1

nothing_is_answered : (Asked : ℤ → ℤ → Type 0) (Shows : ℤ → ℤ → ℕ → Type 0) → AreAnswers no_link Asked Shows []
nothing_is_answered Asked Shows = record {
  asked = λ k d below. absurd (omega arith);
  answerable = λ k d below. absurd (omega arith);
  shows = λ k d below. absurd (omega arith);
  every = λ start end walk asked answerable is_walk. absurd (no_vertex start answerable.start_is_vertex);
  rise = λ i j d before below. absurd (omega arith);
}

abbrev answer : ℤ → ℤ → ℕ → Answer ℕ
answer start end cost = record { start = start; end = end; shown = cost }

-- a pair has one answer
not_twice : (Has : LinkOf ℤ → Type 0) (Asked : ℤ → ℤ → Type 0) (Shows : ℤ → ℤ → ℕ → Type 0)
    → AreAnswers Has Asked Shows (answer (pos 1) (pos 4) 7 ∷ answer (pos 1) (pos 4) 7 ∷ []) → ⊥
not_twice Has Asked Shows answers = let rise = answers.rise 0 1 (answer (pos 1) (pos 4) 7) (omega arith) (omega arith) in cc

-- answers go by start before end, and a negative id comes before 0
not_by_end : (Has : LinkOf ℤ → Type 0) (Asked : ℤ → ℤ → Type 0) (Shows : ℤ → ℤ → ℕ → Type 0)
    → AreAnswers Has Asked Shows (answer (pos 4) (pos 2) 4 ∷ answer (pos 1) (pos 4) 7 ∷ []) → ⊥
not_by_end Has Asked Shows answers = let rise = answers.rise 0 1 (answer (pos 4) (pos 2) 4) (omega arith) (omega arith) in cc

-- two walks in one table: rows are numbered over both, and in each from 1
abbrev to_two : LinkOf ℤ
to_two = record { from = pos 1; edge = pos 10; cost = 3; to = pos 2 }

abbrev on_to_three : LinkOf ℤ
on_to_three = record { from = pos 2; edge = pos 20; cost = 0; to = pos 3 }

abbrev row : ℕ → ℕ → ℤ → ℤ → ℤ → ℕ → ℕ → PathRow
row seq path_seq end node edge cost agg = record { seq = seq; path_seq = path_seq; start_vid = pos 1; end_vid = end; node = node; edge = edge; cost = cost; agg_cost = agg }

two_walks : path_table (record { start = pos 1; end = pos 2; shown = to_two ∷ [] } ∷ record { start = pos 1; end = pos 3; shown = to_two ∷ on_to_three ∷ [] } ∷ []) ≡
    row 1 1 (pos 2) (pos 1) (pos 10) 3 0
    ∷ row 2 2 (pos 2) (pos 2) (negsuc 0) 0 3
    ∷ row 3 1 (pos 3) (pos 1) (pos 10) 3 0
    ∷ row 4 2 (pos 3) (pos 2) (pos 20) 0 3
    ∷ row 5 3 (pos 3) (pos 3) (negsuc 0) 0 3
    ∷ []
two_walks = refl

no_walks : path_table [] ≡ []
no_walks = refl

-- a row of costs has the pair and its cost
one_cost : map cost_row (answer (negsuc 1) (pos 4) 7 ∷ []) ≡ record { start_vid = negsuc 1; end_vid = pos 4; agg_cost = 7 } ∷ []
one_cost = refl
