-- Where the contents of all files are known, they are one list: so the rows that answer a command are one table.
use Rattle.std.proofs.Common.{◌≡◌, ◌≢◌, ℕ, List, [], ◌∷◌, sym, subst, ◌∙◌, refl, Option, Some, None, map}
use Rattle.std.specs.Prelude.{All, IfSome, IsSome}
use Rattle.std.proofs.lemmas.List.Elements.{All-head, All-tail}
use Rattle.pgr_words.specs.declared.command.Command.{Command}
use Rattle.pgr_words.specs.declared.function.Function.TheVariants as function
use Rattle.pgr_rows.specs.declared.rows.Rows.{Rows}
use Rattle.pgr_answer.specs.Files.{File, Content, files_of, IsPossible, AreAccepted}
use Rattle.pgr_answer.specs.Contents.{tables_of}
use Rattle.pgr_answer.specs.declared.answered.Note.{Note}
use Rattle.pgr_answer.specs.Allowed.{IsAllowed, AreNotesOver, AnswersCommand}
use Rattle.pgr_answer.proofs.OneTable.{one_is_allowed, one_list_of_notes}

-- possible bytes of one known content are the same
one_content : (content : Option (List ℕ)) (bytes other : List ℕ) → IsSome content → IfSome content (λ is. bytes ≡ is) → IfSome content (λ is. other ≡ is) → bytes ≡ other
one_content None bytes other is_known is also = absurd cc
one_content (Some content) bytes other is_known is also = is ∙ sym also

-- contents of one file are the same, where its content is known
same_content : (known : List ℕ → Option (List ℕ)) (a b : Content) → a.file ≡ b.file → IsSome (known a.file.name) → IsPossible known a → IsPossible known b → a ≡ b
same_content known a b same is_known is also =
    let there : IfSome (known a.file.name) (λ content. b.bytes ≡ content) = subst (λ (f : File). IfSome (known f.name) (λ content. b.bytes ≡ content)) (sym same) also in
    let bytes = one_content (known a.file.name) a.bytes b.bytes is_known is there in
    λ i. record { file = same i; bytes = bytes i }

module _ (known : List ℕ → Option (List ℕ)) where
  one_by_files : (contents others : List Content) → map (λ content. content.file) contents ≡ map (λ content. content.file) others
      → All (λ file. IsSome (known file.name)) (map (λ content. content.file) contents)
      → All (IsPossible known) contents
      → All (IsPossible known) others
      → contents ≡ others
  one_by_files [] [] files all possible also = refl
  one_by_files [] (b ∷ others) files all possible also = absurd cc
  one_by_files (a ∷ contents) [] files all possible also = absurd cc
  one_by_files (a ∷ contents) (b ∷ others) files all possible also =
      let same : a.file ≡ b.file = cc in
      let rest : map (λ content. content.file) contents ≡ map (λ content. content.file) others = cc in
      let first = same_content known a b same (All-head (λ file. IsSome (known file.name)) a.file _ all) (All-head (IsPossible known) a contents possible)
      (All-head (IsPossible known) b others also) in
      let later = one_by_files contents others rest (All-tail (λ file. IsSome (known file.name)) a.file _ all) (All-tail (IsPossible known) a contents possible)
      (All-tail (IsPossible known) b others also) in
      λ i. first i ∷ later i

  -- known contents of files are one list
  pub one_are_contents : (files : List File) (contents others : List Content) → All (λ file. IsSome (known file.name)) files → AreAccepted known files contents
      → AreAccepted known files others → contents ≡ others
  one_are_contents files contents others all are also = one_by_files contents others (are.of_files ∙ sym also.of_files)
      (subst (All (λ file. IsSome (known file.name))) (sym are.of_files) all) are.possible also.possible

-- the rows that answer a command over known contents are one table, and the notes are one list
pub one_answers : (command : Command) (known : List ℕ → Option (List ℕ)) (rows other : Rows) (notes others : List Note)
    → All (λ file. IsSome (known file.name)) (files_of command)
    → AnswersCommand command known rows notes → AnswersCommand command known other others
    → (command.function ≢ function.EdmondsKarp → rows ≡ other) × (notes ≡ others)
one_answers command known rows other notes others all answers also =
    let same = one_are_contents known (files_of command) answers.contents also.contents all answers.accepted also.accepted in (
      λ is_other. one_is_allowed command (tables_of answers.contents) rows other is_other answers.allowed
          (subst (λ contents. IsAllowed command (tables_of contents) other) (sym same) also.allowed),
      one_list_of_notes command (tables_of answers.contents) notes others answers.noted
          (subst (λ contents. AreNotesOver command (tables_of contents) others) (sym same) also.noted),
    )
