-- Where contents are known: the first refusal is the answer, unless a read failed or memory was wanting.
use Rattle.std.proofs.Common.{◌≡◌, ℕ, List, [], ◌∷◌, ◌++◌, refl, sym, ap, subst, ◌∙◌, inl, inr, Option, Some, None, Ok, Result, map}
use Rattle.std.specs.Prelude.{◌⊎◌, All, IfSome, IsSomeAnd, IfErr, IsErrAnd, IsErrOf, IsOk, Err, option_map}
use Rattle.std.proofs.lemmas.List.Elements.{All-head, All-tail}
use Rattle.pgr_words.specs.declared.command.Command.{Command}
use Rattle.pgr_table.specs.declared.fault.TableFault.{TableFault}
use Rattle.pgr_answer.specs.declared.role.Role.{Role}
use Rattle.pgr_answer.specs.declared.role.Role.TheVariants.{Restrictions}
use Rattle.pgr_answer.specs.declared.refused.Refused.{Refused}
use Rattle.pgr_answer.specs.declared.refused.Refused.TheVariants.{ReadFailed, TooLong, Table, Memory}
use Rattle.pgr_answer.specs.Files.{File, Content, files_of, refusal_of, IsPossible, IsAccepted, AreAccepted, IsKnownAccepted}
use Rattle.pgr_answer.specs.declared.tables.Tables.{Tables}
use Rattle.pgr_answer.specs.Tables.{no_tables}
use Rattle.pgr_answer.specs.Reading.{AreRead}
use Rattle.pgr_answer.specs.Contents.{tables_of}
use Rattle.pgr_answer.specs.Together.{refusal_together}
use Rattle.pgr_answer.specs.Refusals.{IsRefused, HoldsAmong, IsRefusedTogether, AreAcceptedTogether, IsFirstAmong, IsFirstRefusal}

-- a refusal is this one, or out of memory, or a failed read
abbrev pub IsThis : Refused → Refused → Type 0
IsThis found refused = (found ≡ refused) ⊎ (found ≡ Memory) ⊎ ((role : Role) × (found ≡ ReadFailed role))

-- a refusal is out of memory, or a failed read
abbrev pub IsOutside : Refused → Type 0
IsOutside found = (found ≡ Memory) ⊎ ((role : Role) × (found ≡ ReadFailed role))

this_from_outside : (found refused : Refused) → IsOutside found → IsThis found refused
this_from_outside found refused (inl e) = inr (inl e)
this_from_outside found refused (inr e) = inr (inr e)

-- what is so of possible bytes of a known content is so of no other verdict
one_refusal : (content : Option (List ℕ)) (file : File) (bytes : List ℕ) (verdict other : Option Refused) → IfSome content (λ is. bytes ≡ is) → refusal_of file bytes ≡ verdict
    → IsSomeAnd content (λ is. refusal_of file is ≡ other) → verdict ≡ other
one_refusal None file bytes verdict other possible is known = absurd known
one_refusal (Some content) file bytes verdict other possible is known = sym is ∙ ap (refusal_of file) possible ∙ known

-- accepted isn't refused
not_both : (refused : Refused) → ◌≡◌ {A = Option Refused} None (Some refused) → ⊥
not_both refused e = cc

not_refused : (refused : Refused) → ◌≡◌ {A = Option Refused} (Some refused) None → ⊥
not_refused refused e = cc

same_some : (a b : Refused) → ◌≡◌ {A = Option Refused} (Some a) (Some b) → a ≡ b
same_some a b e = cc

module _ (known : List ℕ → Option (List ℕ)) (before after : List ℕ → ℕ) where
  -- where the known content of a file is refused, a refusal of the file is that one, or comes from outside
  refused_once : (file : File) (found refused : Refused) → IsRefused known before after file found
      → IsSomeAnd (known file.name) (λ bytes. refusal_of file bytes ≡ Some refused) → IsThis found refused
  refused_once file (ReadFailed role) refused is first = inr (inr (role, refl))
  refused_once file (TooLong role) refused is first = inl (same_some (TooLong role) refused (one_refusal (known file.name) file is.bytes _ _ is.possible is.is_refused first))
  refused_once file (Table role fault) refused is first = inl
      (same_some (Table role fault) refused (one_refusal (known file.name) file is.bytes _ _ is.possible is.is_refused first))
  refused_once file Memory refused is first = inr (inl refl)

  -- where the known content of a file is accepted, a refusal of the file comes from outside
  refused_outside : (file : File) (found : Refused) → IsRefused known before after file found → IsKnownAccepted known file → IsOutside found
  refused_outside file (ReadFailed role) is accepted = inr (role, refl)
  refused_outside file (TooLong role) is accepted = absurd (not_refused (TooLong role) (one_refusal (known file.name) file is.bytes _ _ is.possible is.is_refused accepted))
  refused_outside file (Table role fault) is accepted = absurd
      (not_refused (Table role fault) (one_refusal (known file.name) file is.bytes _ _ is.possible is.is_refused accepted))
  refused_outside file Memory is accepted = inl refl

  -- of a list of files, one is refused behind contents that are accepted, and one behind files that are known to be accepted: by where they stand
  first_by_fronts : (found refused : Refused) (contents : List Content) (file : File) (back front : List File) (known_file : File) (known_back : List File)
      → map (λ content. content.file) contents ++ file ∷ back ≡ front ++ known_file ∷ known_back
      → All (IsPossible known) contents
      → All IsAccepted contents
      → IsRefused known before after file found
      → All (IsKnownAccepted known) front
      → IsSomeAnd (known known_file.name) (λ bytes. refusal_of known_file bytes ≡ Some refused)
      → IsThis found refused
  first_by_fronts found refused [] file back [] known_file known_back order possible accepted is known_accepted first =
      let same : file ≡ known_file = cc in
      refused_once file found refused is (subst (λ (f : File). IsSomeAnd (known f.name) (λ bytes. refusal_of f bytes ≡ Some refused)) (sym same) first)
  first_by_fronts found refused [] file back (head ∷ front) known_file known_back order possible accepted is known_accepted first =
      let same : file ≡ head = cc in
      this_from_outside found refused (refused_outside file found is (subst (IsKnownAccepted known) (sym same) (All-head (IsKnownAccepted known) head front known_accepted)))
  first_by_fronts found refused (content ∷ contents) file back [] known_file known_back order possible accepted is known_accepted first =
      let same : content.file ≡ known_file = cc in
      let here = subst (λ (f : File). IsSomeAnd (known f.name) (λ bytes. refusal_of f bytes ≡ Some refused)) (sym same) first in
      absurd (not_both refused (one_refusal (known content.file.name) content.file content.bytes _ _ (All-head (IsPossible known) content contents possible)
      (All-head IsAccepted content contents accepted) here))
  first_by_fronts found refused (content ∷ contents) file back (head ∷ front) known_file known_back order possible accepted is known_accepted first =
      let rest : map (λ content. content.file) contents ++ file ∷ back ≡ front ++ known_file ∷ known_back = cc in
      first_by_fronts found refused contents file back front known_file known_back rest
      (All-tail (IsPossible known) content contents possible) (All-tail IsAccepted content contents accepted) is (All-tail (IsKnownAccepted known) head front known_accepted) first

  -- the first refusal by known contents is the refusal among the files, or that one comes from outside
  pub first_among : (files : List File) (found refused : Refused) → HoldsAmong known before after files found → IsFirstAmong known files refused → IsThis found refused
  first_among files found refused holds first =
      let order = ap (λ front. front ++ holds.file ∷ holds.place.back) holds.accepted.of_files ∙ sym holds.place.order ∙ first.place.order in
      first_by_fronts found refused holds.contents holds.file holds.place.back first.front first.file first.place.back order holds.accepted.possible holds.accepted.accepted
      holds.refuses first.accepted first.refuses

  -- what all files are known to be, one of them is
  known_file : (files front : List File) (file : File) (back : List File) → files ≡ front ++ file ∷ back → All (IsKnownAccepted known) files → IsKnownAccepted known file
  known_file files front file back order all = All-head (IsKnownAccepted known) file back (behind front (subst (All (IsKnownAccepted known)) order all)) where
    behind : (front : List File) → All (IsKnownAccepted known) (front ++ file ∷ back) → All (IsKnownAccepted known) (file ∷ back)
    behind [] all = all
    behind (head ∷ front) all = behind front (All-tail (IsKnownAccepted known) head (front ++ file ∷ back) all)

  -- where all files are known to be accepted, a refusal comes from outside
  pub outside_among : (files : List File) (found : Refused) → HoldsAmong known before after files found → All (IsKnownAccepted known) files → IsOutside found
  outside_among files found holds all = refused_outside holds.file found holds.refuses (known_file files holds.front holds.file holds.place.back holds.place.order all)

-- among contents that are accepted there is no first refusal
module _ (known : List ℕ → Option (List ℕ)) where
  none_by_front : (refused : Refused) (contents : List Content) (front : List File) (file : File) (back : List File)
      → map (λ content. content.file) contents ≡ front ++ file ∷ back
      → All (IsPossible known) contents
      → All IsAccepted contents
      → IsSomeAnd (known file.name) (λ bytes. refusal_of file bytes ≡ Some refused) → ⊥
  none_by_front refused [] [] file back order possible accepted first = absurd cc
  none_by_front refused [] (head ∷ front) file back order possible accepted first = absurd cc
  none_by_front refused (content ∷ contents) [] file back order possible accepted first =
      let same : content.file ≡ file = cc in
      let here = subst (λ (f : File). IsSomeAnd (known f.name) (λ bytes. refusal_of f bytes ≡ Some refused)) (sym same) first in
      not_both refused (one_refusal (known content.file.name) content.file content.bytes _ _ (All-head (IsPossible known) content contents possible)
      (All-head IsAccepted content contents accepted) here)
  none_by_front refused (content ∷ contents) (head ∷ front) file back order possible accepted first =
      let rest : map (λ content. content.file) contents ≡ front ++ file ∷ back = cc in
      none_by_front refused contents front file back rest (All-tail (IsPossible known) content contents possible) (All-tail IsAccepted content contents accepted) first

  pub none_first : (files : List File) (contents : List Content) (refused : Refused) → AreAccepted known files contents → IsFirstAmong known files refused → ⊥
  none_first files contents refused are first = none_by_front refused contents first.front first.file first.place.back
      (are.of_files ∙ first.place.order) are.possible are.accepted first.refuses

-- where there is no refusal of tables together, no restriction takes the sum too far
pub not_restricted : (fault : Option TableFault) → option_map (Table Restrictions) fault ≡ None → fault ≡ None
not_restricted None is = refl
not_restricted (Some fault) is = absurd cc

-- tables that were read of all files, and are refused together
pub refused_read : (known : List ℕ → Option (List ℕ)) (command : Command) (found : Refused) {tables : Tables} → AreRead known (files_of command) no_tables tables
    → refusal_together command tables ≡ Some found → IsRefusedTogether known command found
refused_read known command found read refuses = record {
  contents = read.contents;
  accepted = read.accepted;
  refuses = subst (λ tables. refusal_together command tables ≡ Some found) read.tables refuses;
}

-- of all files, with the tables that they are together
module _ (known : List ℕ → Option (List ℕ)) (before after : List ℕ → ℕ) (command : Command) where
  -- the first refusal by known contents is the refusal of a file, or that one comes from outside
  pub first_of_file : (found refused : Refused) → HoldsAmong known before after (files_of command) found → IsFirstRefusal known command refused → IsThis found refused
  first_of_file found refused holds (inl first) = first_among known before after (files_of command) found refused holds first
  first_of_file found refused holds (inr first) = this_from_outside found refused (outside_among known before after (files_of command) found holds first.accepted)

  -- the first refusal by known contents is that of the tables together
  pub first_together : (found refused : Refused) → IsRefusedTogether known command found → IsFirstRefusal known command refused → IsThis found refused
  first_together found refused is (inl first) = absurd (none_first known (files_of command) is.contents refused is.accepted first)
  first_together found refused is (inr first) = inl (same_some found refused (sym is.refuses ∙ first.refuses is.contents is.accepted))

  -- where the tables of all contents are accepted together, they aren't refused
  pub not_together : (found : Refused) → IsRefusedTogether known command found → AreAcceptedTogether known command → ⊥
  not_together found is together = not_refused found (sym is.refuses ∙ together is.contents is.accepted)

  -- accepted contents that aren't refused together have no first refusal
  pub no_first : (refused : Refused) (contents : List Content) → AreAccepted known (files_of command) contents → refusal_together command (tables_of contents) ≡ None
      → IsFirstRefusal known command refused → ⊥
  no_first refused contents are together (inl first) = none_first known (files_of command) contents refused are first
  no_first refused contents are together (inr first) = not_refused refused (sym (first.refuses contents are) ∙ together)

-- what an answer says that is an error made of this refusal
module _ {X : Type 0} where
  pub if_err : (result : Result X Refused) (found : Refused) (P : Refused → Type 0) → IsErrAnd result (λ refused. refused ≡ found) → P found → IfErr result P
  if_err (Ok x) found P is holds = absurd is
  if_err (Err refused) found P is holds = subst P (sym is) holds

  -- the answer is this refusal, out of memory, or a failed read
  pub errs_this : (result : Result X Refused) (found refused : Refused) → IsErrAnd result (λ e. e ≡ found) → IsThis found refused
      → IsErrOf result refused ⊎ IsErrOf result Memory ⊎ ((role : Role) × IsErrOf result (ReadFailed role))
  errs_this (Ok x) found refused is this = absurd is
  errs_this (Err e) found refused is (inl same) = inl (ap Err (is ∙ same))
  errs_this (Err e) found refused is (inr (inl same)) = inr (inl (ap Err (is ∙ same)))
  errs_this (Err e) found refused is (inr (inr (role, same))) = inr (inr (role, ap Err (is ∙ same)))

  -- the answer is out of memory, or a failed read
  pub errs_outside : (result : Result X Refused) (found : Refused) → IsErrAnd result (λ e. e ≡ found) → IsOutside found
      → IsOk result ⊎ IsErrOf result Memory ⊎ ((role : Role) × IsErrOf result (ReadFailed role))
  errs_outside (Ok x) found is this = absurd is
  errs_outside (Err e) found is (inl same) = inr (inl (ap Err (is ∙ same)))
  errs_outside (Err e) found is (inr (role, same)) = inr (inr (role, ap Err (is ∙ same)))
