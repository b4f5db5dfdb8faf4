-- What the promise says of each cause.
use Rattle.std.proofs.Common.{◌≡◌, ◌≢◌, ℕ, ◌+◌, ◌-◌, ◌^◌, ◌≤◌, min, true, false, arith, append-nil, List, [], ◌∷◌, ◌++◌, Option, Some, None, Ok, Err, Result, inl, inr, ⊎_elim, sym, ap, subst, ◌∙◌, refl}
use Rattle.std.specs.Prelude.{◌⊎◌, All, IfOk, IfErr, IsErr, IsErrAnd, IsErrOf, IsOkAnd, IfSome, IsSomeAnd, OnOk, OnErr, is_some, option_map}
use Rattle.std.specs.Result.{is_err}
use Rattle.std.proofs.lemmas.List.Elements.{All-head, All-tail}
use Rattle.pgr_outside.specs.Faults.{HasRisen}
use Rattle.pgr_outside.specs.Sink.{with_added, with_added-twice, AddsPrefix, AddsPrefix-first, AddsPrefix-second, HasGained}
use Rattle.pgr_words.specs.declared.command.Command.{Command}
use Rattle.pgr_words.specs.declared.fault.WordFault.{WordFault}
use Rattle.pgr_words.specs.Commands.{command_of}
use Rattle.pgr_table.specs.declared.fault.TableFault.{TableFault}
use Rattle.pgr_table.specs.declared.fault.TableFault.TheVariants as fault
use Rattle.pgr_answer.specs.declared.answered.Answered.{Answered}
use Rattle.pgr_answer.specs.declared.role.Role.{Role}
use Rattle.pgr_answer.specs.declared.role.Role.TheVariants as roles
use Rattle.pgr_answer.specs.declared.refused.Refused.{Refused}
use Rattle.pgr_answer.specs.declared.refused.Refused.TheVariants as refused
use Rattle.pgr_answer.specs.Files.{File, files_of, refusal_of, IsKnownAccepted}
use Rattle.pgr_answer.specs.Refusals.{HoldsAmong, RefusesCommand, IsContentRefused, AreAcceptedTogether, IsFirstRefusal}
use Rattle.pgr_run.specs.declared.cause.Cause.{Cause}
use Rattle.pgr_run.specs.declared.cause.Cause.TheVariants as cause
use Rattle.pgr_run.specs.declared.status.Status.{Status}
use Rattle.pgr_run.specs.declared.status.Status.TheVariants.{Done, Outside, Words, Memory}
use Rattle.pgr_run.specs.Messages.{message_of}
use Rattle.pgr_run.specs.Causes.{status_of, status_of_fault, status_of_refusal}
use Rattle.pgr_run.specs.Promise.{Asks, Seen, OutStays, WritesLines, Holds, AReadFailed, EndsIn, WhereFirst, IsWritten}

-- what words end with before anything is written
abbrev Ended : Type 0
Ended = Result Answered Cause

-- what holds of the value in an `Ok`, where the equation is known
pub if_ok : {X E : Type 0} (r : Result X E) (Q : X → Type 0) → ((x : X) → r ≡ Ok x → Q x) → IfOk r Q
if_ok (Ok x) Q each = each x refl
if_ok (Err e) Q each = tt

-- what is asked for holds of the command
asked : (words : List (List ℕ)) (command : Command) (P : Command → Type 0) → command_of words ≡ Ok command → Asks words P → P command
asked words command P is asks = subst (λ (r : Result Command WordFault). IsOkAnd r P) is asks

asks : (words : List (List ℕ)) (command : Command) (P : Command → Type 0) → command_of words ≡ Ok command → P command → Asks words P
asks words command P is holds = subst (λ (r : Result Command WordFault). IsOkAnd r P) (sym is) holds

-- what follows of a command follows of the command of the words
pub asks_then : (words : List (List ℕ)) (P Q : Command → Type 0) → ((command : Command) → P command → Q command) → Asks words P → Asks words Q
asks_then words P Q follows = by (command_of words) where
  by : (r : Result Command WordFault) → IsOkAnd r P → IsOkAnd r Q
  by (Ok command) holds = follows command holds
  by (Err fault) holds = absurd holds

-- an error that is made of a refusal
pub err_made : (result : Ended) (found : Cause) (P : Cause → Type 0) → IsErrAnd result (λ e. e ≡ found) → P found → IfErr result P
err_made (Ok x) found P is holds = tt
err_made (Err e) found P is holds = subst P (sym is) holds

pub err_is : (result : Ended) (found : Cause) → IsErrAnd result (λ e. e ≡ found) → IsErrOf result found
err_is (Ok x) found is = absurd is
err_is (Err e) found is = ap Err is

-- no refusal has the status of words
fault_not_words : (fault : TableFault) → status_of_fault fault ≡ Words → ⊥
fault_not_words fault.NoHeader e = cc
fault_not_words (fault.UnevenRecord number) e = cc
fault_not_words (fault.MissingColumn column) e = cc
fault_not_words (fault.RepeatedColumn column) e = cc
fault_not_words (fault.BadField number column) e = cc
fault_not_words (fault.DuplicateId number) e = cc
fault_not_words (fault.TooManyRows number) e = cc
fault_not_words (fault.CostSum number) e = cc

pub not_words : (found : Refused) → status_of_refusal found ≡ Words → ⊥
not_words (refused.ReadFailed role) e = cc
not_words (refused.TooLong role) e = cc
not_words (refused.Table role fault) e = fault_not_words fault e
not_words refused.Memory e = cc

-- a refusal that is for no fault of a table is one of a file
no_fault : (fault : Option TableFault) (found : Refused) → ((role : Role) (at : TableFault) → refused.Table role at ≡ found → ⊥)
    → option_map (refused.Table roles.Restrictions) fault ≡ Some found → ⊥
no_fault None found none is = cc
no_fault (Some at) found none is = let same : refused.Table roles.Restrictions at ≡ found = cc in none roles.Restrictions at same

of_file : {content : List ℕ → Option (List ℕ)} {before after : List ℕ → ℕ} {command : Command} {found : Refused}
    → ((role : Role) (at : TableFault) → refused.Table role at ≡ found → ⊥)
    → RefusesCommand content before after command found → HoldsAmong content before after (files_of command) found
of_file none (inl holds) = holds
of_file {found = found} none (inr together) = absurd (no_fault _ found none together.refuses)

-- a refusal that holds of the command holds of the run
module _ (words : List (List ℕ)) (seen : Seen) (command : Command) (is : command_of words ≡ Ok command) (stays : OutStays seen) where
  pub holds_refused : (found : Refused) → (found ≢ refused.Memory → RefusesCommand seen.content seen.names_before seen.names_after command found)
      → Holds words seen (cause.Refused found)
  holds_refused (refused.ReadFailed role) holds = (asks words command _ is (of_file (λ role at e. cc) (holds (λ e. cc))), stays)
  holds_refused (refused.TooLong role) holds = (asks words command _ is (of_file (λ role at e. cc) (holds (λ e. cc))), stays)
  holds_refused (refused.Table role fault) holds = (asks words command _ is (holds (λ e. cc)), stays)
  holds_refused refused.Memory holds = stays

-- what the first refusal says of an answer says it of the run
module _ (words : List (List ℕ)) (command : Command) (is : command_of words ≡ Ok command) (content : List ℕ → Option (List ℕ))
    (answered : Result Answered Refused) (first : (found : Refused) → IsFirstRefusal content command found → EndsIn answered (λ r. r) found) where
  -- the command of the words is this one, so its first refusal is that of the answer
  answers_first : (other : Command) (found : Refused) → command_of words ≡ Ok other → IsFirstRefusal content other found → EndsIn answered (λ r. r) found
  answers_first other found also among =
      let same : other ≡ command = cc in
      first found (subst (λ (c : Command). IsFirstRefusal content c found) same among)

  pub first_told : (result : Ended) (got : Refused) → answered ≡ Err got → IsErrAnd result (λ e. e ≡ cause.Refused got)
      → WhereFirst words content (λ command. EndsIn result cause.Refused)
  first_told result got was made = if_ok (command_of words) _ (λ other also found among. by_answer found (answers_first other found also among)) where
    told : (found : Refused) → IsErrOf answered found → IsErrOf result (cause.Refused found)
    told found e = let same : got ≡ found = cc in err_is result (cause.Refused got) made ∙ ap (λ r. Err (cause.Refused r)) same

    by_answer : (found : Refused) → EndsIn answered (λ r. r) found → EndsIn result cause.Refused found
    by_answer found (inl e) = inl (told found e)
    by_answer found (inr (inl e)) = inr (inl (told refused.Memory e))
    by_answer found (inr (inr (role, e))) = inr (inr (role, told (refused.ReadFailed role) e))

  -- where there is an answer no content is refused
  pub none_first : (got : Answered) (P : Refused → Type 0) → answered ≡ Ok got → WhereFirst words content (λ command. P)
  none_first got P was = if_ok (command_of words) _ (λ other also found among. absurd (none found (answers_first other found also among))) where
    none : (found : Refused) → EndsIn answered (λ r. r) found → ⊥
    none found (inl e) = cc
    none found (inr (inl e)) = cc
    none found (inr (inr (role, e))) = cc

-- what is known of the first refusal, at this command
at_first : (words : List (List ℕ)) (content : List ℕ → Option (List ℕ)) (P : Command → Refused → Type 0) (command : Command) (found : Refused)
    → command_of words ≡ Ok command → WhereFirst words content P → IsFirstRefusal content command found → P command found
at_first words content P command found is each first =
    subst (λ (r : Result Command WordFault). IfOk r (λ command. (found : Refused) → IsFirstRefusal content command found → P command found)) is each found first

-- an answer that is no error is no refusal
pub done_where : (words : List (List ℕ)) (content : List ℕ → Option (List ℕ)) (result : Ended) (P : Command → Refused → Type 0) (x : Answered) → result ≡ Ok x
    → WhereFirst words content (λ command. EndsIn result cause.Refused) → WhereFirst words content P
done_where words content result P x was told =
    if_ok (command_of words) _ (λ command is found first. absurd (none found (at_first words content (λ command. EndsIn result cause.Refused) command found is told first))) where
      none : (found : Refused) → EndsIn result cause.Refused found → ⊥
      none found (inl e) = cc
      none found (inr (inl e)) = cc
      none found (inr (inr (role, e))) = cc

-- where the words break a rule the status is that of the words, or of out of memory
pub words_where : (asked : Result Command WordFault) (result : Ended) (got : Cause) (status : Status) → result ≡ Err got → status ≡ status_of got
    → IfErr asked (λ fault. IsErrOf result (cause.Words fault) ⊎ IsErrOf result (cause.Refused refused.Memory)) → IsErr asked → (status ≡ Words) ⊎ (status ≡ Memory)
words_where (Ok command) result got status is same told wrong = absurd (cc wrong)
words_where (Err fault) result got status is same (inl e) wrong = let this : got ≡ cause.Words fault = cc in inl (same ∙ ap status_of this)
words_where (Err fault) result got status is same (inr e) wrong = let this : got ≡ cause.Refused refused.Memory = cc in inr (same ∙ ap status_of this)

-- the file that stands behind a prefix of a list has what all of the list have
among : (P : File → Type 0) (all front : List File) (file : File) (back : List File) → all ≡ front ++ file ∷ back → All P all → P file
among P [] [] file back order each = absurd cc
among P [] (f ∷ front) file back order each = absurd cc
among P (first ∷ all) [] file back order each = let same : first ≡ file = cc in subst P same (All-head P first all each)
among P (first ∷ all) (f ∷ front) file back order each =
    let rest : all ≡ front ++ file ∷ back = cc in among P all front file back rest (All-tail P first all each)

-- a content that is known to be accepted isn't refused
not_refused : (told : Option (List ℕ)) (file : File) (bytes : List ℕ) (found : Refused) → IfSome told (λ known. bytes ≡ known)
    → refusal_of file bytes ≡ Some found → IsSomeAnd told (λ known. refusal_of file known ≡ None) → ⊥
not_refused None file bytes found possible is accepted = accepted
not_refused (Some known) file bytes found possible is accepted = let same : refusal_of file bytes ≡ refusal_of file known = ap (refusal_of file) possible in cc

known_refused : (content : List ℕ → Option (List ℕ)) (file : File) (found : Refused) → IsContentRefused content file found → IsKnownAccepted content file → ⊥
known_refused content file found refused known = not_refused (content file.name) file refused.bytes found refused.possible refused.is_refused known

module _ (content : List ℕ → Option (List ℕ)) (before after : List ℕ → ℕ) (files : List File) (known : All (IsKnownAccepted content) files)
    (kept : All (λ file. ¬ HasRisen (before file.name) (after file.name)) files) where
  -- the file that a refusal is for is known to be accepted
  known_at : (found : Refused) (holds : HoldsAmong content before after files found) → IsKnownAccepted content holds.file
  known_at found holds = among (IsKnownAccepted content) files holds.front holds.file holds.place.back holds.place.order known

  -- where all files are known to be accepted and no count rose, only out of memory is a refusal
  refused_nowhere : (found : Refused) → HoldsAmong content before after files found → found ≢ refused.Memory → ⊥
  refused_nowhere (refused.ReadFailed role) holds differ =
      among (λ file. ¬ HasRisen (before file.name) (after file.name)) files holds.front holds.file holds.place.back holds.place.order kept holds.refuses.1
  refused_nowhere (refused.TooLong role) holds differ = known_refused content holds.file (refused.TooLong role) holds.refuses (known_at (refused.TooLong role) holds)
  refused_nowhere (refused.Table role fault) holds differ = known_refused content holds.file (refused.Table role fault) holds.refuses (known_at (refused.Table role fault) holds)
  refused_nowhere refused.Memory holds differ = differ refl

module _ (words : List (List ℕ)) (seen : Seen) where
  -- where nothing is refused and no count rose, a cause is out of memory
  module _ (command : Command) (is : command_of words ≡ Ok command) (known : All (IsKnownAccepted seen.content) (files_of command))
      (together : AreAcceptedTogether seen.content command)
      (kept : All (λ file. ¬ HasRisen (seen.names_before file.name) (seen.names_after file.name)) (files_of command))
      (wrote : ¬ HasRisen seen.faults_before seen.faults_after) where
    no_file : (found : Refused) → Asks words (λ command. HoldsAmong seen.content seen.names_before seen.names_after (files_of command) found) → found ≢ refused.Memory → ⊥
    no_file found holds = refused_nowhere seen.content seen.names_before seen.names_after (files_of command) known kept found (asked words command _ is holds)

    completes_at : (found : Cause) → Holds words seen found → status_of found ≡ Memory
    completes_at (cause.Words fault) holds = let broken = holds.0 in absurd cc
    completes_at (cause.Refused (refused.ReadFailed role)) holds = absurd (no_file (refused.ReadFailed role) holds.0 (λ e. cc))
    completes_at (cause.Refused (refused.TooLong role)) holds = absurd (no_file (refused.TooLong role) holds.0 (λ e. cc))
    completes_at (cause.Refused (refused.Table role fault)) holds = absurd (no_table (asked words command _ is holds.0)) where
      no_table : RefusesCommand seen.content seen.names_before seen.names_after command (refused.Table role fault) → ⊥
      no_table (inl among) = refused_nowhere seen.content seen.names_before seen.names_after (files_of command) known kept (refused.Table role fault) among (λ e. cc)
      no_table (inr refuses) = let none = together refuses.contents refuses.accepted in let some = refuses.refuses in cc
    completes_at (cause.Refused refused.Memory) holds = refl
    completes_at cause.WriteFailed holds = absurd (wrote (asked words command _ is holds).0)

  pub completes : (found : Cause) (status : Status) → status ≡ status_of found → Holds words seen found
      → IfOk (command_of words) (λ command. All (IsKnownAccepted seen.content) (files_of command)
      → AreAcceptedTogether seen.content command
      → All (λ file. ¬ HasRisen (seen.names_before file.name) (seen.names_after file.name)) (files_of command)
      → ¬ HasRisen seen.faults_before seen.faults_after
      → (status ≡ Done) ⊎ (status ≡ Memory))
  completes found status same holds =
      if_ok (command_of words) _ (λ command is known together kept wrote. inr (same ∙ completes_at command is known together kept wrote found holds))

  -- the first refusal has its status
  pub refused_where : (result : Ended) (got : Cause) (status : Status) → result ≡ Err got → status ≡ status_of got → Holds words seen got
      → WhereFirst words seen.content (λ command. EndsIn result cause.Refused)
      → WhereFirst words seen.content (λ command found. (status ≡ status_of_refusal found) ⊎ (status ≡ Memory)
      ⊎ ((status ≡ Outside) × AReadFailed command seen.content seen.names_before seen.names_after))
  refused_where result got status was same holds told =
      if_ok (command_of words) _ (λ command is found first.
      by_told command is found (at_first words seen.content (λ command. EndsIn result cause.Refused) command found is told first)) where
        by_told : (command : Command) → command_of words ≡ Ok command → (found : Refused) → EndsIn result cause.Refused found
            → (status ≡ status_of_refusal found) ⊎ (status ≡ Memory) ⊎ ((status ≡ Outside) × AReadFailed command seen.content seen.names_before seen.names_after)
        by_told command is found (inl e) = let this : got ≡ cause.Refused found = cc in inl (same ∙ ap status_of this)
        by_told command is found (inr (inl e)) = let this : got ≡ cause.Refused refused.Memory = cc in inr (inl (same ∙ ap status_of this))
        by_told command is found (inr (inr (role, e))) =
            let this : got ≡ cause.Refused (refused.ReadFailed role) = cc in
            let failed : Holds words seen (cause.Refused (refused.ReadFailed role)) = subst (Holds words seen) this holds in
            inr (inr (same ∙ ap status_of this, (role, asked words command _ is failed.0)))

-- what was written tells as much as before
tells_added : (before : Option (List ℕ)) (bytes : List ℕ) → is_some (with_added before bytes) ≡ is_some before
tells_added None bytes = refl
tells_added (Some told) bytes = refl

pub tells_lines : (lines : List ℕ) (before after : Option (List ℕ)) (faults_before faults_after : ℕ) → WritesLines lines before after faults_before faults_after
    → is_some after ≡ is_some before
tells_lines lines before after faults_before faults_after (inl added) = ap is_some added ∙ tells_added before lines
tells_lines lines before after faults_before faults_after (inr (risen, (front, rest, whole, added))) = ap is_some added ∙ tells_added before front

-- lines behind others
pub lines_both : (first second : List ℕ) (before between after : Option (List ℕ)) (faults_before faults_between faults_after : ℕ)
    → between ≡ with_added before first → faults_before ≤ faults_between
    → WritesLines second between after faults_between faults_after → WritesLines (first ++ second) before after faults_before faults_after
lines_both first second before between after faults_before faults_between faults_after begun fell (inl added) =
    inl (added ∙ ap (λ written. with_added written second) begun ∙ with_added-twice before first second)
lines_both first second before between after faults_before faults_between faults_after begun fell (inr (risen, prefix)) =
    inr (let rises : min (faults_between + 1) (2 ^ 64 - 1) ≤ faults_after = risen in omega (arith, rises, fell), AddsPrefix-second before between after first second begun prefix)

-- a prefix of the first lines, where nothing more is written
pub lines_first : (first second : List ℕ) (before after : Option (List ℕ)) (faults_before faults_after : ℕ) → HasRisen faults_before faults_after
    → AddsPrefix before after first → WritesLines (first ++ second) before after faults_before faults_after
lines_first first second before after faults_before faults_after risen prefix = inr (risen, AddsPrefix-first before after first second prefix)

-- where nothing is left, all was added
pub gained_all : (before after : Option (List ℕ)) (bytes : List ℕ) → HasGained before after bytes [] → after ≡ with_added before bytes
gained_all before after bytes gained = gained.gained ∙ ap (with_added before) (sym (append-nil gained.front) ∙ gained.split)

-- what was told of lines, by the result of telling them
pub lines_told : {X E : Type 0} (told : Result X E) (lines : List ℕ) (before after : Option (List ℕ)) (faults_before faults_after : ℕ)
    → OnOk told (after ≡ with_added before lines) → OnErr told (HasRisen faults_before faults_after) → OnErr told (AddsPrefix before after lines)
    → WritesLines lines before after faults_before faults_after
lines_told (Ok x) lines before after faults_before faults_after all risen front = inl all
lines_told (Err e) lines before after faults_before faults_after all risen front = inr (risen, front)

-- what holds anyway holds where lines were told
pub on_ok_always : {X E P : Type 0} (told : Result X E) → P → OnOk told P
on_ok_always (Ok x) holds = holds
on_ok_always (Err e) holds = tt

-- where they weren't told, nothing is said of lines that were
pub none_told : {X E : Type 0} (told : Result X E) (P : Type 0) → is_err told ≡ true → OnOk told P
none_told (Ok x) P is = absurd cc
none_told (Err e) P is = tt

-- and the other way round
pub all_told : {X E : Type 0} (told : Result X E) (P : Type 0) → is_err told ≡ false → OnErr told P
all_told (Ok x) P is = tt
all_told (Err e) P is = absurd cc

-- the message of a failed write comes behind the notes that were told; where they weren't, nothing more comes
pub failure_told : {X E S : Type 0} (written : S → Option (List ℕ)) (faults : S → ℕ) (told : Result X E) (notes message : List ℕ) (before between after : S)
    → OnOk told (written between ≡ with_added (written before) notes) → OnErr told (HasRisen (faults before) (faults between))
    → OnErr told (AddsPrefix (written before) (written between) notes) → faults before ≤ faults between
    → OnOk told (WritesLines message (written between) (written after) (faults between) (faults after)) → OnErr told (after ≡ between)
    → WritesLines (notes ++ message) (written before) (written after) (faults before) (faults after)
failure_told written faults (Ok x) notes message before between after all risen front fell more stays =
    lines_both notes message (written before) (written between) (written after) (faults before) (faults between) (faults after) all fell more
failure_told written faults (Err e) notes message before between after all risen front fell more stays =
    subst (λ s. WritesLines (notes ++ message) (written before) (written s) (faults before) (faults s)) (sym stays)
    (lines_first notes message (written before) (written between) (faults before) (faults between) risen front)

-- no cause has the status of what was done
fault_not_done : (fault : TableFault) → status_of_fault fault ≡ Done → ⊥
fault_not_done fault.NoHeader e = cc
fault_not_done (fault.UnevenRecord number) e = cc
fault_not_done (fault.MissingColumn column) e = cc
fault_not_done (fault.RepeatedColumn column) e = cc
fault_not_done (fault.BadField number column) e = cc
fault_not_done (fault.DuplicateId number) e = cc
fault_not_done (fault.TooManyRows number) e = cc
fault_not_done (fault.CostSum number) e = cc

pub not_done : (found : Cause) → status_of found ≡ Done → ⊥
not_done (cause.Words fault) e = cc
not_done (cause.Refused (refused.ReadFailed role)) e = cc
not_done (cause.Refused (refused.TooLong role)) e = cc
not_done (cause.Refused (refused.Table role fault)) e = fault_not_done fault e
not_done (cause.Refused refused.Memory) e = cc
not_done cause.WriteFailed e = cc

-- words that are a command break no rule
pub asks_no_fault : (words : List (List ℕ)) (P : Command → Type 0) → Asks words P → IsErr (command_of words) → ⊥
asks_no_fault words P = by (command_of words) where
  by : (r : Result Command WordFault) → IsOkAnd r P → IsErr r → ⊥
  by (Ok command) holds err = cc
  by (Err fault) holds err = holds

-- what came of writing an answer
module _ (table notes : List ℕ) (result : Status) (out_before out_after : Option (List ℕ)) (out_faults_before out_faults_after : ℕ)
    (err_before err_after : Option (List ℕ)) (err_faults_before err_faults_after : ℕ)
    (written : IsWritten table notes result out_before out_after out_faults_before out_faults_after err_before err_after err_faults_before err_faults_after) where
  -- it is one of two statuses
  pub done_or_outside : (result ≡ Done) ⊎ (result ≡ Outside)
  done_or_outside = ⊎_elim (λ done. inl done.0) (λ failed. inr failed.0) written

  -- with the first all was written
  pub done_written : result ≡ Done → (out_after ≡ with_added out_before table) × WritesLines notes err_before err_after err_faults_before err_faults_after
  done_written is = ⊎_elim (λ done. (done.1, done.2)) (λ failed. let both : Done ≡ Outside = sym is ∙ failed.0 in absurd cc) written

  -- with the other a write failed
  pub failed_written : result ≢ Done → (result ≡ Outside) × HasRisen out_faults_before out_faults_after × AddsPrefix out_before out_after table
      × WritesLines (notes ++ message_of cause.WriteFailed) err_before err_after err_faults_before err_faults_after
  failed_written differ = ⊎_elim (λ done. absurd (differ done.0)) (λ failed. failed) written

  -- where the output's count didn't rise it is the first
  pub done_unless_risen : ¬ HasRisen out_faults_before out_faults_after → (result ≡ Done) ⊎ (result ≡ Memory)
  done_unless_risen wrote = ⊎_elim (λ done. inl done.0) (λ failed. absurd (wrote failed.1)) written

  -- it is never that of words
  pub not_words_written : result ≡ Words → ⊥
  not_words_written is = ⊎_elim (λ done. let both : Words ≡ Done = sym is ∙ done in cc) (λ outside. let both : Words ≡ Outside = sym is ∙ outside in cc) done_or_outside

  -- both sinks tell as much as before
  pub out_tells : is_some out_after ≡ is_some out_before
  out_tells = ⊎_elim (λ done. ap is_some done.1 ∙ tells_added out_before table)
      (λ failed. tells_lines table out_before out_after out_faults_before out_faults_after (inr (failed.1, failed.2))) written

  pub err_tells : is_some err_after ≡ is_some err_before
  err_tells = ⊎_elim (λ done. tells_lines notes err_before err_after err_faults_before err_faults_after done.2)
      (λ failed. tells_lines (notes ++ message_of cause.WriteFailed) err_before err_after err_faults_before err_faults_after failed.3) written
