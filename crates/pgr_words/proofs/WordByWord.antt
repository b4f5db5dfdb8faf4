-- Words that are judged one after another: what is left behind a good word, and what a fault or the end says of all.
use Rattle.std.proofs.Common.{◌≡◌, ℕ, ◌+◌, ◌<◌, ◌≤◌, List, [], ◌∷◌, ◌++◌, length, get_or, take, drop, map, Some, None, Result, Ok, Err, refl, sym, ap, ◌∙◌, subst, arith, String, Global, string_bytes}
use Rattle.std.proofs.lemmas.List.{take_more, length-take, length-map, get_or-map, take_all, at_drop_more, at_drop_all}
use Rattle.pgr_words.specs.declared.function.Function.{Function}
use Rattle.pgr_words.specs.declared.option.OptionName.{OptionName}
use Rattle.pgr_words.specs.declared.command.Command.{Command}
use Rattle.pgr_words.specs.declared.draft.Draft.{Draft}
use Rattle.pgr_words.specs.declared.fault.WordFault.{WordFault}
use Rattle.pgr_words.specs.Words.{word_fault, or_fault, first_fault, first_missing}
use Rattle.pgr_words.specs.Commands.{unless, missing_fault, command_behind, IsVerdict}
use Rattle.pgr_words.specs.declared.fault.WordsRefused.{WordsRefused}
use Rattle.pgr_words.specs.declared.fault.WordsRefused.TheVariants as refused
use Rattle.pgr_words.specs.Drafts.{IsDraft, Takes, Faults, IsFaultOf}

-- the words up to a place were taken, and none of them breaks a rule
pub record AreTaken (function : Function) (options : List OptionName) (words : List (List ℕ)) (n : ℕ) (draft : Draft) : Type 0 where
  pub within : n ≤ length words
  pub holds : IsDraft function options (take n words) draft
  pub rest : first_fault options (take n words) (drop n words) ≡ first_fault options [] words

-- before the first word
pub at_start : (function : Function) (options : List OptionName) (words : List (List ℕ)) (draft : Draft)
    → IsDraft function options [] draft
    → AreTaken function options words 0 draft
at_start function options words draft holds = record { within = omega arith; holds = holds; rest = refl }

-- what is left from a place on begins with the word there
first_fault-at : (options : List OptionName) (words : List (List ℕ)) (n : ℕ)
    → n < length words
    → first_fault options (take n words) (drop n words)
    ≡ or_fault (word_fault options (take n words) (get_or words n [])) (first_fault options (take (n + 1) words) (drop (n + 1) words))
first_fault-at options words n inside =
    at_drop_more (first_fault options (take n words)) words n [] inside
    ∙ ap (λ front. or_fault (word_fault options (take n words) (get_or words n [])) (first_fault options front (drop (n + 1) words))) (sym (take_more words n [] inside))

-- how long the words before a place are
length_before : (words : List (List ℕ)) (n place : ℕ) → n < length words → place ≡ n + 2 → length (take n words) + 2 ≡ place
length_before words n place inside at_place = omega (arith, length-take n words)

-- a good word
pub one_more : (function : Function) (options : List OptionName) (words : List (List ℕ)) (n place : ℕ) (word : List ℕ) (old new : Draft)
    → AreTaken function options words n old
    → n < length words
    → word ≡ get_or words n []
    → place ≡ n + 2
    → Takes options place word old new
    → AreTaken function options words (n + 1) new
one_more function options words n place word old new taken inside here at_place takes =
    let later = first_fault options (take (n + 1) words) (drop (n + 1) words) in
    let step = takes function (take n words) (length_before words n place inside at_place) taken.holds in
    record {
      within = omega arith;
      holds = subst (λ front. IsDraft function options front new) (ap (λ w. take n words ++ w ∷ []) here ∙ sym (take_more words n [] inside)) step.1;
      rest = sym (first_fault-at options words n inside ∙ ap (λ f. or_fault f later) (ap (word_fault options (take n words)) (sym here) ∙ step.0))
          ∙ taken.rest;
    }

-- a fault
pub at_fault : (function : Function) (options : List OptionName) (words : List (List ℕ)) (n place : ℕ) (word : List ℕ) (old : Draft) (fault : WordFault)
    → AreTaken function options words n old
    → n < length words
    → word ≡ get_or words n []
    → place ≡ n + 2
    → Faults options place word old fault
    → command_behind function options words ≡ Err fault
at_fault function options words n place word old fault taken inside here at_place faults =
    let is = faults function (take n words) (length_before words n place inside at_place) taken.holds in
    let later = first_fault options (take (n + 1) words) (drop (n + 1) words) in
    let first : first_fault options [] words ≡ Some fault =
    sym taken.rest ∙ first_fault-at options words n inside ∙ ap (λ f. or_fault f later) (ap (word_fault options (take n words)) (sym here) ∙ is) in
    rw first refl

-- the end
pub at_end : (function : Function) (options : List OptionName) (words : List (List ℕ)) (n : ℕ) (draft : Draft)
    → AreTaken function options words n draft
    → length words ≤ n
    → command_behind function options words ≡ unless (missing_fault (first_missing options draft.stood.items)) (Ok draft.command)
at_end function options words n draft taken whole =
    let none : first_fault options [] words ≡ None = sym taken.rest ∙ at_drop_all (first_fault options (take n words)) words n whole in
    let holds = subst (λ front. IsDraft function options front draft) (take_all n words whole) taken.holds in
    rw (none, holds.stood, holds.fields) refl

-- a refusal is the verdict, where its fault is
pub refused_is : (verdict : Result Command WordFault) (P : WordFault → Type 0) (why : WordsRefused)
    → ((fault : WordFault) → P fault → verdict ≡ Err fault)
    → IsFaultOf P why
    → IsVerdict (Err why) verdict
refused_is verdict P (refused.Fault fault) gives is = gives fault is
refused_is verdict P refused.Memory gives is = tt

-- what a text at a place is
pub text_at : (words : List (String Global)) (n : ℕ) (word : String Global) (text : List ℕ)
    → n < length words
    → word ≡ get_or words n word
    → text ≡ string_bytes word
    → (n < length (map string_bytes words)) × (text ≡ get_or (map string_bytes words) n [])
text_at words n word text inside here is =
    (omega (arith, length-map words (string_bytes {Z = Global})), is ∙ ap string_bytes here ∙ sym (get_or-map (string_bytes {Z = Global}) words n word [] inside))
