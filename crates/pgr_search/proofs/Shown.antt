-- What a visitor that relaxes links means after it was shown a list of them.
use Rattle.std.proofs.Common.{◌≡◌, ℕ, Bool, true, false, cond, List, [], ◌∷◌, Option, Some, length, set, refl, ap, ◌∙◌, sym, subst}
use Rattle.std.specs.Borrow.{GName}
use Rattle.std.specs.List.{AllByRecursion}
use Rattle.std.specs.Option.{is_some}
use Rattle.std.proofs.lemmas.List.{length-set}
use Rattle.pgr_walks.specs.declared.link.LinkOf.{LinkOf}
use Rattle.pgr_walks.specs.declared.label.Label.{Label}
use Rattle.pgr_walks.specs.declared.visitor.Next.{Next}
use Rattle.pgr_walks.specs.declared.visitor.Next.TheVariants.{Go}
use Rattle.pgr_walks.specs.Label.{beyond}
use Rattle.pgr_walks.specs.Visit.{shown, Admits}
use Rattle.pgr_search.specs.FinalLabels.{label_at}
use Rattle.pgr_search.specs.Heap.{is_before, key_at, lowered}
use Rattle.pgr_search.specs.Relaxing.{Relaxation, relaxation_after, label_cmp, relaxed, all_relaxed, CanRelax, IsReady}

-- it never stops
abbrev pub always_on : Relaxation → LinkOf ℕ → Next
always_on meaning link = Go

-- relaxing keeps the number of labels
length-lowered : (waiting : List (Option Label)) (v : ℕ) (label : Label) → length (lowered label_cmp waiting v label) ≡ length waiting
length-lowered waiting v label = at (is_before label_cmp (Some label) (key_at waiting v))
  where
    at : (b : Bool) → length (cond b (set waiting v (Some label)) waiting) ≡ length waiting
    at true = length-set waiting v (Some label)
    at false = refl

pub length-relaxed : (settled waiting : List (Option Label)) (label : Label) (link : LinkOf ℕ) → length (relaxed settled waiting label link) ≡ length waiting
length-relaxed settled waiting label link = at (is_some (label_at settled link.from))
  where
    at : (b : Bool) → length (cond b waiting (lowered label_cmp waiting link.from (beyond label link))) ≡ length waiting
    at true = refl
    at false = length-lowered waiting link.from (beyond label link)

pub length-all_relaxed : (settled waiting : List (Option Label)) (label : Label) (links : List (LinkOf ℕ)) → length (all_relaxed settled waiting label links) ≡ length waiting
length-all_relaxed settled waiting label [] = refl
length-all_relaxed settled waiting label (link ∷ links) =
    length-all_relaxed settled (relaxed settled waiting label link) label links ∙ length-relaxed settled waiting label link

-- each link was relaxed, and the rest of the meaning stays
pub shown_is : (meaning : Relaxation) (links : List (LinkOf ℕ))
    → shown relaxation_after always_on meaning links ≡ record meaning { waiting = all_relaxed meaning.settled meaning.waiting meaning.label links }
shown_is meaning [] = refl
shown_is meaning (link ∷ links) = shown_is (relaxation_after meaning link) links

-- links that may each be relaxed among so many labels may all be shown
Admits-from_all : (size : ℕ) (meaning : Relaxation) (links : List (LinkOf ℕ)) → length meaning.settled ≡ size → length meaning.waiting ≡ size
    → AllByRecursion (CanRelax size meaning.label) links → Admits relaxation_after always_on IsReady meaning links
Admits-from_all size meaning [] e f each = tt
Admits-from_all size meaning (link ∷ links) e f each = (
  record { waiting = subst (λ n. CanRelax n meaning.label link) (sym f) each.0; settled = subst (λ n. CanRelax n meaning.label link) (sym e) each.0 },
  Admits-from_all size (relaxation_after meaning link) links e (length-relaxed meaning.settled meaning.waiting meaning.label link ∙ f) each.1,
)

pub Admits-from_parts : (size : ℕ) (reference : GName) (settled waiting : List (Option Label)) (label : Label) (links : List (LinkOf ℕ)) → length settled ≡ size
    → length waiting ≡ size → AllByRecursion (CanRelax size label) links
    → Admits relaxation_after always_on IsReady (record { reference = reference; settled = settled; waiting = waiting; label = label }) links
Admits-from_parts size reference settled waiting label links e f each =
    Admits-from_all size (record { reference = reference; settled = settled; waiting = waiting; label = label }) links e f each

-- what is behind a reference that the visitor still holds is what the visitor means
pub labels_after : (reference held : GName) (settled now_settled before waiting now final : List (Option Label)) (label at : Label) (links : List (LinkOf ℕ))
    → ◌≡◌ {A = Relaxation} (record { reference = held; settled = now_settled; waiting = now; label = at })
    (shown relaxation_after always_on (record { reference = reference; settled = settled; waiting = waiting; label = label }) links) → (reference ≡ held → final ≡ now)
    → waiting ≡ before → final ≡ all_relaxed settled before label links
labels_after reference held settled now_settled before waiting now final label at links e follows was =
    let m = e ∙ shown_is (record { reference = reference; settled = settled; waiting = waiting; label = label }) links in
    let same : held ≡ reference = ap (λ (r : Relaxation). r.reference) m in
    let lowered : now ≡ all_relaxed settled waiting label links = ap (λ (r : Relaxation). r.waiting) m in
    follows (sym same) ∙ lowered ∙ ap (λ xs. all_relaxed settled xs label links) was
