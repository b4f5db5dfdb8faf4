-- A visitor that passes links on, after some links: what is behind its reference was shown those that it passes on.
use Rattle.std.proofs.Common.{◌≡◌, ℕ, List, [], ◌∷◌, Option, Some, None, refl, sym, ap, ◌∙◌, subst}
use Rattle.std.specs.Borrow.{GName}
use Rattle.std.specs.List.{filter_map, cons_option}
use Rattle.pgr_walks.specs.declared.link.LinkOf.{LinkOf}
use Rattle.pgr_walks.specs.declared.visitor.Next.{Next}
use Rattle.pgr_walks.specs.declared.visitor.Next.TheVariants.{Go, Stop}
use Rattle.pgr_walks.specs.Visit.{shown, Admits}
use Rattle.pgr_walks.specs.Through.{Through, passed_on, answer_to, IsReadyFor, after_through, answer_through, IsReadyThrough}

module _ {W M : Type 0} (change : W → LinkOf ℕ → Option (LinkOf ℕ)) (after : M → LinkOf ℕ → M) (answer : M → LinkOf ℕ → Next) where
  -- the meaning after a link, where the rest of the links is known to do the same
  shown_step : (m : Through W M) (links : List (LinkOf ℕ)) (o : Option (LinkOf ℕ))
      → ((x : M) → shown (after_through change after) (answer_through change answer) (record m { inner = x }) links ≡
      record m { inner = shown after answer x (filter_map (change m.by) links) })
      → (elim (answer_to answer m.inner o) as (λ _. Through W M) [
        | Go ↦ shown (after_through change after) (answer_through change answer) (passed_on after m o) links
        | Stop
            ↦ passed_on after m o
      ]) ≡ record m { inner = shown after answer m.inner (cons_option o (filter_map (change m.by) links)) }
  shown_step m links None rest = rest m.inner
  shown_step m links (Some link) rest =
      elim (answer m.inner link) as
      (λ next. (elim next as (λ _. Through W M) [
        | Go ↦ shown (after_through change after) (answer_through change answer) (record m { inner = after m.inner link }) links
        | Stop
            ↦ record m { inner = after m.inner link }
      ]) ≡ record m {
        inner = elim next as (λ _. M) [
          | Go ↦ shown after answer (after m.inner link)
              (filter_map (change m.by) links)
          | Stop ↦ after m.inner link
        ];
      })
      [ Go ↦ rest (after m.inner link) | Stop ↦ refl ]

  shown_through : (m : Through W M) (links : List (LinkOf ℕ))
      → shown (after_through change after) (answer_through change answer) m links ≡ record m { inner = shown after answer m.inner (filter_map (change m.by) links) }
  shown_through m [] = refl
  shown_through m (link ∷ links) = shown_step m links (change m.by link) (λ x. shown_through (record m { inner = x }) links)

  -- what is behind a reference that the visitor still holds was shown the links that are passed on
  pub inner_after : {X : Type 0} (meaning : X → M) (by at : W) (reference held : GName) (start : M) (now final : X) (links kept : List (LinkOf ℕ))
      → kept ≡ filter_map (change by) links → ◌≡◌ {A = Through W M} (record { reference = held; by = at; inner = meaning now })
      (shown (after_through change after) (answer_through change answer) (record { reference = reference; by = by; inner = start }) links) → (reference ≡ held → final ≡ now)
      → meaning final ≡ shown after answer start kept
  inner_after meaning by at reference held start now final links kept kept_is e follows =
      let m = e ∙ shown_through (record { reference = reference; by = by; inner = start }) links in
      let same : held ≡ reference = ap (λ (t : Through W M). t.reference) m in
      let inner : meaning now ≡ shown after answer start (filter_map (change by) links) = ap (λ (t : Through W M). t.inner) m in
      ap meaning (follows (sym same)) ∙ (inner ∙ ap (shown after answer start) (sym kept_is))

  module _ (ready : M → LinkOf ℕ → Type 0) where
    admits_step : (m : Through W M) (links : List (LinkOf ℕ)) (o : Option (LinkOf ℕ))
        → ((x : M) → Admits after answer ready x (filter_map (change m.by) links)
        → Admits (after_through change after) (answer_through change answer) (IsReadyThrough change ready) (record m { inner = x }) links)
        → Admits after answer ready m.inner (cons_option o (filter_map (change m.by) links))
        → IsReadyFor ready m.inner o × (elim (answer_to answer m.inner o) as (λ _. Type 0) [
          | Go ↦ Admits (after_through change after) (answer_through change answer)
              (IsReadyThrough change ready) (passed_on after m o) links
          | Stop ↦ Unit {0}
        ])
    admits_step m links None rest h = (tt, rest m.inner h)
    admits_step m links (Some link) rest h = (
      h.0,
      elim (answer m.inner link) as
          (λ next. (elim next as (λ _. Type 0) [ Go ↦ Admits after answer ready (after m.inner link) (filter_map (change m.by) links) | Stop ↦ Unit {0} ])
          → (elim next as (λ _. Type 0) [
            | Go ↦ Admits (after_through change after) (answer_through change answer) (IsReadyThrough change ready)
                (record m { inner = after m.inner link }) links
            | Stop ↦ Unit {0}
          ]))
          [ Go ↦ (λ g. rest (after m.inner link) g) | Stop ↦ (λ g. tt) ] h.1,
    )

    -- links may be shown where those that are passed on may be
    pub admits_through : (m : Through W M) (links kept : List (LinkOf ℕ)) → kept ≡ filter_map (change m.by) links → Admits after answer ready m.inner kept
        → Admits (after_through change after) (answer_through change answer) (IsReadyThrough change ready) m links
    admits_through m links kept kept_is h = through m links (subst (Admits after answer ready m.inner) kept_is h)
      where
        through : (n : Through W M) (rest : List (LinkOf ℕ)) → Admits after answer ready n.inner (filter_map (change n.by) rest)
            → Admits (after_through change after) (answer_through change answer) (IsReadyThrough change ready) n rest
        through n [] g = tt
        through n (link ∷ rest) g = admits_step n rest (change n.by link) (λ x. through (record n { inner = x }) rest) g
