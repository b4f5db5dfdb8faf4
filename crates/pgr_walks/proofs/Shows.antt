-- Showing links one after another: what is left to show, and one step of it.
use Rattle.std.proofs.Common.{◌≡◌, ℕ, ◌+◌, ◌<◌, ◌≤◌, List, [], ◌∷◌, length, get_or, drop, sym, ap, subst, ◌∙◌}
use Rattle.std.proofs.lemmas.List.{drop_more, drop_all}
use Rattle.pgr_walks.specs.declared.link.LinkOf.{LinkOf}
use Rattle.pgr_walks.specs.declared.visitor.Next.{Next}
use Rattle.pgr_walks.specs.declared.visitor.Next.TheVariants.{Go, Stop}
use Rattle.pgr_walks.specs.Visit.{shown, Admits}

module _ {M : Type 0} (after : M → LinkOf ℕ → M) (answer : M → LinkOf ℕ → Next) (ready : M → LinkOf ℕ → Type 0) where
  -- to show the links left, with the meaning now, leads to the last meaning, and may be done
  pub record IsLeft (last now : M) (left : List (LinkOf ℕ)) : Type 0 where
    pub rest : shown after answer now left ≡ last
    pub admits : Admits after answer ready now left

  -- the first link left may be shown
  ready_first : (last now : M) (link : LinkOf ℕ) (left : List (LinkOf ℕ)) → IsLeft last now (link ∷ left) → ready now link
  ready_first last now link left h = h.admits.0

  -- at stop the meaning after the first link left is the last
  stop_first : (last now : M) (link : LinkOf ℕ) (left : List (LinkOf ℕ)) → IsLeft last now (link ∷ left) → answer now link ≡ Stop → after now link ≡ last
  stop_first last now link left h e = rw (e, shown) at h.rest

  -- at go the others are left
  go_first : (last now : M) (link : LinkOf ℕ) (left : List (LinkOf ℕ)) → IsLeft last now (link ∷ left) → answer now link ≡ Go → IsLeft last (after now link) left
  go_first last now link left h e = record { rest = rw (e, shown) at h.rest; admits = rw (e, Admits) at h.admits.1 }

  -- the same at a place of a list
  pub ready_at : (last now : M) (links : List (LinkOf ℕ)) (i : ℕ) (d : LinkOf ℕ) → i < length links → IsLeft last now (drop i links) → ready now (get_or links i d)
  ready_at last now links i d inside h = ready_first last now _ _ (subst (IsLeft last now) (drop_more links i d inside) h)

  pub stop_at : (last now next : M) (links : List (LinkOf ℕ)) (i : ℕ) (d : LinkOf ℕ) → i < length links → IsLeft last now (drop i links) → answer now (get_or links i d) ≡ Stop
      → next ≡ after now (get_or links i d) → next ≡ last
  stop_at last now next links i d inside h stop e = e ∙ stop_first last now _ _ (subst (IsLeft last now) (drop_more links i d inside) h) stop

  pub go_at : (last now next : M) (links : List (LinkOf ℕ)) (i : ℕ) (d : LinkOf ℕ) → i < length links → IsLeft last now (drop i links) → answer now (get_or links i d) ≡ Go
      → next ≡ after now (get_or links i d) → IsLeft last next (drop (i + 1) links)
  go_at last now next links i d inside h go e =
      subst (λ m. IsLeft last m (drop (i + 1) links)) (sym e) (go_first last now _ _ (subst (IsLeft last now) (drop_more links i d inside) h) go)

  -- the same of a link that stands at the place
  pub ready_link : (last now : M) (links : List (LinkOf ℕ)) (i : ℕ) (link : LinkOf ℕ) → i < length links → get_or links i link ≡ link → IsLeft last now (drop i links)
      → ready now link
  ready_link last now links i link inside same h = subst (ready now) same (ready_at last now links i link inside h)

  pub stop_link : (last now next : M) (links : List (LinkOf ℕ)) (i : ℕ) (link : LinkOf ℕ) → i < length links → get_or links i link ≡ link → IsLeft last now (drop i links)
      → answer now link ≡ Stop → next ≡ after now link → next ≡ last
  stop_link last now next links i link inside same h stop e = stop_at last now next links i link inside h (ap (answer now) same ∙ stop) (e ∙ ap (after now) (sym same))

  pub go_link : (last now next : M) (links : List (LinkOf ℕ)) (i : ℕ) (link : LinkOf ℕ) → i < length links → get_or links i link ≡ link → IsLeft last now (drop i links)
      → answer now link ≡ Go → next ≡ after now link → IsLeft last next (drop (i + 1) links)
  go_link last now next links i link inside same h go e = go_at last now next links i link inside h (ap (answer now) same ∙ go) (e ∙ ap (after now) (sym same))

  -- where none is left, the meaning now is the last
  pub none_left : (last now : M) (links : List (LinkOf ℕ)) (i : ℕ) → length links ≤ i → IsLeft last now (drop i links) → now ≡ last
  none_left last now links i past h = rw (drop_all i links past) at h.rest

-- a visitor that may be shown each link, where a fact holds that each link keeps, may be shown any links
pub admits_while : {M : Type 0} (after : M → LinkOf ℕ → M) (answer : M → LinkOf ℕ → Next) (ready : M → LinkOf ℕ → Type 0) (Keeps : M → Type 0)
    → ((now : M) (link : LinkOf ℕ) → Keeps now → ready now link × Keeps (after now link)) → (now : M) (links : List (LinkOf ℕ)) → Keeps now
    → Admits after answer ready now links
admits_while after answer ready Keeps step now [] kept = tt
admits_while after answer ready Keeps step now (link ∷ links) kept =
    let h = step now link kept in (
      h.0,
      elim (answer now link) as (λ next. elim next [ Go ↦ Admits after answer ready (after now link) links | Stop ↦ Unit {0} ]) [
        | Go ↦ admits_while after answer ready Keeps
            step (after now link) links h.1
        | Stop ↦ tt
      ],
    )
