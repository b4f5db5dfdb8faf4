-- What a visitor means after it was shown links in order, and where it may be shown them.
use Rattle.std.specs.Prelude.{ℕ, List, [], ◌∷◌}
use Rattle.pgr_walks.specs.declared.link.LinkOf.{LinkOf}
use Rattle.pgr_walks.specs.declared.visitor.Next.{Next}
use Rattle.pgr_walks.specs.declared.visitor.Next.TheVariants.{Go, Stop}

-- the meaning after the links, up to and with the first at which the answer is stop
abbrev pub shown : {M : Type 0} → (M → LinkOf ℕ → M) → (M → LinkOf ℕ → Next) → M → List (LinkOf ℕ) → M
shown after answer meaning [] = meaning
shown after answer meaning (link ∷ links) = elim (answer meaning link) [ Go ↦ shown after answer (after meaning link) links | Stop ↦ after meaning link ]

-- each link that is shown may be shown, with the meaning after those before it
abbrev pub Admits : {M : Type 0} → (M → LinkOf ℕ → M) → (M → LinkOf ℕ → Next) → (M → LinkOf ℕ → Type 0) → M → List (LinkOf ℕ) → Type 0
Admits after answer ready meaning [] = Unit {0}
Admits after answer ready meaning (link ∷ links) = ready meaning link × (elim (answer meaning link) [ Go ↦ Admits after answer ready (after meaning link) links | Stop ↦ Unit {0} ])
