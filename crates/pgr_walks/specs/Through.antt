-- Visitors that pass on to another visitor what they are shown: changed, or left out.
use Rattle.std.specs.Prelude.{ℕ, Option, Some, None}
use Rattle.std.specs.Borrow.{GName}
use Rattle.pgr_walks.specs.declared.link.LinkOf.{LinkOf}
use Rattle.pgr_walks.specs.declared.visitor.Next.{Next}
use Rattle.pgr_walks.specs.declared.visitor.Next.TheVariants.{Go}

-- what such a visitor means: the reference that it holds, what it goes by, and the meaning of the visitor behind the reference
pub record Through (W M : Type 0) : Type 0 where
  pub reference : GName
  pub by : W
  pub inner : M

-- the meaning after the link was passed on, and as it was where it is left out
abbrev pub passed_on : {W M : Type 0} → (M → LinkOf ℕ → M) → Through W M → Option (LinkOf ℕ) → Through W M
passed_on after meaning None = meaning
passed_on after meaning (Some link) = record meaning { inner = after meaning.inner link }

-- the answer at the link, and on to the next where it is left out
abbrev pub answer_to : {M : Type 0} → (M → LinkOf ℕ → Next) → M → Option (LinkOf ℕ) → Next
answer_to answer meaning None = Go
answer_to answer meaning (Some link) = answer meaning link

-- the link may be passed on, or is left out
abbrev pub IsReadyFor : {M : Type 0} → (M → LinkOf ℕ → Type 0) → M → Option (LinkOf ℕ) → Type 0
IsReadyFor ready meaning None = Unit {0}
IsReadyFor ready meaning (Some link) = ready meaning link

-- the meaning after a link of a visitor that passes on what a function makes of each link
abbrev pub after_through : {W M : Type 0} → (W → LinkOf ℕ → Option (LinkOf ℕ)) → (M → LinkOf ℕ → M) → Through W M → LinkOf ℕ → Through W M
after_through change after meaning link = passed_on after meaning (change meaning.by link)

-- its answer to a link: what the visitor answers to the link that is passed on
abbrev pub answer_through : {W M : Type 0} → (W → LinkOf ℕ → Option (LinkOf ℕ)) → (M → LinkOf ℕ → Next) → Through W M → LinkOf ℕ → Next
answer_through change answer meaning link = answer_to answer meaning.inner (change meaning.by link)

-- it is ready for a link where the visitor is ready for the one that is passed on
abbrev pub IsReadyThrough : {W M : Type 0} → (W → LinkOf ℕ → Option (LinkOf ℕ)) → (M → LinkOf ℕ → Type 0) → Through W M → LinkOf ℕ → Type 0
IsReadyThrough change ready meaning link = IsReadyFor ready meaning.inner (change meaning.by link)
