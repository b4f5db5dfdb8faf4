-- What is left of a vertex's links when one looks through them, in order, for one that breaks an estimate.
use Rattle.std.specs.Prelude.{ℕ, ◌+◌, ◌<◌, ◌^◌, Bool, cond, nat_lt, List, Option, Some, length}
use Rattle.pgr_walks.specs.declared.link.LinkOf.{LinkOf}
use Rattle.pgr_walks.specs.declared.visitor.Next.{Next}
use Rattle.pgr_walks.specs.declared.visitor.Next.TheVariants.{Go, Stop}
use Rattle.pgr_astar.specs.Breaking.{value_at}

-- the estimates of all vertices, and the link that was found
pub record Check : Type 0 where
  pub values : List ℕ
  pub found : Option (LinkOf ℕ)

-- whether a link breaks the estimate
abbrev pub breaks : List ℕ → LinkOf ℕ → Bool
breaks values link = nat_lt (value_at values link.from + link.cost) (value_at values link.to)

-- a link that breaks it is found
abbrev pub check : Check → LinkOf ℕ → Check
check meaning link = record { values = meaning.values; found = cond (breaks meaning.values link) (Some link) meaning.found }

-- no more links are looked at behind it
abbrev pub check_on : Check → LinkOf ℕ → Next
check_on meaning link = cond (breaks meaning.values link) Stop Go

-- both ends of a link have estimates
pub record MayBeChecked (meaning : Check) (link : LinkOf ℕ) : Type 0 where
  pub from_below : link.from < length meaning.values
  pub to_below : link.to < length meaning.values
