-- Graphs by the links out of each vertex and into it, their laws, and graphs that fit.
use Rattle.std.specs.Prelude.{◌≡◌, ℕ, ◌<◌, ◌≤◌, ◌↔◌, List, Contains}
pub use Rattle.pgr_outside.specs.Limits.{greatest}
pub use Rattle.pgr_outside.specs.Lists.{IsStrictlyRising}
use Rattle.std.specs.Ordering.{nat_cmp}
use Rattle.pgr_walks.specs.declared.link.LinkOf.{LinkOf}
use Rattle.pgr_walks.specs.Link.{step_cmp, entry_cmp}
use Rattle.pgr_walks.specs.Walk.{IsLooplessRoute, cost_of}

-- the laws of the links out of a vertex v below the size, and into it
pub record IsLawfulAt (size : ℕ) (outs ins : ℕ → List (LinkOf ℕ)) (v : ℕ) : Type 0 where
  pub out_ends : (link : LinkOf ℕ) → Contains (outs v) link → (link.from ≡ v) × (link.to < size)
  pub in_ends : (link : LinkOf ℕ) → Contains (ins v) link → (link.to ≡ v) × (link.from < size)
  pub outs_rise : IsStrictlyRising (step_cmp nat_cmp) (outs v)
  pub ins_rise : IsStrictlyRising (entry_cmp nat_cmp) (ins v)

-- the laws of a graph: those of each vertex, and a link stands among the links out of its start exactly where it stands among those into its end
pub record IsLawful (size : ℕ) (outs ins : ℕ → List (LinkOf ℕ)) : Type 0 where
  pub at : (v : ℕ) → v < size → IsLawfulAt size outs ins v
  pub both : (link : LinkOf ℕ) → link.from < size → link.to < size → Contains (outs link.from) link ↔ Contains (ins link.to) link

-- the links of a graph: those into its vertices
abbrev pub IsLinkOf : ℕ → (ℕ → List (LinkOf ℕ)) → LinkOf ℕ → Type 0
IsLinkOf size ins link = (link.to < size) × Contains (ins link.to) link

-- a set of links that fits: every link and every loopless route costs at most 2^63 - 1
pub record Fits {V : Type 0} (Has : LinkOf V → Type 0) : Type 0 where
  pub links : (link : LinkOf V) → Has link → link.cost ≤ greatest
  pub routes : (s t : V) (walk : List (LinkOf V)) → IsLooplessRoute Has s walk t → cost_of walk ≤ greatest
