use Rattle.std.proofs.Common.{take, ℤ}
use Rattle.std.specs.List.{Contains}
use Rattle.pgr_walks.specs.declared.link.LinkOf.{LinkOf}
use Rattle.pgr_walks.specs.Reaches.{turned}
use Rattle.pgr_contract.proofs.tests.have_opposites.Given as goal

-- the opposite of each link so far stands among the links
abbrev pub invariant-loop-link : goal.invariant-loop-link
invariant-loop-link l = (link : LinkOf ℤ) → Contains (take l.link-index l.links) link → Contains l.links (turned link)
