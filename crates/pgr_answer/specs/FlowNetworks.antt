-- Networks of flows between vertex numbers that stand for arcs between ids, and what is found over them.
use Rattle.std.specs.Prelude.{◌≡◌, ℕ, ℤ, List, length, nat_eq, Contains}
use Rattle.std.specs.Ordering.{nat_cmp}
use Rattle.pgr_outside.specs.Lists.{IsStrictlyRising}
use Rattle.pgr_walks.specs.declared.link.LinkOf.{LinkOf}
use Rattle.pgr_numbers.specs.Names.{AreEnds, AreNumbered}
use Rattle.pgr_flow.specs.declared.greatest.FlowCut.{FlowCut}
use Rattle.pgr_flow.specs.Flow.{IsGreatestFlow, among}
use Rattle.pgr_flow.specs.Cut.{IsLeastSide, marked}
use Rattle.pgr_flow.specs.Network.{Network}
use Rattle.pgr_answer.specs.Gathering.{AreNumbersOf}

-- arcs between ids, the names of their ends, the network between the numbers of these, and the numbers of the starts and of the ends that are names; those of the starts rise
pub record IsFlowNetwork (arcs : List (LinkOf ℤ)) (names : List ℤ) (net : Network) (starts ends : List ℤ) (sources sinks : List ℕ) : Type 0 where
  pub named : AreEnds arcs names
  pub numbered : AreNumbered names arcs net.arcs
  pub size_is : net.size ≡ length names
  pub sources_are : AreNumbersOf names starts sources
  pub sources_rise : IsStrictlyRising nat_cmp sources
  pub sinks_are : AreNumbersOf names ends sinks

-- some number is a source and a sink
abbrev pub IsCommon : List ℕ → List ℕ → Type 0
IsCommon sources sinks = (v : ℕ) × Contains sources v × Contains sinks v

-- a greatest flow of a network with its value, and the least source side of a least cut
pub record IsGreatestFlowCut (net : Network) (sources sinks : List ℕ) (found : FlowCut) : Type 0 where
  pub apart : IsCommon sources sinks → ⊥
  pub flow : IsGreatestFlow nat_eq net.arcs (among nat_eq sources) (among nat_eq sinks) found.flows.items found.value
  pub side : IsLeastSide net.arcs (among nat_eq sources) (among nat_eq sinks) (marked found.side.items)
  pub marks : length found.side.items ≡ net.size
