use Rattle.std.proofs.Common.{take}
use Rattle.pgr_contract.specs.Ways.{AreLow, HoldsWays}
use Rattle.pgr_contract.proofs.ways.ways_of.Given as goal

abbrev pub invariant-loop-link : goal.invariant-loop-link
invariant-loop-link l = record {
  ways : HoldsWays (take l.link-index l.links) l.ways;
  low : AreLow l.ways;
}
