use Rattle.std.proofs.Common.{count_by}
use Rattle.std.specs.Option.{is_none}
use Rattle.pgr_search.specs.Turn.{HasReached}
use Rattle.pgr_search.proofs.Running.{IsRunning}
use Rattle.pgr_search.proofs.search.search.Given as goal

abbrev pub invariant-loop-nearest : goal.invariant-loop-nearest
invariant-loop-nearest g l = record {
  running : IsRunning (g.G.Graph.count l.g) (g.G.Graph.ins l.g) l.targets l.bound l.settled l.waiting;
  reached : HasReached l.bound l.settled l.reached;
}

abbrev pub decreases-loop-nearest : goal.decreases-loop-nearest
decreases-loop-nearest g l = count_by is_none l.settled
