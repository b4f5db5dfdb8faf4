use Rattle.std.proofs.Common.{count_by}
use Rattle.std.specs.Option.{is_none}
use Rattle.pgr_search.proofs.GuidedSearch.{IsGuidingTo}
use Rattle.pgr_search.proofs.guided.guide.Given as goal

abbrev pub invariant-loop-keys : goal.invariant-loop-keys
invariant-loop-keys g l = IsGuidingTo (g.G.Graph.count l.g) (g.G.Graph.ins l.g) l.targets l.start (g.E.Estimate.values l.estimate) l.settled l.keys

abbrev pub decreases-loop-keys : goal.decreases-loop-keys
decreases-loop-keys g l = count_by is_none l.settled
