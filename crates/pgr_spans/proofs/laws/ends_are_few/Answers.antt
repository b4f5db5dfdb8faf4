-- Each end stands among all one ends and all others.
use Rattle.std.proofs.Common.{arith}
use Rattle.pgr_spans.proofs.EndCounts.{ends_few}
use Rattle.pgr_spans.proofs.laws.ends_are_few.Goals as goal

pub returns : goal.returns
returns c = record {
  twice = λ ends are. ends_few c.args.spans.now ends are;
  few = λ short ends are. let twice = ends_few c.args.spans.now ends are in omega arith;
}
