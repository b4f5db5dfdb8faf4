use Rattle.std.proofs.Common.{arith}
use Rattle.pgr_search.proofs.Listing.{all_forgotten}
use Rattle.pgr_search.proofs.settled.forget.Goals as goal

pub returns : goal.returns
returns c = all_forgotten c.loop-i.labels c.args.order.now c.loop-i.i c.args.count (omega (arith, c.loop-i-test.false)) c.loop-i.invariant
