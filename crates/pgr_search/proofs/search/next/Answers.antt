use Rattle.pgr_search.proofs.Running.{beyond_limit}
use Rattle.pgr_search.proofs.search.next.Goals as goal

pub returns-else-nearest-limit-clause-over : goal.returns-else-nearest-limit-clause-over
returns-else-nearest-limit-clause-over c =
    rw c.in-Limit.is (beyond_limit c.in-Limit.limit c.args.waiting.now c.in_ok-nearest.nearest c.in_ok-nearest.ensures.least c.if-nearest-limit.false)
