use Rattle.std.proofs.Common.{arith}
use Rattle.pgr_contract.proofs.ShownLists.{left_more}
use Rattle.pgr_contract.proofs.shown.push_links.Goals as goal

pub loop-link-preserved : goal.loop-link-preserved
loop-link-preserved c =
    left_more c.args.rests.now c.args.links.now c.loop-link.link-index _ c.args.left.now.items c.loop-link.left.items c.push_link.new.left.items (omega arith)
    c.loop-link.invariant c.in_ok-push_link.ensures
