use Rattle.std.proofs.Common.{◌≡◌, subst, rules, arith, true}
use Rattle.std.specs.Result.{is_ok}
use Rattle.pgr_answer.specs.Members.{AreByVertex}
use Rattle.pgr_answer.proofs.ClassTables.{by_vertex_more}
use Rattle.pgr_answer.proofs.components.members_by_vertex.Goals as goal

pub loop-node-preserved : goal.loop-node-preserved
loop-node-preserved c =
    let pushed : is_ok c.push.result ≡ true = search rules in
    by_vertex_more c.args.classes.now c.loop-node.node _ _ c.loop-node.invariant (rw pushed at c.push.ensures.items)

pub returns : goal.returns
returns c = subst (λ n. AreByVertex c.args.classes.now n c.loop-node.members.items) (omega arith) c.loop-node.invariant
