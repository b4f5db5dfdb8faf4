use Rattle.std.proofs.Common.{◌≤◌, ◌^◌, ◌-◌, rules, arith}
use Rattle.pgr_walks.proofs.Noting.{admits_all, heads_at_last}
use Rattle.pgr_walks.proofs.ends.note_heads.Goals as goal

pub each_out-requires-clause-ready : goal.each_out-requires-clause-ready
each_out-requires-clause-ready g c = admits_all _ _

pub returns : goal.returns
returns g c = let small : c.args.at ≤ 2 ^ 64 - 1 = omega (arith, c.ranges.at) in search (rules, heads_at_last)
