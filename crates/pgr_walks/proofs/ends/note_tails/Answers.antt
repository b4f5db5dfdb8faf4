use Rattle.std.proofs.Common.{◌≤◌, ◌^◌, ◌-◌, rules, arith}
use Rattle.pgr_walks.proofs.Noting.{admits_all, tails_at_last}
use Rattle.pgr_walks.proofs.ends.note_tails.Goals as goal

pub each_in-requires-clause-ready : goal.each_in-requires-clause-ready
each_in-requires-clause-ready g c = admits_all _ _

pub returns : goal.returns
returns g c = let small : c.args.at ≤ 2 ^ 64 - 1 = omega (arith, c.ranges.at) in search (rules, tails_at_last)
