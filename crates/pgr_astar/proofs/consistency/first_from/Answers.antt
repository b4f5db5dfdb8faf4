use Rattle.std.proofs.Common.{None, ap, arith}
use Rattle.pgr_astar.proofs.Checks.{admits_checks, found_first, found_none}
use Rattle.pgr_astar.proofs.consistency.first_from.Goals as goal

pub each_out-requires-clause-ready : goal.each_out-requires-clause-ready
each_out-requires-clause-ready g c =
    let law = (g.met.G.Graph.lawful c.args.g.now).at c.args.v c.requires.vertex in
    admits_checks c.args.p.now None _
    (λ link has. (let ends = law.out_ends link has in (omega (arith, ends.0, c.requires.vertex, c.requires.size), omega (arith, ends.1, c.requires.size))))

pub returns-clause-first : goal.returns-clause-first
returns-clause-first g c =
    let law = (g.met.G.Graph.lawful c.args.g.now).at c.args.v c.requires.vertex in
    found_first c.args.p.now c.args.v _ law.outs_rise (λ link has. (law.out_ends link has).0) _ (ap (λ s. s.found) c.each_out.ensures)

pub returns-clause-none : goal.returns-clause-none
returns-clause-none g c =
    let law = (g.met.G.Graph.lawful c.args.g.now).at c.args.v c.requires.vertex in
    found_none c.args.p.now c.args.v _ law.outs_rise (λ link has. (law.out_ends link has).0) _ (ap (λ s. s.found) c.each_out.ensures)
