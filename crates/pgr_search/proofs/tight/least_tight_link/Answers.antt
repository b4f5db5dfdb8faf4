use Rattle.std.proofs.Common.{None, sym, ap, arith}
use Rattle.pgr_search.proofs.SeekingLemmas.{admits_seeking, found_from, found_least, found_none, no_label_not_tight}
use Rattle.pgr_search.proofs.tight.least_tight_link.Goals as goal

pub returns-in_err-here-clause-none : goal.returns-in_err-here-clause-none
returns-in_err-here-clause-none g c =
    let law = (g.met.G.Graph.lawful c.args.g.now).at c.args.v c.requires.vertex in
    rw c.from_residual.ensures (no_label_not_tight c.args.room.now _ c.args.v (λ link h. (law.out_ends link h).0) (sym c.in_err-here.ensures))

pub each_out-requires-clause-ready : goal.each_out-requires-clause-ready
each_out-requires-clause-ready g c =
    let law = (g.met.G.Graph.lawful c.args.g.now).at c.args.v c.requires.vertex in
    admits_seeking c.in_ok-here.here c.args.room.now None _ (λ link h. let e = (law.out_ends link h).1 in omega (arith, c.requires.room, e))

pub returns-clause-from : goal.returns-clause-from
returns-clause-from g c =
    let law = (g.met.G.Graph.lawful c.args.g.now).at c.args.v c.requires.vertex in
    found_from c.in_ok-here.here c.args.room.now _ c.args.v law.outs_rise (λ link h. (law.out_ends link h).0) (sym c.in_ok-here.ensures) _ (ap (λ s. s.found) c.each_out.ensures)

pub returns-clause-least : goal.returns-clause-least
returns-clause-least g c =
    let law = (g.met.G.Graph.lawful c.args.g.now).at c.args.v c.requires.vertex in
    found_least c.in_ok-here.here c.args.room.now _ c.args.v law.outs_rise (λ link h. (law.out_ends link h).0) (sym c.in_ok-here.ensures) _ (ap (λ s. s.found) c.each_out.ensures)

pub returns-clause-none : goal.returns-clause-none
returns-clause-none g c =
    let law = (g.met.G.Graph.lawful c.args.g.now).at c.args.v c.requires.vertex in
    found_none c.in_ok-here.here c.args.room.now _ c.args.v law.outs_rise (λ link h. (law.out_ends link h).0) (sym c.in_ok-here.ensures) _ (ap (λ s. s.found) c.each_out.ensures)
