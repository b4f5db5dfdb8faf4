use Rattle.std.proofs.Common.{subst}
use Rattle.pgr_contract.specs.declared.running.Task.{Task}
use Rattle.pgr_contract.specs.Run.{IsRun, times_over}
use Rattle.pgr_contract.specs.Running.{now_of}
use Rattle.pgr_contract.proofs.Ending.{contraction_by}
use Rattle.pgr_contract.proofs.contraction.contract.Goals as goal

pub returns : goal.returns
returns c =
    let task : Task = record { links = c.args.links; directed = c.args.directed; forbidden = c.args.forbidden; barred = c.in_ok-barred.barred } in
    let methods = times_over c.args.cycles c.args.order.now in
    let end = now_of task c.run.new.self in
    let run = subst (λ S. IsRun c.args.directed c.args.forbidden.now methods S end) c.in_ok-shrinking.ensures.first c.in_ok-run.ensures.run in
    let shown = rw c.as_slice.ensures.value at c.in_ok-left.ensures in
    let all = contraction_by c.args.directed c.args.forbidden.now methods c.args.links.now c.requires.given c.requires.opposites c.requires.light end run
    c.in_ok-left.left.vertices.items c.in_ok-left.left.shortcuts.items c.in_ok-left.left.links.items shown in
    record { run = all.run; distances = all.distances; printed = all.printed; held = all.held; fits = all.fits }
