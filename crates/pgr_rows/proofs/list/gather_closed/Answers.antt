-- Each vertex comes behind what is gathered, before the vertices to come.
use Rattle.std.proofs.Common.{rules, refl, ◌-◌, take, drop, length}
use Rattle.pgr_outside.specs.Faults.{OnErr-always}
use Rattle.pgr_outside.specs.Sink.{HasGained-step, HasGained-stop}
use Rattle.pgr_rows.specs.ListText.{closed}
use Rattle.pgr_rows.proofs.ListLines.{next_vertex}
use Rattle.pgr_rows.proofs.list.gather_closed.Goals as goal

pub loop-rest-preserved : goal.loop-rest-preserved
loop-rest-preserved g c =
    let rest = c.loop-rest.rest.now in
    let behind = take (length rest - 1) (drop 1 rest) in
    record {
      gained = HasGained-step _ _ _ _ _ c.loop-rest.piece.bytes _ (closed behind) _ c.loop-rest.invariant.gained
          (next_vertex c.loop-rest.piece.bytes c.end.result.now rest behind _ (search rules) refl c.end.ensures)
          c.in_ok-gather_vertex.ensures.all;
      count = search rules;
    }

pub returns-in_err-gather_vertex-clause-front : goal.returns-in_err-gather_vertex-clause-front
returns-in_err-gather_vertex-clause-front g c =
    let rest = c.loop-rest.rest.now in
    let behind = take (length rest - 1) (drop 1 rest) in
    OnErr-always _ (HasGained-stop _ _ _ _ _ c.loop-rest.piece.bytes _ (closed behind) c.loop-rest.invariant.gained
    (next_vertex c.loop-rest.piece.bytes c.end.result.now rest behind _ (search rules) refl c.end.ensures)
    c.in_err-gather_vertex.ensures.front)
