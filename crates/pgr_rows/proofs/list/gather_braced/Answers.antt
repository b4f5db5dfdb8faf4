-- What stands before the first vertex, and the vertices behind it.
use Rattle.pgr_outside.specs.Faults.{OnErr-always}
use Rattle.pgr_rows.specs.ListText.{closed}
use Rattle.pgr_rows.proofs.ListLines.{as_whole, as_whole_front, first_front, second_added, second_front}
use Rattle.pgr_rows.proofs.list.gather_braced.Goals as goal

pub returns-in_err-gather-clause-front : goal.returns-in_err-gather-clause-front
returns-in_err-gather-clause-front g c =
    OnErr-always _ (as_whole_front _ _ c.args.piece.now.bytes _ _ c.opening.ensures
    (first_front _ _ c.args.piece.now.bytes c.opening.result.now (closed c.args.ids.now) c.in_err-gather.ensures.front))

pub returns-in_err-gather_closed-clause-front : goal.returns-in_err-gather_closed-clause-front
returns-in_err-gather_closed-clause-front g c =
    OnErr-always _ (as_whole_front _ _ c.args.piece.now.bytes _ _ c.opening.ensures
    (second_front _ _ _ c.args.piece.now.bytes c.opening.result.now (closed c.args.ids.now) _ c.in_ok-gather.ensures.all c.in_err-gather_closed.ensures.front))

pub returns-clause-all : goal.returns-clause-all
returns-clause-all g c =
    as_whole _ _ c.args.piece.now.bytes _ _ _ c.opening.ensures
    (second_added _ _ _ c.args.piece.now.bytes c.opening.result.now (closed c.args.ids.now) _ _ c.in_ok-gather.ensures.all c.in_ok-gather_closed.ensures.all)
