-- The list in braces, with what stands on both sides of it.
use Rattle.std.proofs.Common.{◌≡◌, ◌++◌, ap}
use Rattle.pgr_outside.specs.Faults.{OnErr-always}
use Rattle.pgr_rows.specs.ListText.{braced, list_text}
use Rattle.pgr_rows.proofs.ListLines.{as_whole, as_whole_front, first_front, second_added, second_front}
use Rattle.pgr_rows.proofs.list.gather_list.Goals as goal

pub returns-in_err-gather-clause-front : goal.returns-in_err-gather-clause-front
returns-in_err-gather-clause-front g c =
    let text = braced c.args.ids.now in
    let quote = c.quote_of-quote.result.now in
    let whole : quote ++ (text ++ quote) ≡ list_text c.args.ids.now = ap (λ q. q ++ (text ++ q)) c.quote_of-quote.ensures in
    OnErr-always _ (as_whole_front _ _ c.args.piece.now.bytes _ _ whole
    (first_front _ _ c.args.piece.now.bytes quote (text ++ quote) c.in_err-gather.ensures.front))

pub returns-in_err-gather_braced-clause-front : goal.returns-in_err-gather_braced-clause-front
returns-in_err-gather_braced-clause-front g c =
    let text = braced c.args.ids.now in
    let quote = c.quote_of-quote.result.now in
    let whole : quote ++ (text ++ quote) ≡ list_text c.args.ids.now = ap (λ q. q ++ (text ++ q)) c.quote_of-quote.ensures in
    OnErr-always _ (as_whole_front _ _ c.args.piece.now.bytes _ _ whole
    (second_front _ _ _ c.args.piece.now.bytes quote (text ++ quote) _ c.in_ok-gather.ensures.all
    (first_front _ _ _ text quote c.in_err-gather_braced.ensures.front)))

pub returns-in_err-gather-2-clause-front : goal.returns-in_err-gather-2-clause-front
returns-in_err-gather-2-clause-front g c =
    let text = braced c.args.ids.now in
    let quote = c.quote_of-quote.result.now in
    let whole : quote ++ (text ++ quote) ≡ list_text c.args.ids.now = ap (λ q. q ++ (text ++ q)) c.quote_of-quote.ensures in
    OnErr-always _ (as_whole_front _ _ c.args.piece.now.bytes _ _ whole
    (second_front _ _ _ c.args.piece.now.bytes quote (text ++ quote) _ c.in_ok-gather.ensures.all
    (second_front _ _ _ _ text quote _ c.in_ok-gather_braced.ensures.all c.in_err-gather-2.ensures.front)))

pub returns-clause-all : goal.returns-clause-all
returns-clause-all g c =
    let text = braced c.args.ids.now in
    let quote = c.quote_of-quote.result.now in
    let whole : quote ++ (text ++ quote) ≡ list_text c.args.ids.now = ap (λ q. q ++ (text ++ q)) c.quote_of-quote.ensures in
    as_whole _ _ c.args.piece.now.bytes _ _ _ whole
    (second_added _ _ _ c.args.piece.now.bytes quote (text ++ quote) _ _ c.in_ok-gather.ensures.all
    (second_added _ _ _ _ text quote _ _ c.in_ok-gather_braced.ensures.all c.in_ok-gather-2.ensures.all))
