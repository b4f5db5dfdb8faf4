-- What was gathered and then the text: both are one run of bytes.
use Rattle.std.proofs.Common.{◌++◌, ◌∙◌, ap}
use Rattle.pgr_outside.specs.Faults.{OnErr-always}
use Rattle.pgr_outside.specs.Sink.{with_added, with_added-twice, AddsPrefix-first, AddsPrefix-second, HasGained-all}
use Rattle.pgr_outside.proofs.gathering.make_room.Goals as goal

pub returns-in_err-hand_on-clause-front : goal.returns-in_err-hand_on-clause-front
returns-in_err-hand_on-clause-front g c =
    OnErr-always _ (AddsPrefix-first _ _ _ c.args.text.now c.in_err-hand_on.ensures.front)

pub returns-in_err-write_all-clause-front : goal.returns-in_err-write_all-clause-front
returns-in_err-write_all-clause-front g c =
    OnErr-always _ (AddsPrefix-second _ _ _ _ _ c.in_ok-hand_on.ensures.all (rw c.as_bytes.ensures.value at c.in_err-write_all.ensures.front))

pub returns-then-text-clause-all : goal.returns-then-text-clause-all
returns-then-text-clause-all g c =
    let written = g.O.Sink.written c.args.out.now in
    let gathered = c.args.gathered.now.bytes in
    let text = c.args.text.now in
    HasGained-all written _ (gathered ++ text) _
    (c.in_ok-write_all.ensures.all
    ∙ ap (with_added _) c.as_bytes.ensures.value
    ∙ ap (λ between. with_added between text) c.in_ok-hand_on.ensures.all
    ∙ with_added-twice written gathered text)
    c.in_ok-hand_on.ensures.none_left
