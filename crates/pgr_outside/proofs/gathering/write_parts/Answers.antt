-- Each part comes behind what is gathered, before the parts to come.
use Rattle.std.proofs.Common.{rules, ap, ◌++◌, ◌+◌, drop}
use Rattle.pgr_outside.specs.Faults.{OnErr-always}
use Rattle.pgr_outside.specs.Parts.{part_text, parts_text, texts_next, texts_end}
use Rattle.pgr_outside.specs.Sink.{HasGained-step, HasGained-stop, HasGained-prefix, HasGained-end}
use Rattle.pgr_outside.proofs.gathering.write_parts.Goals as goal

pub returns-in_err-gather_part-clause-front : goal.returns-in_err-gather_part-clause-front
returns-in_err-gather_part-clause-front g c =
    let parts = c.args.parts.now in
    let i = c.loop-part.part-index in
    let gathered = c.loop-part.gathered.bytes in
    OnErr-always _ (HasGained-stop _ _ _ _ _ gathered _ (parts_text (drop (i + 1) parts)) c.loop-part.invariant.gained
    (ap (λ left. gathered ++ left) (texts_next part_text parts i _ (search rules))) c.in_err-gather_part.ensures.front)

pub loop-part-preserved : goal.loop-part-preserved
loop-part-preserved g c =
    let parts = c.args.parts.now in
    let i = c.loop-part.part-index in
    let gathered = c.loop-part.gathered.bytes in
    record {
      gained = HasGained-step _ _ _ _ _ gathered _ (parts_text (drop (i + 1) parts)) _ c.loop-part.invariant.gained
          (ap (λ left. gathered ++ left) (texts_next part_text parts i _ (search rules))) c.in_ok-gather_part.ensures.all;
      count = search rules;
    }

pub returns-in_err-hand_on-clause-front : goal.returns-in_err-hand_on-clause-front
returns-in_err-hand_on-clause-front g c =
    let all = texts_end part_text c.args.parts.now c.loop-part.part-index c.loop-part.gathered.bytes (search rules) in
    OnErr-always _ (HasGained-prefix _ _ _ _ _ (rw all at c.loop-part.invariant.gained) c.in_err-hand_on.ensures.front)

pub returns-clause-all : goal.returns-clause-all
returns-clause-all g c =
    let all = texts_end part_text c.args.parts.now c.loop-part.part-index c.loop-part.gathered.bytes (search rules) in
    HasGained-end _ _ _ _ _ (rw all at c.loop-part.invariant.gained) c.in_ok-hand_on.ensures.all
