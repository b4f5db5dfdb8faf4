use Rattle.std.proofs.Common.{rules, sym, ◌∙◌, length}
use Rattle.std.proofs.lemmas.List.{length_push}
use Rattle.std.proofs.lemmas.Iterator.Consumers.{YieldsList-turn, YieldsList-end}
use Rattle.std.proofs.lemmas.Iterator.Splits.{YieldsList-from_slice_split}
use Rattle.pgr_numerals.specs.NumeralList.{is_comma}
use Rattle.pgr_words.proofs.MethodLists.{none_read, more_read, part_refused, too_many, all_read}
use Rattle.pgr_words.proofs.value.read_methods.Goals as goal

pub loop-part-init : goal.loop-part-init
loop-part-init c = rw c.new-methods.ensures.items (none_read c.args.bytes.now)

pub returns-then-len-eq-MOST_METHODS : goal.returns-then-len-eq-MOST_METHODS
returns-then-len-eq-MOST_METHODS c =
    let turn = YieldsList-turn (YieldsList-from_slice_split _ is_comma c.args.bytes.now (search rules) (search rules) (search rules) (λ x b q k. search rules))
    c.loop-part.yielded _ c.loop-part.yielded_by _ _ c.in-Some.part c.in-Some.is c.next.ensures.steps in
    sym (too_many (length c.loop-part.yielded) c.args.bytes.now turn.0 (search rules))

pub returns-in_default : goal.returns-in_default
returns-in_default c =
    let turn = YieldsList-turn (YieldsList-from_slice_split _ is_comma c.args.bytes.now (search rules) (search rules) (search rules) (λ x b q k. search rules))
    c.loop-part.yielded _ c.loop-part.yielded_by _ _ c.in-Some.part c.in-Some.is c.next.ensures.steps in
    sym (part_refused (length c.loop-part.yielded) c.args.bytes.now c.in-Some.part.now turn (sym c.method_of.ensures ∙ c.in_default.is))

pub loop-part-preserved : goal.loop-part-preserved
loop-part-preserved c =
    let turn = YieldsList-turn (YieldsList-from_slice_split _ is_comma c.args.bytes.now (search rules) (search rules) (search rules) (λ x b q k. search rules))
    c.loop-part.yielded _ c.loop-part.yielded_by _ _ c.in-Some.part c.in-Some.is c.next.ensures.steps in
    rw length_push (more_read (length c.loop-part.yielded) c.args.bytes.now c.loop-part.methods.items c.push.new.self.items c.in-Some.part.now
    c.in-Some-method_of.method c.loop-part.invariant (search rules) turn (sym c.method_of.ensures ∙ c.in-Some-method_of.is)
    (search rules))

pub returns : goal.returns
returns c =
    let end = YieldsList-end (YieldsList-from_slice_split _ is_comma c.args.bytes.now (search rules) (search rules) (search rules) (λ x b q k. search rules))
    c.loop-part.yielded _ c.loop-part.yielded_by _ _ c.in-None.is c.next.ensures.steps in
    sym (all_read (length c.loop-part.yielded) c.args.bytes.now c.loop-part.methods.items c.loop-part.invariant end.1)
