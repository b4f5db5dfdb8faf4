use Rattle.std.proofs.Common.{◌+◌, map, string_bytes, refl, arith}
use Rattle.std.proofs.lemmas.List.{length-map}
use Rattle.std.proofs.lemmas.Result.{err_from_is_err_and}
use Rattle.pgr_words.specs.Commands.{command_behind}
use Rattle.pgr_words.specs.Drafts.{Faults}
use Rattle.pgr_words.proofs.WellFormedCommands.{well_formed_behind}
use Rattle.pgr_words.proofs.WordByWord.{at_start, one_more, at_fault, at_end, refused_is, text_at}
use Rattle.pgr_words.proofs.words.read_options.Goals as goal

pub returns-in_err-take-clause-verdict : goal.returns-in_err-take-clause-verdict
returns-in_err-take-clause-verdict c =
    let words = map string_bytes c.args.words.now in
    let place = c.loop-index.index in
    let at = text_at c.args.words.now place c.index-words-index.result c.as_str.result.now c.loop-index-test.true c.index-words-index.is c.as_str.ensures.value in
    let p = err_from_is_err_and c.from_residual.result c.from_residual.ensures.1 in
    rw (p.1, p.2)
    (refused_is (command_behind c.args.function c.args.options.now words) (Faults c.args.options.now (place + 2) c.as_str.result.now c.loop-index.draft) c.in_err-take.field-0.0
    (λ fault faults. at_fault c.args.function c.args.options.now words place (place + 2) c.as_str.result.now c.loop-index.draft fault c.loop-index.invariant at.0 at.1 refl faults)
    c.in_err-take.ensures.fault)

pub loop-index-init : goal.loop-index-init
loop-index-init c = at_start c.args.function c.args.options.now (map string_bytes c.args.words.now) c.new-draft.result (c.new-draft.ensures c.args.options.now)

pub loop-index-preserved : goal.loop-index-preserved
loop-index-preserved c =
    let words = map string_bytes c.args.words.now in
    let place = c.loop-index.index in
    let at = text_at c.args.words.now place c.index-words-index.result c.as_str.result.now c.loop-index-test.true c.index-words-index.is c.as_str.ensures.value in
    one_more c.args.function c.args.options.now words place (place + 2) c.as_str.result.now c.loop-index.draft c.take.new.self c.loop-index.invariant at.0 at.1 refl
    c.in_ok-take.ensures.ok

pub returns-clause-verdict : goal.returns-clause-verdict
returns-clause-verdict c =
    let words = map string_bytes c.args.words.now in
    let whole = length-map c.args.words.now string_bytes in
    rw (at_end c.args.function c.args.options.now words c.loop-index.index c.loop-index.draft c.loop-index.invariant (omega (arith, whole))) c.finish.ensures

pub returns-clause-well_formed : goal.returns-clause-well_formed
returns-clause-well_formed c = λ name named.
    let words = map string_bytes c.args.words.now in
    let whole = length-map c.args.words.now string_bytes in
    well_formed_behind name c.args.function c.args.options.now words c.finish.result named
    (rw (at_end c.args.function c.args.options.now words c.loop-index.index c.loop-index.draft c.loop-index.invariant (omega (arith, whole))) c.finish.ensures)
