use Rattle.std.proofs.Common.{◌∙◌, lit<}
use Rattle.std.proofs.lemmas.Str.Pattern.{split_once_first}
use Rattle.pgr_words.specs.Words.{is_equals}
use Rattle.pgr_words.proofs.Settings.{parts_round-is, setting_in-behind}
use Rattle.pgr_words.proofs.draft.setting_in.Goals as goal

pub returns : goal.returns
returns c =
    let stripped = c.in_ok-strip_prefix.ensures.cases in
    parts_round-is is_equals c.in_ok-strip_prefix.field-0.now c.split_once.result (split_once_first 61 _ _ c.split_once.ensures.cases (lit< tt))
    ∙ setting_in-behind c.args.word.now c.in_ok-strip_prefix.field-0.now stripped.0 stripped.1.1 stripped.2
