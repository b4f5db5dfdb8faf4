use Rattle.std.proofs.Common.{lit<}
use Rattle.std.proofs.lemmas.Str.Pattern.{split_once_first}
use Rattle.pgr_words.specs.Forms.{is_slash}
use Rattle.pgr_words.proofs.Settings.{parts_round-is}
use Rattle.pgr_words.proofs.value.parts_round_slash.Goals as goal

pub returns : goal.returns
returns c = parts_round-is is_slash c.args.value.now c.split_once.result (split_once_first 47 _ _ c.split_once.ensures.cases (lit< tt))
