use Rattle.std.proofs.Common.{rules, arith}
use Rattle.std.proofs.lemmas.Result.{IfOk-weaker}
use Rattle.pgr_parts.proofs.SpreadLemmas.{all_named, names_of_classes}
use Rattle.pgr_parts.proofs.spreading.spread_all.Goals as goal

pub all_names-requires : goal.all_names-requires
all_names-requires c = all_named _ _ _ _ c.loop-root.invariant.spread (omega arith) (search rules)

pub returns : goal.returns
returns c =
    IfOk-weaker c.all_names.result _ _ (λ all e. names_of_classes _ _ _ _ all.items c.requires.back c.loop-root.invariant.spread (omega arith) (search rules) e) c.all_names.ensures
