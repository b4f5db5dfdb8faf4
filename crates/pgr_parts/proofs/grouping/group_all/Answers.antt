use Rattle.std.proofs.Common.{rules, arith}
use Rattle.std.proofs.lemmas.Result.{IfOk-weaker}
use Rattle.pgr_parts.proofs.Turning.{AreAllNamed-from_found, class_names}
use Rattle.pgr_parts.proofs.grouping.group_all.Goals as goal

pub all_names-requires : goal.all_names-requires
all_names-requires c = AreAllNamed-from_found _ _ _ _ c.loop-root.invariant.searching c.loop-root.invariant.idle c.loop-root.invariant.found (omega arith) (search rules)

pub returns : goal.returns
returns c =
    IfOk-weaker c.all_names.result _ _ (λ names e. class_names _ _ _ _ names.items c.loop-root.invariant.searching c.loop-root.invariant.idle c.loop-root.invariant.found
    (omega arith) (search rules) e) c.all_names.ensures
