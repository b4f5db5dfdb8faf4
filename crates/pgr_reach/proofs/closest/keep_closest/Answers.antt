use Rattle.std.proofs.Common.{rules, ap, nat_cmp}
use Rattle.std.specs.BTreeMap.{get}
use Rattle.std.proofs.lemmas.Fn.{filter_same}
use Rattle.pgr_reach.specs.Closest.{is_found}
use Rattle.pgr_reach.proofs.closest.keep_closest.Goals as goal

pub returns : goal.returns
returns c =
    let root = c.args.reach.now.root in
    ap (λ rows. (root, rows))
    (filter_same _ (λ row. is_found (get nat_cmp c.args.closest.now row.node) row.label.cost root) _ (λ row b f t. search rules) _ _ c.retain.ensures.filtered)
