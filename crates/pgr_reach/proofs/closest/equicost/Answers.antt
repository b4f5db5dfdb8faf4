use Rattle.std.proofs.Common.{◌≡◌, ◌++◌, rules, sym, subst, take, drop, length, arith}
use Rattle.std.proofs.lemmas.Grind.{common_steps}
use Rattle.pgr_reach.specs.Equicost.{AreClosest, listed}
use Rattle.std.specs.Prelude.{List, map}
use Rattle.std.specs.Ordering.{nat_cmp}
use Rattle.pgr_reach.specs.declared.reach.Reach.{Reach}
use Rattle.pgr_reach.proofs.ClosestLemmas.{all_kept}
use Rattle.pgr_reach.proofs.closest.equicost.Goals as goal

pub returns-clause-kept : goal.returns-clause-kept
returns-clause-kept c =
    let old = c.args.reaches.now.items in
    let now = c.loop-reach.reach-items in
    let whole : take c.args.reaches.now.len (now ++ drop (length now) old) ≡ now = search (rules, arith, common_steps) in
    let P : List Reach → Type 0 = λ reaches. AreClosest nat_cmp (map listed old) (map listed reaches) in
    subst P (sym whole) (all_kept c.in_ok-closest.closest old now c.loop-reach.reach-index (search rules) (search rules) (search rules))
