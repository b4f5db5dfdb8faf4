-- What is kept is put behind what was found, or there is no walk.
use Rattle.std.proofs.Common.{◌≡◌, rules, true}
use Rattle.std.specs.Result.{is_ok}
use Rattle.pgr_answer.proofs.FoundLemmas.{extends_some, extends_none}
use Rattle.pgr_answer.proofs.found.find_pair.Goals as goal

pub returns-in_ok-push : goal.returns-in_ok-push
returns-in_ok-push g c =
    let pushed : is_ok c.push.result ≡ true = search rules in
    extends_some _ _ _ c.args.start c.args.end c.in-Some.kept _ _ (rw c.in-Some.is at c.in_ok-kept.ensures.shows) (rw pushed at c.push.ensures.items)

pub returns-in_default : goal.returns-in_default
returns-in_default g c = extends_none _ _ _ (record { end = c.args.end; start = c.args.start }) _ (rw c.in_default.is at c.in_ok-kept.ensures.none)
