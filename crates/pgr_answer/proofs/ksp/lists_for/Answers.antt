use Rattle.std.proofs.Common.{◌≡◌, ℕ, List, true, get_or, ◌∙◌, rules}
use Rattle.std.specs.Result.{is_ok}
use Rattle.std.specs.Ordering.{nat_cmp}
use Rattle.std.proofs.lemmas.List.{take_all, get_or_default}
use Rattle.std.proofs.lemmas.List.Elements.{All-push}
use Rattle.std.proofs.lemmas.List.Sorted.{answers_always}
use Rattle.pgr_walks.specs.declared.link.LinkOf.{LinkOf}
use Rattle.pgr_walks.specs.LinksOf.{LinksOf}
use Rattle.pgr_ksp.specs.Routes.{AreFirstK}
use Rattle.pgr_answer.specs.declared.pair.Pair.{Pair}
use Rattle.pgr_answer.specs.declared.found.Found.{Found}
use Rattle.pgr_answer.proofs.FoundLemmas.{found_rises}
use Rattle.pgr_answer.proofs.KspFound.{pair_more, routes_moved, routes_rise}
use Rattle.pgr_answer.proofs.ksp.lists_for.Goals as goal

pub loop-pair-preserved : goal.loop-pair-preserved
loop-pair-preserved g c =
    let pushed : is_ok c.push.result ≡ true = search rules in
    let new = rw pushed at c.push.ensures.items in
    let d : Pair = record { end = 0; start = 0 } in
    let pair : Pair = get_or c.args.pairs.now c.loop-pair.pair-index d in
    let P : Found (List (List (LinkOf ℕ))) → Type 0 = λ f. AreFirstK nat_cmp (LinksOf g.G.Graph c.args.network.now.graph) f.start f.end c.args.k f.kept in
    let item : Found (List (List (LinkOf ℕ))) = record { start = pair.start; end = pair.end; kept = c.in_ok-kept.kept } in
    record {
      pairs = pair_more c.args.pairs.now c.loop-pair.pair-index pair _ c.loop-pair.found.items _ c.loop-pair-test.true
          (get_or_default c.args.pairs.now c.loop-pair.pair-index d pair c.loop-pair-test.true) c.loop-pair.invariant.pairs new;
      first = rw new (All-push P c.loop-pair.found.items item c.loop-pair.invariant.first c.in_ok-kept.ensures);
    }

pub returns-clause-found : goal.returns-clause-found
returns-clause-found g c =
    let pairs = c.loop-pair.invariant.pairs ∙ take_all c.loop-pair.pair-index c.args.pairs.now (search rules) in
    routes_moved (LinksOf g.G.Graph c.args.network.now.graph) c.args.k c.args.pairs.now c.loop-pair.found.items _ c.sort_unstable_by_key.ensures.permutation pairs
    c.loop-pair.invariant.first

pub returns-clause-rise : goal.returns-clause-rise
returns-clause-rise g c =
    let pairs = c.loop-pair.invariant.pairs ∙ take_all c.loop-pair.pair-index c.args.pairs.now (search rules) in
    found_rises _ _ (routes_rise c.args.pairs.now c.loop-pair.found.items pairs c.requires.rise) c.sort_unstable_by_key.ensures.permutation
    (c.sort_unstable_by_key.ensures.sorted (λ f. (f.start, f.end)) (answers_always _ _ _ (λ f a r g h. search rules)))
