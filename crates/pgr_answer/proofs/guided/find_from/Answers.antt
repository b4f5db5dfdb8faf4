-- Each pair of the start has more found for it.
use Rattle.std.proofs.Common.{◌∙◌, length, refl, arith, subst}
use Rattle.std.specs.Prelude.{Contains}
use Rattle.std.proofs.lemmas.List.{take_all}
use Rattle.pgr_answer.specs.Networks.{id_links, IsRouteBetween}
use Rattle.pgr_answer.specs.Answers.{walks_over}
use Rattle.pgr_answer.specs.Finding.{start_cmp, ExtendsInOrder}
use Rattle.pgr_answer.proofs.FoundLemmas.{extends_nothing_by, extends_more_by, one_start_pair, start_below, start_differs}
use Rattle.pgr_answer.proofs.guided.find_from.Goals as goal

pub loop-pair-init : goal.loop-pair-init
loop-pair-init g c = record { found = extends_nothing_by start_cmp _ _ _ _; room = refl }

pub find_guided-requires-clause-start : goal.find_guided-requires-clause-start
find_guided-requires-clause-start g c =
    start_below c.args.group.now c.args.start (length c.args.network.now.names) c.loop-pair.pair-index c.requires.among c.requires.one_start (omega arith)

pub find_guided-requires-clause-differ : goal.find_guided-requires-clause-differ
find_guided-requires-clause-differ g c =
    start_differs c.args.group.now c.args.start (length c.args.network.now.names) c.loop-pair.pair-index _ c.requires.among c.requires.one_start (omega arith)

pub loop-pair-preserved : goal.loop-pair-preserved
loop-pair-preserved g c = record {
  found = extends_more_by start_cmp _ _ _ c.args.group.now c.loop-pair.pair-index _ _ _ _ _ (omega arith)
      (one_start_pair c.args.group.now c.args.start c.requires.one_start c.loop-pair.pair-index _ (omega arith)) c.loop-pair.invariant.found c.in_ok-find_guided.ensures.found;
  room = c.in_ok-find_guided.ensures.room ∙ c.loop-pair.invariant.room;
}

pub returns-clause-found : goal.returns-clause-found
returns-clause-found g c =
    subst (λ pairs. ExtendsInOrder start_cmp (walks_over (Contains (id_links c.args.network.now)))
    (IsRouteBetween (id_links c.args.network.now) c.args.network.now.names) c.args.network.now.names pairs c.args.found.now.items c.loop-pair.found.items)
    (take_all c.loop-pair.pair-index c.args.group.now (omega (arith, c.loop-pair-test.false))) c.loop-pair.invariant.found
