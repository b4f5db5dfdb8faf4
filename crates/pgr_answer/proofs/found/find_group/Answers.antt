-- Each pair of the group has more found for it.
use Rattle.std.proofs.Common.{◌∙◌, length, arith, subst}
use Rattle.std.specs.Prelude.{Contains}
use Rattle.std.proofs.lemmas.List.{take_all}
use Rattle.pgr_answer.specs.Finding.{Extends}
use Rattle.pgr_search.specs.FinalLabels.{wanted_known}
use Rattle.pgr_answer.proofs.FoundLemmas.{extends_more, one_end_pair, starts_among, start_among}
use Rattle.pgr_answer.specs.Networks.{id_links}
use Rattle.pgr_answer.proofs.found.find_group.Goals as goal

pub labels_until-requires-clause-bound : goal.labels_until-requires-clause-bound
labels_until-requires-clause-bound g c =
    rw (c.as_slice.ensures.value, c.in_ok-starts.ensures, c.args.network.now.size_is) (starts_among (length c.args.network.now.names) c.args.group.now c.requires.among)

pub find_pair-requires-clause-room : goal.find_pair-requires-clause-room
find_pair-requires-clause-room g c =
    let starts = c.as_slice.ensures.value ∙ c.in_ok-starts.ensures in
    wanted_known _ _ _ _ _ c.labels_until.ensures.labels (rw starts at c.labels_until.ensures.bound) _ (start_among c.args.group.now c.loop-pair.pair-index _ (omega arith))

pub loop-pair-preserved : goal.loop-pair-preserved
loop-pair-preserved g c =
    extends_more _ _ _ c.args.group.now c.loop-pair.pair-index _ _ _ _ _ (omega arith)
    (one_end_pair c.args.group.now c.requires.one_end c.loop-pair.pair-index _ (omega arith)) c.loop-pair.invariant c.in_ok-find_pair.ensures

pub returns-clause-found : goal.returns-clause-found
returns-clause-found g c =
    subst (λ pairs. Extends (Contains (id_links c.args.network.now))
    (g.K.Kept.shows (id_links c.args.network.now) c.args.network.now.names) c.args.network.now.names pairs c.args.found.now.items c.loop-pair.found.items)
    (take_all c.loop-pair.pair-index c.args.group.now (omega (arith, c.loop-pair-test.false))) c.loop-pair.invariant
