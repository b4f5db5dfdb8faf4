-- Each pair of the group has more found for it.
use Rattle.std.proofs.Common.{◌∙◌, length, arith, subst}
use Rattle.std.proofs.lemmas.List.{take_all}
use Rattle.pgr_turns.specs.Seen.{restrictions_of}
use Rattle.pgr_answer.specs.AllowedRoutes.{IsAllowedRoute, allowed_over}
use Rattle.pgr_answer.specs.Finding.{ExtendsBy}
use Rattle.pgr_answer.proofs.FoundLemmas.{extends_more, one_end_pair, starts_among, start_among}
use Rattle.pgr_answer.specs.Networks.{id_links}
use Rattle.pgr_answer.proofs.trsp.allow_group.Goals as goal

pub search_allowed-requires-clause-starts : goal.search_allowed-requires-clause-starts
search_allowed-requires-clause-starts g c =
    rw (c.as_slice.ensures.value, c.in_ok-starts.ensures, c.requires.graph, c.args.network.now.size_is)
    (starts_among (length c.args.network.now.names) c.args.group.now c.requires.among)

pub allow_pair-requires-clause-room : goal.allow_pair-requires-clause-room
allow_pair-requires-clause-room g c =
    let starts = c.as_slice.ensures.value ∙ c.in_ok-starts.ensures in
    c.in_ok-search_allowed.ensures.holds _ (rw starts (start_among c.args.group.now c.loop-pair.pair-index _ (omega arith)))

pub loop-pair-preserved : goal.loop-pair-preserved
loop-pair-preserved g c =
    extends_more _ _ _ c.args.group.now c.loop-pair.pair-index _ _ _ _ _ (omega arith)
    (one_end_pair c.args.group.now c.requires.one_end c.loop-pair.pair-index _ (omega arith)) c.loop-pair.invariant c.in_ok-allow_pair.ensures

pub returns-clause-found : goal.returns-clause-found
returns-clause-found g c =
    subst (λ pairs. ExtendsBy (allowed_over (id_links c.args.network.now) (restrictions_of c.args.turned.now))
    (IsAllowedRoute (id_links c.args.network.now) (restrictions_of c.args.turned.now) c.args.network.now.names) c.args.network.now.names pairs c.args.found.now.items
    c.loop-pair.found.items)
    (take_all c.loop-pair.pair-index c.args.group.now (omega (arith, c.loop-pair-test.false))) c.loop-pair.invariant
