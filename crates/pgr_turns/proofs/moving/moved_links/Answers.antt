-- The links of one state more; at last sorted, each once.
use Rattle.std.proofs.Common.{ℕ, arith}
use Rattle.std.proofs.lemmas.List.Elements.{All-contains}
use Rattle.std.proofs.lemmas.List.Filters.{dedup_is}
use Rattle.pgr_walks.specs.declared.link.LinkOf.{LinkOf}
use Rattle.pgr_turns.specs.Moving.{IsMoved}
use Rattle.pgr_turns.proofs.LinksOnce.{parts_tie, kept_by, once_by}
use Rattle.pgr_turns.proofs.MovedLinks.{below_more}
use Rattle.pgr_turns.proofs.StateSteps.{all_from}
use Rattle.pgr_turns.proofs.moving.moved_links.Goals as goal

pub loop-x-preserved : goal.loop-x-preserved
loop-x-preserved g c =
    below_more (g.G.Graph.count c.args.graph.now) (g.G.Graph.outs c.args.graph.now) c.args.trie.now.lists.items c.args.trie.now.nodes.items c.args.states.now c.loop-x.x
    c.loop-x.links.items
    c.append_moved.new.links.items c.loop-x.invariant c.in_ok-append_moved.ensures.moved c.in_ok-append_moved.ensures.kept c.in_ok-append_moved.ensures.all

pub returns-clause-once : goal.returns-clause-once
returns-clause-once g c = once_by _ parts_tie _ _ c.sort_unstable.ensures.sorted (dedup_is _ _ _ c.dedup.ensures.filtered)

pub returns-clause-moved : goal.returns-clause-moved
returns-clause-moved g c =
    let P : LinkOf ℕ → Type 0 = IsMoved (g.G.Graph.count c.args.graph.now) (g.G.Graph.outs c.args.graph.now) c.args.trie.now.lists.items c.args.trie.now.nodes.items
    c.args.states.now in
    all_from P c.dedup.new.self.items (λ link there. All-contains P c.loop-x.links.items link c.loop-x.invariant.moved
    ((kept_by _ parts_tie c.loop-x.links.items c.sort_unstable.new.self.items c.dedup.new.self.items c.sort_unstable.ensures.permutation (dedup_is _ _ _ c.dedup.ensures.filtered)
    link).1 there))

pub returns-clause-all : goal.returns-clause-all
returns-clause-all g c = λ x below link out free.
    let found = c.loop-x.invariant.all x (omega arith) link out free in (
      found.0,
      (
        (kept_by _ parts_tie c.loop-x.links.items c.sort_unstable.new.self.items c.dedup.new.self.items c.sort_unstable.ensures.permutation
            (dedup_is _ _ _ c.dedup.ensures.filtered) found.0).0 found.1.0,
        found.1.1,
      ),
    )
