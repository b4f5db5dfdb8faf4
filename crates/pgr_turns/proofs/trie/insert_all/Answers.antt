-- One restriction more.
use Rattle.std.proofs.Common.{◌<◌, ◌+◌, ℕ, List, [], length, subst, sym, arith}
use Rattle.std.proofs.lemmas.List.Sums.{sum_by_more}
use Rattle.pgr_turns.specs.Trie.{AreLasts}
use Rattle.pgr_turns.proofs.TrieSteps.{all_fronts_more, lasts_kept, lasts_more}
use Rattle.pgr_turns.proofs.trie.insert_all.Goals as goal

pub loop-list-preserved : goal.loop-list-preserved
loop-list-preserved c =
    let lists = c.args.lists.now in
    let inside : c.loop-list.list < length lists = omega arith in
    let inv = c.loop-list.invariant in
    let new = c.insert.new.nodes.items in
    record {
      trie = c.in_ok-last.ensures.trie;
      few = omega (arith, c.in_ok-last.ensures.size, inv.few, sum_by_more length lists c.loop-list.list [] inside);
      fronts = all_fronts_more lists c.loop-list.nodes.items new c.loop-list.list inv.fronts c.in_ok-last.ensures.kept c.in_ok-last.ensures.fronts;
      lasts_are = subst (λ (ls : List ℕ). AreLasts lists new (c.loop-list.list + 1) ls) (sym c.in_ok-push.ensures)
          (lasts_more lists new c.loop-list.list c.loop-list.lasts.items c.in_ok-last.last (lasts_kept lists c.loop-list.nodes.items new c.loop-list.list c.loop-list.lasts.items
          c.in_ok-last.ensures.kept inv.lasts_are) c.in_ok-last.ensures.below c.in_ok-last.ensures.word);
    }
