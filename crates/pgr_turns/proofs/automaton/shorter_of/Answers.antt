-- The front of one id has no shorter one but the empty one; of another the shorter front is that after the last edge.
use Rattle.std.proofs.Common.{◌≡◌, ◌≢◌, ◌∷◌, arith, subst, to_z, of_z, w64}
use Rattle.std.proofs.lemmas.Int.{ints}
use Rattle.std.specs.BTreeMap.{get}
use Rattle.pgr_turns.specs.Trie.{key_cmp, back_at, word, IsShorter}
use Rattle.pgr_turns.proofs.AutomatonSteps.{shorter_more, shorter_less}
use Rattle.pgr_turns.proofs.automaton.shorter_of.Goals as goal

pub after-requires-clause-backs : goal.after-requires-clause-backs
after-requires-clause-backs c = λ y below at_most.
    let some : c.args.parent ≢ 0 = λ z. absurd (c.if-parent-eq0.false z) in
    let is = (c.requires.backs c.args.parent c.requires.parent (omega arith)).shorter some in
    c.requires.backs y below (omega (
      arith,
      at_most,
      shorter_less c.args.trie.now.lists.items c.args.trie.now.nodes.items (λ a e. get key_cmp c.args.trie.now.children (a, e)) c.requires.trie
          c.args.parent (back_at c.args.backs.now c.args.parent).shorter c.requires.parent is.0 is.1,
    ))

pub returns-clause-shorter : goal.returns-clause-shorter
returns-clause-shorter c =
    let some : c.args.parent ≢ 0 = λ z. absurd (c.if-parent-eq0.false z) in
    let is = (c.requires.backs c.args.parent c.requires.parent (omega arith)).shorter some in
    let e : to_z w64 (of_z w64 c.args.edge) ≡ c.args.edge = omega (arith, ints) in
    subst (λ f. IsShorter c.args.trie.now.lists.items (f ∷ word c.args.trie.now.lists.items c.args.trie.now.nodes.items c.args.parent)
    (word c.args.trie.now.lists.items c.args.trie.now.nodes.items c.after.result)) e
    (shorter_more c.args.trie.now.lists.items _ (word c.args.trie.now.lists.items c.args.trie.now.nodes.items c.args.parent) _ _ is.1 c.after.ensures.longest)
