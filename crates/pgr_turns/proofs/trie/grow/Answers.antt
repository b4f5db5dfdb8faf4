-- The node is a child that is there, or a new one.
use Rattle.std.proofs.Common.{◌≡◌, ◌∙◌, ◌∷◌, pos, sym, ap, arith, to_z, of_z, w64, Some}
use Rattle.std.specs.BTreeMap.{get}
use Rattle.std.proofs.lemmas.Int.{ints}
use Rattle.pgr_turns.specs.Trie.{key_cmp, list_at, front_of}
use Rattle.pgr_turns.proofs.TrieSteps.{front_more}
use Rattle.pgr_turns.proofs.trie.grow.Goals as goal

pub returns-in-Some-clause-below : goal.returns-in-Some-clause-below
returns-in-Some-clause-below c = (c.requires.trie.children _ _ _ (sym c.child.ensures ∙ c.in-Some.is)).1

pub returns-in-Some-clause-word : goal.returns-in-Some-clause-word
returns-in-Some-clause-word c =
    let e : to_z w64 (of_z w64 c.id_at-edge.result) ≡ c.id_at-edge.result = omega (arith, ints) in
    let is : get key_cmp c.args.children.now (c.args.at, c.id_at-edge.result) ≡ Some c.in-Some.next = cc (c.child.ensures, c.in-Some.is, e) in
    let there = c.requires.trie.children c.args.at c.in-Some.next c.id_at-edge.result is in
    there.2 ∙ ap (λ w. c.id_at-edge.result ∷ w) c.requires.word ∙ ap (λ f. f ∷ front_of c.args.lists.now c.args.list c.args.len) c.id_at-edge.ensures
    ∙ sym (front_more (list_at c.args.lists.now c.args.list) c.args.len (pos 0) c.requires.len)

pub add-requires-clause-edge : goal.add-requires-clause-edge
add-requires-clause-edge c =
    let e : to_z w64 (of_z w64 c.id_at-edge.result) ≡ c.id_at-edge.result = omega (arith, ints) in
    cc (c.id_at-edge.ensures, e)

pub add-requires-clause-none : goal.add-requires-clause-none
add-requires-clause-none c =
    let e : to_z w64 (of_z w64 c.id_at-edge.result) ≡ c.id_at-edge.result = omega (arith, ints) in
    cc (c.child.ensures, c.in-None.is, e)
