-- What is kept of a node is that of the shorter one, and its own mark.
use Rattle.std.proofs.Common.{◌≡◌, ◌≢◌, ◌∙◌, ◌∷◌, ◌||◌, ◌<◌, ℕ, ℤ, List, false, length, get_or, arith, ap, subst, sym, to_z, of_z, w64}
use Rattle.std.proofs.lemmas.Int.{ints}
use Rattle.std.specs.BTreeMap.{get}
use Rattle.std.proofs.lemmas.List.{get_or_default}
use Rattle.pgr_turns.specs.declared.trie.Node.{Node}
use Rattle.pgr_turns.specs.Trie.{key_cmp, node_at, back_at, word, IsShorter, IsBack}
use Rattle.pgr_turns.proofs.AutomatonSteps.{more_back, parent_is, shorter_less}
use Rattle.pgr_turns.proofs.automaton.back_of.Goals as goal

pub shorter_of-shorter-requires-clause-backs : goal.shorter_of-shorter-requires-clause-backs
shorter_of-shorter-requires-clause-backs c = λ y below at_most.
    let nodes = c.args.trie.now.nodes.items in
    let some : c.args.x ≢ 0 = λ z. absurd (c.if-x-eq0.false z) in
    let p = parent_is c.args.trie.now.lists.items nodes (λ a e. get key_cmp c.args.trie.now.children (a, e)) c.requires.trie c.args.x c.requires.x some in
    let node_is : c.index-node.result.now ≡ node_at nodes c.args.x = c.index-node.ensures ∙ get_or_default nodes c.args.x _ _ c.requires.x in
    let parents = ap (λ (n : Node). (node_at nodes n.parent).len) node_is in
    c.requires.backs y below (omega (arith, at_most, p.2, parents))

pub shorter_of-shorter-requires-clause-parent : goal.shorter_of-shorter-requires-clause-parent
shorter_of-shorter-requires-clause-parent c =
    let nodes = c.args.trie.now.nodes.items in
    let some : c.args.x ≢ 0 = λ z. absurd (c.if-x-eq0.false z) in
    let p = parent_is c.args.trie.now.lists.items nodes (λ a e. get key_cmp c.args.trie.now.children (a, e)) c.requires.trie c.args.x c.requires.x some in
    let node_is : c.index-node.result.now ≡ node_at nodes c.args.x = c.index-node.ensures ∙ get_or_default nodes c.args.x _ _ c.requires.x in
    subst (λ (n : Node). n.parent < length nodes) (sym node_is) p.0

pub returns-then-marks-x : goal.returns-then-marks-x
returns-then-marks-x c =
    let lists = c.args.trie.now.lists.items in
    let nodes = c.args.trie.now.nodes.items in
    let some : c.args.x ≢ 0 = λ z. absurd (c.if-x-eq0.false z) in
    let child = λ (a : ℕ) (e : ℤ). get key_cmp c.args.trie.now.children (a, e) in
    let p = parent_is lists nodes child c.requires.trie c.args.x c.requires.x some in
    let node_is : c.index-node.result.now ≡ node_at nodes c.args.x = c.index-node.ensures ∙ get_or_default nodes c.args.x _ _ c.requires.x in
    let e : to_z w64 (of_z w64 c.index-node.result.now.edge) ≡ c.index-node.result.now.edge = omega (arith, ints) in
    let word_is : c.index-node.result.now.edge ∷ word lists nodes c.index-node.result.now.parent ≡ word lists nodes c.args.x =
    ap (λ (n : Node). n.edge ∷ word lists nodes n.parent) node_is ∙ sym p.1 in
    let is : IsShorter lists (word lists nodes c.args.x) (word lists nodes c.shorter_of-shorter.result) =
    subst (λ (w : List ℤ). IsShorter lists w (word lists nodes c.shorter_of-shorter.result)) (ap (λ f. f ∷ word lists nodes c.index-node.result.now.parent) e ∙ word_is)
    c.shorter_of-shorter.ensures.shorter in
    let less = shorter_less lists nodes child c.requires.trie c.args.x c.shorter_of-shorter.result c.requires.x c.shorter_of-shorter.ensures.below is in
    let back = back_at c.args.backs.now c.shorter_of-shorter.result in
    let whole = more_back lists nodes child c.args.marks.now c.args.x c.shorter_of-shorter.result back c.requires.trie c.requires.marks c.requires.x some
    c.shorter_of-shorter.ensures.below is
    (c.requires.backs c.shorter_of-shorter.result c.shorter_of-shorter.ensures.below less) in
    let marked : (get_or c.args.marks.now c.args.x false || back.forbids) ≡ get_or c.args.marks.now c.args.x false =
    ap (λ m. m || back.forbids) c.if-marks-x.true ∙ sym c.if-marks-x.true in
    subst (λ b. IsBack lists nodes c.args.x (record { shorter = c.shorter_of-shorter.result; forbids = b })) marked whole

pub returns-else-marks-x : goal.returns-else-marks-x
returns-else-marks-x c =
    let lists = c.args.trie.now.lists.items in
    let nodes = c.args.trie.now.nodes.items in
    let some : c.args.x ≢ 0 = λ z. absurd (c.if-x-eq0.false z) in
    let child = λ (a : ℕ) (e : ℤ). get key_cmp c.args.trie.now.children (a, e) in
    let p = parent_is lists nodes child c.requires.trie c.args.x c.requires.x some in
    let node_is : c.index-node.result.now ≡ node_at nodes c.args.x = c.index-node.ensures ∙ get_or_default nodes c.args.x _ _ c.requires.x in
    let e : to_z w64 (of_z w64 c.index-node.result.now.edge) ≡ c.index-node.result.now.edge = omega (arith, ints) in
    let word_is : c.index-node.result.now.edge ∷ word lists nodes c.index-node.result.now.parent ≡ word lists nodes c.args.x =
    ap (λ (n : Node). n.edge ∷ word lists nodes n.parent) node_is ∙ sym p.1 in
    let is : IsShorter lists (word lists nodes c.args.x) (word lists nodes c.shorter_of-shorter.result) =
    subst (λ (w : List ℤ). IsShorter lists w (word lists nodes c.shorter_of-shorter.result)) (ap (λ f. f ∷ word lists nodes c.index-node.result.now.parent) e ∙ word_is)
    c.shorter_of-shorter.ensures.shorter in
    let less = shorter_less lists nodes child c.requires.trie c.args.x c.shorter_of-shorter.result c.requires.x c.shorter_of-shorter.ensures.below is in
    let back = back_at c.args.backs.now c.shorter_of-shorter.result in
    let whole = more_back lists nodes child c.args.marks.now c.args.x c.shorter_of-shorter.result back c.requires.trie c.requires.marks c.requires.x some
    c.shorter_of-shorter.ensures.below is
    (c.requires.backs c.shorter_of-shorter.result c.shorter_of-shorter.ensures.below less) in
    let marked : (get_or c.args.marks.now c.args.x false || back.forbids) ≡ back.forbids = ap (λ m. m || back.forbids) c.if-marks-x.false in
    subst (λ b. IsBack lists nodes c.args.x (record { shorter = c.shorter_of-shorter.result; forbids = b })) marked whole
