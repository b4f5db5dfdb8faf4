-- A child is the longest front, and without one it goes on at the shorter front.
use Rattle.std.proofs.Common.{◌≡◌, ◌≢◌, ◌∙◌, ◌∷◌, sym, subst, arith, to_z, of_z, w64}
use Rattle.std.proofs.lemmas.Int.{ints}
use Rattle.pgr_turns.specs.Fronts.{IsLongest}
use Rattle.std.specs.BTreeMap.{get}
use Rattle.pgr_turns.specs.Trie.{key_cmp, back_at, word}
use Rattle.pgr_turns.proofs.AutomatonSteps.{after_found, after_none, after_more, up_to_less, follows_self}
use Rattle.pgr_turns.proofs.automaton.after.Goals as goal

pub returns-in-Some-clause-below : goal.returns-in-Some-clause-below
returns-in-Some-clause-below c =
    (after_found c.args.trie.now.lists.items c.args.trie.now.nodes.items (λ a e. get key_cmp c.args.trie.now.children (a, e)) c.requires.trie c.requires.complete _ c.args.at
    c.loop-next.here c.in-Some.next c.loop-next.invariant.follows (sym c.child.ensures ∙ c.in-Some.is)).0

pub returns-in-Some-clause-longest : goal.returns-in-Some-clause-longest
returns-in-Some-clause-longest c =
    let e : to_z w64 (of_z w64 c.args.edge) ≡ c.args.edge = omega (arith, ints) in
    subst (λ f. IsLongest c.args.trie.now.lists.items (f ∷ word c.args.trie.now.lists.items c.args.trie.now.nodes.items c.args.at)
    (word c.args.trie.now.lists.items c.args.trie.now.nodes.items c.in-Some.next)) e (
    (after_found c.args.trie.now.lists.items c.args.trie.now.nodes.items (λ a e. get key_cmp c.args.trie.now.children (a, e)) c.requires.trie c.requires.complete _ c.args.at
    c.loop-next.here c.in-Some.next c.loop-next.invariant.follows (sym c.child.ensures ∙ c.in-Some.is)).1)

pub returns-then-here-eq0-clause-longest : goal.returns-then-here-eq0-clause-longest
returns-then-here-eq0-clause-longest c =
    let e : to_z w64 (of_z w64 c.args.edge) ≡ c.args.edge = omega (arith, ints) in
    subst (λ f. IsLongest c.args.trie.now.lists.items (f ∷ word c.args.trie.now.lists.items c.args.trie.now.nodes.items c.args.at)
    (word c.args.trie.now.lists.items c.args.trie.now.nodes.items 0)) e (
    after_none c.args.trie.now.lists.items c.args.trie.now.nodes.items (λ a e. get key_cmp c.args.trie.now.children (a, e)) c.requires.trie c.requires.complete _ c.args.at
    c.loop-next.here c.if-here-eq0.true c.loop-next.invariant.follows (sym c.child.ensures ∙ c.in_default.is))

pub loop-next-smaller : goal.loop-next-smaller
loop-next-smaller c =
    let some : c.loop-next.here ≢ 0 = λ z. absurd (c.if-here-eq0.false z) in
    let back = back_at c.args.backs.now c.loop-next.here in
    (after_more c.args.trie.now.lists.items c.args.trie.now.nodes.items (λ a e. get key_cmp c.args.trie.now.children (a, e)) c.requires.trie c.requires.complete _ c.args.at
    c.loop-next.here back c.loop-next.invariant.below some c.loop-next.invariant.follows (sym c.child.ensures ∙ c.in_default.is)
    (c.loop-next.invariant.backs c.loop-next.here c.loop-next.invariant.below (omega arith))).2

pub loop-next-preserved : goal.loop-next-preserved
loop-next-preserved c =
    let some : c.loop-next.here ≢ 0 = λ z. absurd (c.if-here-eq0.false z) in
    let back = back_at c.args.backs.now c.loop-next.here in
    let more = after_more c.args.trie.now.lists.items c.args.trie.now.nodes.items (λ a e. get key_cmp c.args.trie.now.children (a, e)) c.requires.trie c.requires.complete _
    c.args.at
    c.loop-next.here back c.loop-next.invariant.below some c.loop-next.invariant.follows (sym c.child.ensures ∙ c.in_default.is)
    (c.loop-next.invariant.backs c.loop-next.here c.loop-next.invariant.below (omega arith)) in
    record {
      below = more.0;
      backs = up_to_less c.args.trie.now.lists.items c.args.trie.now.nodes.items c.args.backs.now c.loop-next.here back.shorter more.2 c.loop-next.invariant.backs;
      follows = more.1;
    }

pub loop-next-init : goal.loop-next-init
loop-next-init c = record { below = c.requires.at; backs = c.requires.backs; follows = follows_self c.args.trie.now.lists.items _ _ }
