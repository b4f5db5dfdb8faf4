-- What is kept of one node more, and at last of all.
use Rattle.std.proofs.Common.{◌∙◌, ◌<◌, ℕ, List, length, get_or, ap, subst, sym, arith}
use Rattle.std.proofs.lemmas.List.{get_or_default, length-set}
use Rattle.pgr_turns.specs.declared.trie.Back.{Back}
use Rattle.pgr_turns.specs.Trie.{back_at, IsBack, AreOrdered}
use Rattle.pgr_turns.proofs.AutomatonSteps.{backs_more, backs_before, backs_all}
use Rattle.pgr_turns.proofs.automaton.backs_of.Goals as goal

pub back_of-back-requires-clause-backs : goal.back_of-back-requires-clause-backs
back_of-back-requires-clause-backs c = λ y below less.
    let lists = c.args.trie.now.lists.items in
    let nodes = c.args.trie.now.nodes.items in
    let order = c.deref-entry-items.result.now in
    let j = c.loop-entry.entry-index in
    let inside : j < length order = omega arith in
    let ordered = subst (λ (o : List (ℕ × ℕ)). AreOrdered nodes o) (sym c.deref-entry-items.ensures.value) c.in_ok-order.ensures in
    subst (λ (bs : List Back). IsBack lists nodes y (back_at bs y)) (sym c.as_slice.ensures.value)
    (backs_before lists nodes order ordered c.loop-entry.backs.items j (get_or order j (0, 0)).1 (λ d. ap (λ (p : ℕ × ℕ). p.1) (get_or_default order j d (0, 0) inside)) inside
    c.loop-entry.invariant.backs_are y below less)

pub loop-entry-preserved : goal.loop-entry-preserved
loop-entry-preserved c =
    let lists = c.args.trie.now.lists.items in
    let nodes = c.args.trie.now.nodes.items in
    let order = c.deref-entry-items.result.now in
    let backs = c.loop-entry.backs.items in
    let j = c.loop-entry.entry-index in
    let inside : j < length order = omega arith in
    let ordered = subst (λ (o : List (ℕ × ℕ)). AreOrdered nodes o) (sym c.deref-entry-items.ensures.value) c.in_ok-order.ensures in
    let x = (get_or order j (0, 0)).1 in
    let below : x < length backs = omega (arith, (ordered.nodes_are j (0, 0) inside).0, c.loop-entry.invariant.size_is) in
    record {
      size_is = length-set backs x c.back_of-back.result ∙ c.loop-entry.invariant.size_is;
      backs_are = backs_more lists nodes order ordered backs j x c.back_of-back.result (λ d. ap (λ (p : ℕ × ℕ). p.1) (get_or_default order j d (0, 0) inside)) below
          c.back_of-back.ensures
          c.loop-entry.invariant.backs_are;
    }

pub returns-clause-backs : goal.returns-clause-backs
returns-clause-backs c =
    let order = c.deref-entry-items.result.now in
    let ordered = subst (λ (o : List (ℕ × ℕ)). AreOrdered c.args.trie.now.nodes.items o) (sym c.deref-entry-items.ensures.value) c.in_ok-order.ensures in
    backs_all c.args.trie.now.lists.items c.args.trie.now.nodes.items order ordered c.loop-entry.backs.items (λ k d h. c.loop-entry.invariant.backs_are k d (omega (arith, h)))
