-- The marks are those of the whole restrictions.
use Rattle.std.proofs.Common.{◌≡◌, List, Bool, length, subst, sym, arith}
use Rattle.std.specs.BTreeMap.{get}
use Rattle.std.proofs.lemmas.List.{get_or_default}
use Rattle.pgr_turns.specs.Trie.{key_cmp, IsMarking}
use Rattle.pgr_turns.proofs.AutomatonSteps.{marking_from}
use Rattle.pgr_turns.proofs.automaton.backs_of_trie.Goals as goal

pub marks_of-requires : goal.marks_of-requires
marks_of-requires c = λ k d inside.
    let below = c.requires.lasts.below k (omega (arith, inside, c.requires.lasts.size_is)) in
    omega (arith, below, get_or_default c.args.lasts.now k d 0 inside, c.len.ensures, c.args.trie.now.nodes.ok.0)

pub backs_of-requires-clause-marks : goal.backs_of-requires-clause-marks
backs_of-requires-clause-marks c =
    let size : length c.in_ok-marks.marks.items ≡ length c.args.trie.now.nodes.items = omega (arith, c.in_ok-marks.ensures.size, c.len.ensures, c.args.trie.now.nodes.ok.0) in
    subst (λ (ms : List Bool). IsMarking c.args.trie.now.lists.items c.args.trie.now.nodes.items ms) (sym c.as_slice.ensures.value)
    (marking_from c.args.trie.now.lists.items c.args.trie.now.nodes.items (λ a e. get key_cmp c.args.trie.now.children (a, e)) c.args.lasts.now c.in_ok-marks.marks.items
    c.requires.trie
    size c.requires.lasts c.in_ok-marks.ensures.marks)
