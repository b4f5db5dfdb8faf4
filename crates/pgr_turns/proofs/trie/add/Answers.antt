-- With the new node the nodes are fronts, each once.
use Rattle.std.proofs.Common.{◌≡◌, ◌∙◌, ◌∷◌, [], ◌++◌, ◌+◌, ℕ, ℤ, List, length, Some, false, sym, ap, subst, arith, to_z, of_z, w64}
use Rattle.std.specs.Ordering.{is_eq}
use Rattle.std.specs.BTreeMap.{get}
use Rattle.std.proofs.lemmas.Int.{ints}
use Rattle.std.proofs.lemmas.List.{length_push}
use Rattle.pgr_turns.specs.declared.trie.Node.{Node}
use Rattle.pgr_turns.specs.Trie.{key_cmp, word, IsTrie, Keeps}
use Rattle.pgr_turns.proofs.TrieSteps.{grown_trie, keeps_push, grown_at}
use Rattle.pgr_turns.proofs.trie.add.Goals as goal

pub returns-clause-trie : goal.returns-clause-trie
returns-clause-trie c =
    let nodes = c.args.nodes.now.items in
    let e : to_z w64 (of_z w64 c.args.edge) ≡ c.args.edge = omega (arith, ints) in
    let n : c.len-count.result ≡ length nodes = omega (arith, c.len-count.ensures, c.args.nodes.now.ok.0) in
    let pushed : c.push.new.list.items ≡ nodes ++ record { list = c.args.list; len = c.args.len + 1; parent = c.args.at; edge = c.args.edge } ∷ [] = cc (c.in_ok-push.ensures, e) in
    let hit : get key_cmp c.set_child.new.children (c.args.at, c.args.edge) ≡ Some (length nodes) = cc (c.in_ok-set_child.ensures.set, e, n) in
    let others : (a : ℕ) (f : ℤ) → is_eq (key_cmp (c.args.at, c.args.edge) (a, f)) ≡ false → get key_cmp c.set_child.new.children (a, f) ≡ get key_cmp c.args.children.now (a, f) =
    λ a f apart. c.in_ok-set_child.ensures.others a f (cc (apart, e)) in
    subst (λ (ns : List Node). IsTrie c.args.lists.now ns (λ a f. get key_cmp c.set_child.new.children (a, f))) (sym pushed)
    (grown_trie c.args.lists.now nodes (λ a f. get key_cmp c.args.children.now (a, f)) (λ a f. get key_cmp c.set_child.new.children (a, f)) c.args.list c.args.len c.args.at
    c.args.edge
    c.requires.trie c.requires.room c.requires.list c.requires.len c.requires.at c.requires.word c.requires.edge c.requires.none hit others)

pub returns-clause-size : goal.returns-clause-size
returns-clause-size c =
    let e : to_z w64 (of_z w64 c.args.edge) ≡ c.args.edge = omega (arith, ints) in
    let pushed : c.push.new.list.items ≡ c.args.nodes.now.items ++ record { list = c.args.list; len = c.args.len + 1; parent = c.args.at; edge = c.args.edge } ∷ [] =
    cc (c.in_ok-push.ensures, e) in
    omega (
      arith,
      ap (λ (ns : List Node). length ns) pushed,
      length_push c.args.nodes.now.items
          (record { list = c.args.list; len = c.args.len + 1; parent = c.args.at; edge = c.args.edge }),
    )

pub returns-clause-below : goal.returns-clause-below
returns-clause-below c =
    let e : to_z w64 (of_z w64 c.args.edge) ≡ c.args.edge = omega (arith, ints) in
    let pushed : c.push.new.list.items ≡ c.args.nodes.now.items ++ record { list = c.args.list; len = c.args.len + 1; parent = c.args.at; edge = c.args.edge } ∷ [] =
    cc (c.in_ok-push.ensures, e) in
    omega (
      arith,
      c.len-count.ensures,
      c.args.nodes.now.ok.0,
      ap (λ (ns : List Node). length ns) pushed,
      length_push c.args.nodes.now.items (record { list = c.args.list; len = c.args.len + 1; parent = c.args.at; edge = c.args.edge }),
    )

pub returns-clause-kept : goal.returns-clause-kept
returns-clause-kept c = subst (λ (ns : List Node). Keeps c.args.nodes.now.items ns) (sym c.in_ok-push.ensures) (keeps_push c.args.nodes.now.items _)

pub returns-clause-word : goal.returns-clause-word
returns-clause-word c =
    let e : to_z w64 (of_z w64 c.args.edge) ≡ c.args.edge = omega (arith, ints) in
    let n : c.len-count.result ≡ length c.args.nodes.now.items = omega (arith, c.len-count.ensures, c.args.nodes.now.ok.0) in
    let pushed : c.push.new.list.items ≡ c.args.nodes.now.items ++ record { list = c.args.list; len = c.args.len + 1; parent = c.args.at; edge = c.args.edge } ∷ [] =
    cc (c.in_ok-push.ensures, e) in
    ap (λ (ns : List Node). word c.args.lists.now ns c.len-count.result) pushed
    ∙ ap (word c.args.lists.now (c.args.nodes.now.items ++ record { list = c.args.list; len = c.args.len + 1; parent = c.args.at; edge = c.args.edge } ∷ [])) n
    ∙ grown_at c.args.lists.now c.args.nodes.now.items (record { list = c.args.list; len = c.args.len + 1; parent = c.args.at; edge = c.args.edge })
