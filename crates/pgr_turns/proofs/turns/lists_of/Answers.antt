-- One list more, and all of them.
use Rattle.std.proofs.Common.{◌≡◌, ◌≤◌, ◌++◌, ◌∷◌, [], ℤ, List, ap, sym, ◌∙◌, arith}
use Rattle.std.proofs.lemmas.List.{take_all}
use Rattle.pgr_table.specs.Restrictions.{most_elements}
use Rattle.pgr_turns.specs.Restrictions.{nonempty}
use Rattle.pgr_turns.specs.Trie.{elements}
use Rattle.pgr_turns.proofs.NonemptySteps.{nonempty_more, nonempty_few}
use Rattle.pgr_turns.proofs.turns.lists_of.Goals as goal

pub loop-i-preserved : goal.loop-i-preserved
loop-i-preserved c =
    let lists = c.args.restrictions.now in
    c.in_ok-append_list.ensures ∙ ap (λ (ls : List (List ℤ)). ls ++ nonempty (c.row.result.now ∷ [])) c.loop-i.invariant
    ∙ sym (nonempty_more lists c.loop-i.i c.row.result.now (omega (arith, c.len-i-end.ensures.len, c.loop-i-test.true)) c.row.ensures)

pub returns-clause-lists : goal.returns-clause-lists
returns-clause-lists c = c.loop-i.invariant ∙ ap nonempty (take_all c.loop-i.i c.args.restrictions.now (omega (arith, c.len-i-end.ensures.len, c.loop-i-test.false)))

pub returns-clause-few : goal.returns-clause-few
returns-clause-few c =
    let all : c.loop-i.lists.items ≡ nonempty c.args.restrictions.now =
    c.loop-i.invariant ∙ ap nonempty (take_all c.loop-i.i c.args.restrictions.now (omega (arith, c.len-i-end.ensures.len, c.loop-i-test.false))) in
    let few : elements c.args.restrictions.now ≤ most_elements = c.len-i-end.ensures.accepted.elements in
    omega (arith, ap (λ (ls : List (List ℤ)). elements ls) all, nonempty_few c.args.restrictions.now, few)
