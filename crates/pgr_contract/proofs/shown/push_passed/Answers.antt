use Rattle.std.proofs.Common.{◌≡◌, ◌++◌, ◌∙◌, sym, true, rules, w64}
use Rattle.std.proofs.lemmas.Int.{to_z-of_z}
use mir.Val.{SFits}
use Rattle.pgr_contract.specs.Held.{tag, span_of}
use Rattle.pgr_contract.proofs.ShownLists.{passed_shown}
use Rattle.pgr_contract.proofs.shown.push_passed.Goals as goal

pub returns-in_ok-push_shortcut-2 : goal.returns-in_ok-push_shortcut-2
returns-in_ok-push_shortcut-2 c = λ tags shown.
    let p = c.args.passed in
    let vertex : SFits w64 c.args.passed.vertex = search rules in
    let low : SFits w64 c.args.passed.low = search rules in
    let high : SFits w64 c.args.passed.high = search rules in
    let first_left : c.is_left.result ≡ true = search rules in
    let second_left : c.is_left-else-not-is_left.result ≡ true = search rules in
    let low_is = simp to_z-of_z at c.is_left.ensures in
    let high_is = simp to_z-of_z at c.is_left-else-not-is_left.ensures in
    let first = simp to_z-of_z at (c.in_ok-push_shortcut.ensures tags shown) in
    let second = simp to_z-of_z at (c.in_ok-push_shortcut-2.ensures (tags ++ tag p.low p.high p.there (span_of p)) first) in
    passed_shown c.args.directed c.args.rests.now c.args.over.now p tags c.push_shortcut-then-directed.new.shortcuts.items c.if-directed.true
    (sym low_is ∙ first_left) (sym high_is ∙ second_left) second
