use Rattle.std.proofs.Common.{◌≡◌, ◌++◌, ◌∙◌, sym, subst, ap, negsuc, length, rules, w64}
use Rattle.std.proofs.lemmas.Int.{to_z-of_z}
use mir.Val.{SFits}
use Rattle.pgr_contract.specs.Held.{tag}
use Rattle.pgr_contract.specs.Lists.{shown_from}
use Rattle.pgr_contract.proofs.ShownLists.{shown-push}
use Rattle.pgr_contract.proofs.shown.push_shortcut.Goals as goal

pub returns-in_ok-push : goal.returns-in_ok-push
returns-in_ok-push c = λ tags shown.
    let vertex : SFits w64 c.args.span.vertex = search rules in
    let from = c.ranges.from in
    let to = c.ranges.to in
    let id : SFits w64 c.id_after-id.result = search rules in
    let inside = simp to_z-of_z at c.in_ok-inside.ensures in
    let pushed = simp to_z-of_z at c.in_ok-push.ensures.items in
    subst (λ o. c.push.new.self.items ≡ shown_from c.args.over.now 0 (tags ++ tag c.args.from c.args.to o c.args.span)) (sym c.in-Some.is)
    (shown-push c.args.over.now tags c.args.from c.args.to c.in-Some.cost c.args.span c.args.shortcuts.now.items c.push.new.self.items c.id_after-id.result
    c.in_ok-inside.inside shown (c.id_after-id.ensures ∙ ap (λ xs. negsuc (length xs)) c.as_slice.ensures.value) inside pushed)
