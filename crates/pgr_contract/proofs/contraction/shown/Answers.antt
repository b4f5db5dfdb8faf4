use Rattle.pgr_contract.proofs.Showing.{shown_by}
use Rattle.pgr_contract.proofs.contraction.shown.Goals as goal

pub returns : goal.returns
returns c =
    let links = rw c.as_slice.ensures.value at c.in_ok-left.ensures.links in
    shown_by c.args.directed c.args.links.now c.requires.given c.requires.opposites c.args.events.now c.requires.log c.in_ok-names.names c.in_ok-names.ensures.ends
    c.in_ok-rests.rests
    c.in_ok-rests.ensures c.in_ok-contents.contents.at c.in_ok-contents.contents.over c.in_ok-contents.ensures.at c.in_ok-contents.ensures.over
    c.in_ok-vertices.vertices.items c.in_ok-vertices.ensures c.in_ok-shortcuts.shortcuts.items c.in_ok-shortcuts.ensures c.in_ok-left.left.items c.in_ok-left.ensures.rise links
