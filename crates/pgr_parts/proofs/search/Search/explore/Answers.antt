use Rattle.pgr_parts.proofs.Turning.{follows_root}
use Rattle.pgr_parts.proofs.search.Search.explore.Goals as goal

pub loop-self-init : goal.loop-self-init
loop-self-init c =
    let h = follows_root _ _ _ _ c.requires.vertex c.requires.searching c.requires.idle c.in_ok-follow.ensures in
    record { searching = h.searching; found = h.found; root = h.here }
