use Rattle.std.proofs.Common.{◌≡◌, ◌<◌, Some, true, false, length, sym, ap, ◌∙◌, arith}
use Rattle.pgr_search.specs.Heap.{is_before, key_in, above}
use Rattle.pgr_search.proofs.Entries.{key_in-get}
use Rattle.pgr_search.proofs.HeapSifting.{is_rising, is_sinking}
use Rattle.pgr_search.proofs.heap.sift.Goals as goal
use Rattle.pgr_search.proofs.heap.sift.Goals.{else-place-gt0-via-then-place-gt0+else-comes_before, else-place-gt0-via-else-place-gt0}

pub sift_up-requires : goal.sift_up-requires
sift_up-requires g c =
    let h = c.requires.sifting in
    let entries = c.args.entries.now in
    let entry = c.args.entry in
    let to_below : above c.args.place < length entries = omega (arith, h.below) in
    let rise : is_before g.K.Ord.cmp (Some entry.key) (key_in entries (above c.args.place)) ≡ true =
    ap (is_before g.K.Ord.cmp (Some entry.key)) (key_in-get entries (above c.args.place) c.index-entries-place.result to_below) ∙ sym c.comes_before.ensures
    ∙ c.if-comes_before.true in
    record { rising = is_rising g.K.Ord.cmp g.met.K.Ord.total _ c.args.places.now entries c.args.place entry h c.if-place-gt0.true rise }

pub sift_down-requires : goal.sift_down-requires
sift_down-requires g c =
    let h = c.requires.sifting in
    let entries = c.args.entries.now in
    let entry = c.args.entry in
    let to_below : above c.args.place < length entries = omega (arith, h.below) in
    let stays = elim c.else-place-gt0.branch as (λ _. 0 < c.args.place → is_before g.K.Ord.cmp (Some entry.key) (key_in entries (above c.args.place)) ≡ false) [
      | else-place-gt0-via-then-place-gt0+else-comes_before w ↦ λ some.
          ap (is_before g.K.Ord.cmp (Some entry.key)) (key_in-get entries (above c.args.place) w.index-entries-place.result to_below) ∙ sym w.comes_before.ensures
          ∙ w.if-comes_before.false
      | else-place-gt0-via-else-place-gt0 w ↦ λ some. absurd (omega (arith, some, w.if-place-gt0.false))
    ] in
    record { sinking = is_sinking g.K.Ord.cmp g.met.K.Ord.total _ c.args.places.now entries c.args.place entry h stays }
