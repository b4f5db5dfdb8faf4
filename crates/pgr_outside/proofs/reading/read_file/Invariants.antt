use Rattle.std.proofs.Common.{◌≡◌, ◌-◌, ◌≤◌, ◌+◌, vec_len, IfSome}
use Rattle.pgr_outside.specs.Faults.{NoneFell}
use Rattle.pgr_outside.proofs.Fronts.{IsFront}
use Rattle.pgr_outside.proofs.reading.read_file.Given as goal

-- the bytes so far are a front of the content, and no more than one past the limit
abbrev pub invariant-loop-bytes : goal.invariant-loop-bytes
invariant-loop-bytes g l =
    let content = g.S.Store.content in
    let faults = g.S.Store.faults in
    record {
      piece_len : vec_len l.piece ≡ 65536;
      within : vec_len l.bytes ≤ l.limit + 1;
      front : IfSome (content l.fn.store l.name) (λ told. IsFront told l.bytes.items);
      same : content l.store ≡ content l.fn.store;
      counts : NoneFell (faults l.fn.store) (faults l.store);
    }

-- each turn takes at least one byte, up to one past the limit
abbrev pub decreases-loop-bytes : goal.decreases-loop-bytes
decreases-loop-bytes g l = l.limit + 1 - vec_len l.bytes
