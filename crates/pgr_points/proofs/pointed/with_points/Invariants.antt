use Rattle.std.proofs.Common.{◌≡◌, take}
use Rattle.pgr_points.proofs.TableLemmas.{parts_of_rows}
use Rattle.pgr_points.proofs.pointed.with_points.Given as goal

-- the parts of the rows so far
abbrev pub invariant-loop-i : goal.invariant-loop-i
invariant-loop-i l = l.links.items ≡ parts_of_rows l.sight.driving l.sight.directed l.placed.items (take l.i l.edges)
