use Rattle.std.proofs.Common.{◌≡◌, ℕ, ◌≤◌, ◌<◌, List, [], ◌∷◌, ◌++◌, length, map, get_or, drop}
use Rattle.pgr_table.specs.declared.row.PointRow.{PointRow}
use Rattle.pgr_points.specs.Senses.{seen_of}
use Rattle.pgr_points.specs.Stops.{offset_of, stop_at, stops, parts}
use Rattle.pgr_points.proofs.pointed.push_parts.Given as goal

abbrev pub invariant-loop-point : goal.invariant-loop-point
invariant-loop-point l = record {
  -- the parts so far and those from the stop on are all
  parts : l.links.items ++ parts l.row.id l.direction
      (l.stop ∷ (map (stop_at l.cost) (seen_of l.sight.driving l.sight.directed l.direction (drop l.point-index l.points)) ++ record { vertex = l.row.target; offset = l.cost }
      ∷ []))
      ≡ l.fn.links.items ++ parts l.row.id l.direction (stops l.row l.cost (seen_of l.sight.driving l.sight.directed l.direction l.points));
  -- the stop lies within the link, and not behind any point that is ahead
  within : l.stop.offset ≤ l.cost;
  ahead : (k : ℕ) (d : PointRow) → l.point-index ≤ k → k < length l.points → l.stop.offset ≤ offset_of l.cost (get_or l.points k d);
}
