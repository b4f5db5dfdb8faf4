-- The parts of a link cost together what it does: the stops climb from offset 0 to its cost.
use Rattle.std.proofs.Common.{◌≡◌, ℕ, ◌+◌, ◌-◌, ◌*◌, ◌≤◌, Bool, inl, inr, List, [], ◌∷◌, ◌++◌, map, ℤ, refl, sym, ap, subst, ◌∙◌, arith, Less}
use Rattle.std.specs.List.{Contains}
use Rattle.pgr_outside.specs.Lists.{IsStrictlyRising}
use Rattle.pgr_walks.specs.declared.link.LinkOf.{LinkOf}
use Rattle.pgr_walks.specs.Walk.{cost_of}
use Rattle.pgr_walks.proofs.Repeats.{Among}
use Rattle.pgr_table.specs.declared.row.EdgeRow.{EdgeRow}
use Rattle.pgr_table.specs.declared.row.PointRow.{PointRow}
use Rattle.pgr_table.specs.Points.{IsPoint}
use Rattle.pgr_graph.specs.declared.links.Direction.{Direction}
use Rattle.pgr_graph.specs.declared.links.Direction.TheVariants.{Forward, Backward}
use Rattle.pgr_points.specs.declared.stop.Stop.{Stop}
use Rattle.pgr_points.specs.Fractions.{along_cmp}
use Rattle.pgr_points.specs.Stops.{offset_of, stop_at, stops, part, parts}
use Rattle.pgr_points.proofs.SameLists.{Rises}
use Rattle.pgr_points.proofs.PlaceLemmas.{fractions_in_order}
use Rattle.pgr_points.proofs.PartLemmas.{offsets_in_order, offset_at_most}

cost_of_part : (edge : ℤ) (direction : Direction) (stop next : Stop) → (part edge direction stop next).cost ≡ next.offset - stop.offset
cost_of_part edge Forward stop next = refl
cost_of_part edge Backward stop next = refl

module _ (edge : ℤ) (direction : Direction) (cost : ℕ) (last : Stop) (last_is : last.offset ≡ cost) where
  -- from a stop on the parts cost what is left
  pub left_over : (stop : Stop) (seen : List PointRow) → stop.offset ≤ cost → ((p : PointRow) → Among p seen → stop.offset ≤ offset_of cost p)
      → ((p : PointRow) → Among p seen → IsPoint p) → Rises along_cmp seen
      → cost_of (parts edge direction (stop ∷ (map (stop_at cost) seen ++ last ∷ []))) + stop.offset ≡ cost
  unfolding Rises
  left_over stop [] within behind good rises = omega (arith, cost_of_part edge direction stop last)
  left_over stop (p ∷ seen) within behind good rises =
      let here = good p (inl refl) in
      let step = behind p (inl refl) in
      let rest = left_over (stop_at cost p) seen (offset_at_most cost p here)
      (λ q m. offsets_in_order cost p q here (good q (inr m)) (fractions_in_order p q (rises.0 q m))) (λ q m. good q (inr m)) rises.1 in
      omega (arith, cost_of_part edge direction stop (stop_at cost p))

-- all parts cost what the link does
pub cost_of_parts : (row : EdgeRow) (direction : Direction) (cost : ℕ) (seen : List PointRow) → ((p : PointRow) → Among p seen → IsPoint p) → Rises along_cmp seen
    → cost_of (parts row.id direction (stops row cost seen)) ≡ cost
cost_of_parts row direction cost seen good rises =
    let h = left_over row.id direction cost (record { vertex = row.target; offset = cost }) refl (record { vertex = row.source; offset = 0 }) seen
    (omega arith) (λ p m. omega arith) good rises in
    omega arith
