use Rattle.std.proofs.Common.{◌≡◌, ◌<◌, List, [], ◌∷◌, ◌++◌, length, map, get_or, ℤ, pos, subst, rules, w64}
use Rattle.std.proofs.lemmas.Int.{to_z-of_z}
use Rattle.std.proofs.lemmas.Result.{on_ok_weaker}
use mir.Val.{SFits}
use Rattle.pgr_outside.specs.declared.side.Side.TheVariants.{B}
use Rattle.pgr_table.specs.declared.row.PointRow.{PointRow}
use Rattle.pgr_points.specs.declared.stop.Stop.{Stop}
use Rattle.pgr_points.specs.Stops.{stop_at, parts}
use Rattle.pgr_points.specs.Senses.{seen_of}
use Rattle.pgr_points.proofs.PartLemmas.{parts_step, parts_end, still_ahead, still_within}
use Rattle.pgr_points.proofs.pointed.push_parts.Goals as goal

pub loop-point-preserved : goal.loop-point-preserved
loop-point-preserved c =
    let points = c.args.points.now in
    let i = c.loop-point.point-index in
    let inside : i < length points = c.loop-point-test.true in
    let id_fits : SFits w64 c.args.row.id = search rules in
    -- what a point that isn't there would be, as the loop reads points
    let none : PointRow = record { pid = pos 0; edge_id = pos 0; over = 0; under = 0; side = B } in
    let Q : ℤ → Type 0 = λ edge. (rest : List Stop) → c.pass.new.links.items ++ parts edge c.args.direction (c.in_ok-stop.stop ∷ rest)
    ≡ c.loop-point.links.items ++ parts edge c.args.direction
    (c.loop-point.stop ∷ (map (stop_at c.args.cost) (seen_of c.args.sight.driving c.args.sight.directed c.args.direction (get_or points i none ∷ [])) ++ rest)) in
    let passed : Q c.args.row.id = subst Q (to_z-of_z w64 c.args.row.id id_fits) c.in_ok-stop.ensures.parts in
    record {
      parts = parts_step c.args.sight.driving c.args.sight.directed c.args.row.id c.args.direction c.args.cost points _ c.loop-point.links.items _ i c.loop-point.stop
          c.loop-point.invariant.parts c.pass.new.links.items c.in_ok-stop.stop none inside passed;
      within = still_within c.args.cost points c.requires.points i c.in_ok-stop.stop _ inside c.in_ok-stop.ensures.behind;
      ahead = still_ahead c.args.cost points c.requires.points c.requires.rise i c.in_ok-stop.stop _ inside c.in_ok-stop.ensures.behind;
    }

pub returns : goal.returns
returns c =
    let id_fits : SFits w64 c.args.row.id = search rules in
    let target_fits : SFits w64 c.args.row.target = search rules in
    on_ok_weaker c.push_part.result (parts_end c.args.sight.driving c.args.sight.directed c.args.row.id c.args.direction c.args.cost c.args.points.now _ c.loop-point.links.items _
    c.loop-point.point-index c.loop-point.stop c.loop-point.invariant.parts c.push_part.new.links.items c.loop-point-test.false) (simp to_z-of_z at c.push_part.ensures)
