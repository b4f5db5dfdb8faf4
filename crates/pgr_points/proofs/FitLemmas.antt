-- Pointed links fit: each is a part, one way round or the other, of some column of costs, whose parts cost together what the table's costs do.
use Rattle.std.proofs.Common.{◌≡◌, ℕ, inl, inr, ⊎_elim, Bool, true, false, List, [], ◌∷◌, ◌++◌, ℤ, pos, negsuc, refl, sym, ap, subst, arith}
use Rattle.std.specs.List.{All, flat_map}
use Rattle.std.proofs.lemmas.List.Sums.{sum_by-cons}
use Rattle.pgr_outside.specs.declared.side.Side.{Side}
use Rattle.pgr_walks.specs.declared.link.LinkOf.{LinkOf}
use Rattle.pgr_walks.specs.Walk.{IsWalk, cost_of, vertices_of}
use Rattle.pgr_walks.specs.Graph.{Fits}
use Rattle.pgr_walks.specs.Reversed.{turned}
use Rattle.pgr_walks.proofs.Repeats.{Among, Apart-from_IsWithoutRepeats}
use Rattle.pgr_table.specs.declared.row.EdgeRow.{EdgeRow}
use Rattle.pgr_table.specs.declared.row.PointRow.{PointRow}
use Rattle.pgr_table.specs.Rows.{counted}
use Rattle.pgr_table.specs.Edges.{AreAccepted, costs_of, sum_of_costs}
use Rattle.pgr_table.specs.Points.{IsPoint, ArePoints}
use Rattle.pgr_graph.specs.declared.links.Direction.{Direction}
use Rattle.pgr_graph.specs.declared.links.Direction.TheVariants.{Forward, Backward}
use Rattle.pgr_graph.specs.Links.{HasSense}
use Rattle.pgr_points.specs.declared.stop.Stop.{Stop}
use Rattle.pgr_points.specs.Fractions.{along_cmp}
use Rattle.pgr_points.specs.Stops.{stops, parts}
use Rattle.pgr_points.specs.Pointed.{AreSeen, IsPartOfRow, IsPointed}
use Rattle.pgr_points.specs.Places.{place_cmp}
use Rattle.pgr_points.specs.Senses.{points_of, seen_of, parts_of_sense}
use Rattle.pgr_walks.proofs.Membership.{Among-left, Among-right, Among-flat_map, Among-from_Contains, Contains-from_Among}
use Rattle.pgr_walks.proofs.BackWalks.{cost_of-append}
use Rattle.pgr_points.proofs.SameLists.{Rises, Rises-from_rising, rising-from_Rises}
use Rattle.pgr_points.proofs.SeenLemmas.{seen_once, placed_seen, seen_good}
use Rattle.pgr_points.proofs.RowLemmas.{sense_from}
use Rattle.pgr_points.proofs.TableLemmas.{Among-from_Any}
use Rattle.pgr_points.proofs.Climbing.{cost_of_parts}
use Rattle.pgr_points.proofs.Covering.{IsCovered, cost_covered, cost_of_covered}
use Rattle.pgr_points.proofs.Arranging.{arranged, arranged_to, arranged_from, arranged_in_order}

-- the parts backward are those forward, turned round
parts_turned : (edge : ℤ) (ss : List Stop) (link : LinkOf ℤ) → Among link (parts edge Backward ss) → Among (turned link) (parts edge Forward ss)
parts_turned edge [] link h = absurd h
parts_turned edge (stop ∷ []) link h = absurd h
parts_turned edge (stop ∷ next ∷ rest) link (inl e) = inl (ap turned e)
parts_turned edge (stop ∷ next ∷ rest) link (inr h) = inr (parts_turned edge (next ∷ rest) link h)

module _ (points : List PointRow) (are : ArePoints points) (driving : Side) (directed : Bool) where
  placed : List PointRow
  placed = arranged points

  rises : Rises place_cmp placed
  unfolding placed
  rises = arranged_in_order points are.distinct

  good : All IsPoint placed
  unfolding placed
  good k d inside = seen_good points (arranged points) are.points (λ x h. arranged_from x points h) k d inside

  -- what a link sees of them
  pub seen_by : EdgeRow → Direction → List PointRow
  seen_by row direction = seen_of driving directed direction (points_of row.id placed)

  pub are_seen_by : (row : EdgeRow) (direction : Direction) → AreSeen points driving directed row direction (seen_by row direction)
  unfolding seen_by placed
  are_seen_by row direction =
      placed_seen points driving directed row direction (arranged points) (rising-from_Rises place_cmp (arranged points) rises) good (λ x h. arranged_to x points h)
      (λ x h. arranged_from x points h)

  -- whatever list they are, its parts cost together what the link does
  pub parts_cost : (row : EdgeRow) (direction : Direction) (cost : ℕ) (seen : List PointRow) → AreSeen points driving directed row direction seen → (way : Direction)
      → cost_of (parts row.id way (stops row cost seen)) ≡ cost
  parts_cost row direction cost seen h way =
      cost_of_parts row way cost seen
      (λ p m. let k = ((h.exactly p).0 (Contains-from_Among p seen m)).0 in subst IsPoint k.2 (are.points k.0 p k.1))
      (Rises-from_rising along_cmp seen h.rise)

  sense_cost : (row : EdgeRow) (direction : Direction) (cost : ℤ) → cost_of (parts_of_sense row Forward cost (seen_by row direction)) ≡ counted cost
  sense_cost row direction (pos cost) = parts_cost row direction cost (seen_by row direction) (are_seen_by row direction) Forward
  sense_cost row direction (negsuc n) = refl

  -- the parts of both columns, from the source of the edge to its target
  columns : EdgeRow → List (LinkOf ℤ)
  columns row = parts_of_sense row Forward row.cost (seen_by row Forward) ++ parts_of_sense row Forward row.reverse_cost (seen_by row Backward)

  columns_cost : (row : EdgeRow) → cost_of (columns row) ≡ costs_of row
  unfolding columns
  columns_cost row =
      omega (
        arith,
        cost_of-append (parts_of_sense row Forward row.cost (seen_by row Forward)) (parts_of_sense row Forward row.reverse_cost (seen_by row Backward)),
        sense_cost row Forward row.cost,
        sense_cost row Backward row.reverse_cost,
      )

  all_columns_cost : (rows : List EdgeRow) → cost_of (flat_map columns rows) ≡ sum_of_costs rows
  all_columns_cost [] = refl
  all_columns_cost (row ∷ rows) =
      let more = cost_of-append (columns row) (flat_map columns rows) in
      let here = columns_cost row in
      let rest = all_columns_cost rows in
      let total = sum_by-cons costs_of row rows in
      omega arith

  -- in the undirected graph links see the same both ways
  sees_alike : (di : Bool) → di ≡ false → (ps : List PointRow) → seen_of driving di Forward ps ≡ seen_of driving di Backward ps
  sees_alike false e ps = refl
  sees_alike true e ps = cc

  all_alike : (row : EdgeRow) → false ≡ directed → seen_by row Forward ≡ seen_by row Backward
  unfolding seen_by
  all_alike row is = sees_alike directed (sym is) (points_of row.id placed)

  into_columns : (row : EdgeRow) (link : LinkOf ℤ) (di : Bool) → di ≡ directed → (direction : Direction) (n : ℕ) → HasSense di row direction n
      → Among link (parts row.id direction (stops row n (seen_by row direction))) → IsCovered (columns row) link
  unfolding columns
  into_columns row link true is Forward n sense h =
      inl (Among-left link (parts_of_sense row Forward row.cost (seen_by row Forward)) (parts_of_sense row Forward row.reverse_cost (seen_by row Backward))
      (sense_from row Forward (seen_by row Forward) link row.cost n sense h))
  into_columns row link true is Backward n sense h =
      inr (Among-right (turned link) (parts_of_sense row Forward row.cost (seen_by row Forward)) (parts_of_sense row Forward row.reverse_cost (seen_by row Backward))
      (sense_from row Forward (seen_by row Backward) (turned link) row.reverse_cost n sense (parts_turned row.id (stops row n (seen_by row Backward)) link h)))
  into_columns row link false is Forward n (inl sense) h =
      inl (Among-left link (parts_of_sense row Forward row.cost (seen_by row Forward)) (parts_of_sense row Forward row.reverse_cost (seen_by row Backward))
      (sense_from row Forward (seen_by row Forward) link row.cost n sense h))
  into_columns row link false is Forward n (inr sense) h =
      inl (Among-right link (parts_of_sense row Forward row.cost (seen_by row Forward)) (parts_of_sense row Forward row.reverse_cost (seen_by row Backward))
      (sense_from row Forward (seen_by row Backward) link row.reverse_cost n sense
      (subst (λ seen. Among link (parts row.id Forward (stops row n seen))) (all_alike row is) h)))
  into_columns row link false is Backward n (inl sense) h =
      inr (Among-left (turned link) (parts_of_sense row Forward row.cost (seen_by row Forward)) (parts_of_sense row Forward row.reverse_cost (seen_by row Backward))
      (sense_from row Forward (seen_by row Forward) (turned link) row.cost n sense
      (subst (λ seen. Among (turned link) (parts row.id Forward (stops row n seen))) (sym (all_alike row is)) (parts_turned row.id (stops row n (seen_by row Backward)) link h))))
  into_columns row link false is Backward n (inr sense) h =
      inr (Among-right (turned link) (parts_of_sense row Forward row.cost (seen_by row Forward)) (parts_of_sense row Forward row.reverse_cost (seen_by row Backward))
      (sense_from row Forward (seen_by row Backward) (turned link) row.reverse_cost n sense (parts_turned row.id (stops row n (seen_by row Backward)) link h)))

  part_covered : (row : EdgeRow) (link : LinkOf ℤ) → IsPartOfRow points driving directed row link → IsCovered (columns row) link
  part_covered row link h =
      let seen_is : h.seen ≡ seen_by row h.direction = seen_once points driving directed row h.direction h.seen (seen_by row h.direction) h.are_seen (are_seen_by row
      h.direction) in
      let among : Among link (parts row.id h.direction (stops row h.cost h.seen)) = Among-from_Contains link (parts row.id h.direction (stops row h.cost h.seen)) h.is_part in
      into_columns row link directed refl h.direction h.cost h.sense
      (subst (λ seen. Among link (parts row.id h.direction (stops row h.cost seen))) seen_is among)

  pointed_covered : (rows : List EdgeRow) (link : LinkOf ℤ) → IsPointed rows points driving directed link → IsCovered (flat_map columns rows) link
  pointed_covered rows link h =
      let here = Among-from_Any (λ row. IsPartOfRow points driving directed row link) rows h in
      ⊎_elim (λ m. inl (Among-flat_map columns rows h.1 link here m)) (λ m. inr (Among-flat_map columns rows h.1 (turned link) here m)) (part_covered h.1 link h.4)

  walk_has : (rows : List EdgeRow) (s t : ℤ) (walk : List (LinkOf ℤ)) → IsWalk (IsPointed rows points driving directed) s walk t → (link : LinkOf ℤ) → Among link walk
      → IsPointed rows points driving directed link
  walk_has rows s t [] is_walk link h = absurd h
  walk_has rows s t (first ∷ walk) is_walk link (inl e) = subst (IsPointed rows points driving directed) e is_walk.0
  walk_has rows s t (first ∷ walk) is_walk link (inr h) = walk_has rows first.to t walk is_walk.2 link h

  pub pointed_fit : (rows : List EdgeRow) → AreAccepted rows → Fits (IsPointed rows points driving directed)
  pointed_fit rows accepted =
      let total = all_columns_cost rows in record {
        links = λ link has. let h = cost_covered (flat_map columns rows) link (pointed_covered rows link has) in omega (arith, accepted.sum);
        routes = λ s t walk route.
            let h = cost_of_covered (IsPointed rows points driving directed) t walk s (flat_map columns rows) route.is_walk
            (Apart-from_IsWithoutRepeats (vertices_of s walk) route.loopless)
            (λ link m. pointed_covered rows link (walk_has rows s t walk route.is_walk link m)) in
            omega (arith, accepted.sum);
      }
