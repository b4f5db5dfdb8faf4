-- The ends of pointed links are ends of edges and points.
use Rattle.std.proofs.Common.{◌≡◌, ℕ, ◌<◌, ◌^◌, inl, inr, ⊎_elim, Bool, List, [], ◌∷◌, ◌++◌, length, map, ℤ, neg_ℤ, refl, sym, ap, subst, arith}
use Rattle.std.specs.Ordering.{int_eq, is_eq}
use Rattle.std.specs.Cmp.{signed_Decides}
use Rattle.std.specs.List.{Contains}
use Rattle.std.proofs.lemmas.Cmp.{int_eq_equiv}
use Rattle.std.proofs.lemmas.List.{length-map, length-append}
use Rattle.std.proofs.lemmas.Map.Keys.{IsDistinct-from_apart}
use Rattle.std.proofs.lemmas.Map.Made.{length-le_from_is_member}
use Rattle.std.proofs.lemmas.Map.Views.{list_any-from_Contains, Contains-from_any}
use Rattle.pgr_outside.specs.declared.side.Side.{Side}
use Rattle.pgr_walks.specs.declared.link.LinkOf.{LinkOf}
use Rattle.pgr_walks.specs.Walk.{IsVertex}
use Rattle.pgr_walks.proofs.Repeats.{Among}
use Rattle.pgr_numbers.specs.Names.{AreEnds}
use Rattle.pgr_table.specs.declared.row.EdgeRow.{EdgeRow}
use Rattle.pgr_table.specs.declared.row.PointRow.{PointRow}
use Rattle.pgr_table.specs.Edges.{AreAccepted}
use Rattle.pgr_table.specs.Points.{ArePoints}
use Rattle.pgr_graph.specs.declared.links.Direction.{Direction}
use Rattle.pgr_graph.specs.declared.links.Direction.TheVariants.{Forward, Backward}
use Rattle.pgr_points.specs.declared.stop.Stop.{Stop}
use Rattle.pgr_points.specs.Stops.{stop_at, stops, part, parts}
use Rattle.pgr_points.specs.Pointed.{IsPartOfRow, IsPointed}
use Rattle.pgr_walks.proofs.Membership.{Among-left, Among-right, Among-map, Among-from_Contains, Contains-from_Among}
use Rattle.pgr_points.proofs.TableLemmas.{Among-from_Any}

vertices : List Stop → List ℤ
vertices ss = map (λ (stop : Stop). stop.vertex) ss

-- a part begins and ends at two stops
part_ends : (edge : ℤ) (direction : Direction) (stop next : Stop) (more : List ℤ) (link : LinkOf ℤ) → part edge direction stop next ≡ link
    → Among link.from (stop.vertex ∷ next.vertex ∷ more) × Among link.to (stop.vertex ∷ next.vertex ∷ more)
part_ends edge Forward stop next more link e = (inl (ap (λ (l : LinkOf ℤ). l.from) e), inr (inl (ap (λ (l : LinkOf ℤ). l.to) e)))
part_ends edge Backward stop next more link e = (inr (inl (ap (λ (l : LinkOf ℤ). l.from) e)), inl (ap (λ (l : LinkOf ℤ). l.to) e))

parts_ends : (edge : ℤ) (direction : Direction) (ss : List Stop) (link : LinkOf ℤ) → Among link (parts edge direction ss)
    → Among link.from (vertices ss) × Among link.to (vertices ss)
unfolding vertices
parts_ends edge direction [] link h = absurd h
parts_ends edge direction (stop ∷ []) link h = absurd h
parts_ends edge direction (stop ∷ next ∷ rest) link (inl e) = part_ends edge direction stop next (map (λ (s : Stop). s.vertex) rest) link e
parts_ends edge direction (stop ∷ next ∷ rest) link (inr h) = let r = parts_ends edge direction (next ∷ rest) link h in (inr r.0, inr r.1)

module _ (rows : List EdgeRow) (points : List PointRow) where
  -- all ends of edges, and all points
  known : List ℤ
  known = map (λ (row : EdgeRow). row.source) rows ++ (map (λ (row : EdgeRow). row.target) rows ++ map (λ (point : PointRow). neg_ℤ point.pid) points)

  source_known : (row : EdgeRow) → Among row rows → Among row.source known
  unfolding known
  source_known row h = Among-left row.source (map (λ (r : EdgeRow). r.source) rows) _ (Among-map (λ (r : EdgeRow). r.source) rows row h)

  target_known : (row : EdgeRow) → Among row rows → Among row.target known
  unfolding known
  target_known row h = Among-right row.target (map (λ (r : EdgeRow). r.source) rows) _
      (Among-left row.target (map (λ (r : EdgeRow). r.target) rows) _ (Among-map (λ (r : EdgeRow). r.target) rows row h))

  point_known : (point : PointRow) → Among point points → Among (neg_ℤ point.pid) known
  unfolding known
  point_known point h = Among-right (neg_ℤ point.pid) (map (λ (r : EdgeRow). r.source) rows) _
      (Among-right (neg_ℤ point.pid) (map (λ (r : EdgeRow). r.target) rows) _ (Among-map (λ (p : PointRow). neg_ℤ p.pid) points point h))

  behind_known : (row : EdgeRow) (cost : ℕ) (seen : List PointRow) → Among row rows → ((p : PointRow) → Among p seen → Among p points) → (v : ℤ)
      → Among v (vertices (map (stop_at cost) seen ++ record { vertex = row.target; offset = cost } ∷ [])) → Among v known
  unfolding vertices
  behind_known row cost [] here from v (inl e) = subst (λ w. Among w known) e (target_known row here)
  behind_known row cost [] here from v (inr h) = absurd h
  behind_known row cost (p ∷ seen) here from v (inl e) = subst (λ w. Among w known) e (point_known p (from p (inl refl)))
  behind_known row cost (p ∷ seen) here from v (inr h) = behind_known row cost seen here (λ q m. from q (inr m)) v h

  stops_known : (row : EdgeRow) (cost : ℕ) (seen : List PointRow) → Among row rows → ((p : PointRow) → Among p seen → Among p points) → (v : ℤ)
      → Among v (vertices (stops row cost seen)) → Among v known
  unfolding vertices
  stops_known row cost seen here from v (inl e) = subst (λ w. Among w known) e (source_known row here)
  stops_known row cost seen here from v (inr h) = behind_known row cost seen here from v h

  module _ (driving : Side) (directed : Bool) where
    ends_known : (link : LinkOf ℤ) → IsPointed rows points driving directed link → Among link.from known × Among link.to known
    ends_known link h =
        let row = h.1 in
        let p = h.4 in
        let here = Among-from_Any (λ r. IsPartOfRow points driving directed r link) rows h in
        let from : (x : PointRow) → Among x p.seen → Among x points = λ x m. Among-from_Contains x points ((p.are_seen.exactly x).0 (Contains-from_Among x p.seen m)).0 in
        let ends = parts_ends row.id p.direction (stops row p.cost p.seen) link (Among-from_Contains link (parts row.id p.direction (stops row p.cost p.seen)) p.is_part) in
        (stops_known row p.cost p.seen here from link.from ends.0, stops_known row p.cost p.seen here from link.to ends.1)

    vertex_known : (links : List (LinkOf ℤ)) → ((link : LinkOf ℤ) → Contains links link → IsPointed rows points driving directed link) → (v : ℤ) → IsVertex (Contains links) v
        → Among v known
    vertex_known links pointed v (link, has, at) =
        let ends = ends_known link (pointed link has) in
        ⊎_elim (λ e. subst (λ w. Among w known) (sym e) ends.0) (λ e. subst (λ w. Among w known) (sym e) ends.1) at

    pub ends_few : AreAccepted rows → ArePoints points → (links : List (LinkOf ℤ)) (names : List ℤ)
        → ((link : LinkOf ℤ) → Contains links link → IsPointed rows points driving directed link) → AreEnds links names → length names < 2 ^ 32
    unfolding known
    ends_few accepted are links names pointed ends =
        let apart = IsDistinct-from_apart int_eq names (λ i j d before inside. ap is_eq (ends.rise i j d before inside)) in
        let fewer = length-le_from_is_member int_eq_equiv names known apart (λ id there. list_any-from_Contains int_eq_equiv id known
        (Contains-from_Among id known (vertex_known links pointed id ((ends.ends id).0 (Contains-from_any (λ x y. (signed_Decides x y).0) id names there))))) in
        let sources = length-map rows (λ (row : EdgeRow). row.source) in
        let targets = length-map rows (λ (row : EdgeRow). row.target) in
        let ids = length-map points (λ (point : PointRow). neg_ℤ point.pid) in
        let two = length-append (map (λ (row : EdgeRow). row.target) rows) (map (λ (point : PointRow). neg_ℤ point.pid) points) in
        let three = length-append (map (λ (row : EdgeRow). row.source) rows) (map (λ (row : EdgeRow). row.target) rows ++ map (λ (point : PointRow). neg_ℤ point.pid) points) in
        omega (arith, accepted.few, are.few, fewer, sources, targets, ids, two, three)
