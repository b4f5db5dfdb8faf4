-- The parts of a link, stop by stop: what is appended and what is ahead make all of them.
use Rattle.std.proofs.Common.{◌≡◌, ℕ, ◌+◌, ◌<◌, ◌≤◌, Bool, true, false, not, cond, List, [], ◌∷◌, ◌++◌, length, map, get_or, drop, ℤ, refl, sym, ap, ◌∙◌, arith}
use Rattle.std.proofs.lemmas.List.{append_assoc, length-drop, get_or_default, drop_more, nil_from_length}
use Rattle.std.specs.List.{All, AllPairs}
use Rattle.pgr_outside.specs.declared.side.Side.{Side}
use Rattle.pgr_walks.specs.declared.link.LinkOf.{LinkOf}
use Rattle.pgr_table.specs.declared.row.EdgeRow.{EdgeRow}
use Rattle.pgr_table.specs.declared.row.PointRow.{PointRow}
use Rattle.pgr_table.specs.Points.{IsPoint}
use Rattle.pgr_graph.specs.declared.links.Direction.{Direction}
use Rattle.pgr_graph.specs.declared.links.Direction.TheVariants.{Forward, Backward}
use Rattle.pgr_points.specs.declared.stop.Stop.{Stop}
use Rattle.pgr_points.specs.Sight.{sees}
use Rattle.pgr_points.specs.Stops.{offset_of, stop_at, part, parts}
use Rattle.pgr_points.specs.Senses.{seen_of, parts_of_sense, parts_of_row, AreInOrder}
use Rattle.pgr_points.proofs.FractionLemmas.{offsets_rise, offset_within}

-- points of one edge in order have offsets in order, each at most the cost
pub offsets_in_order : (cost : ℕ) (a b : PointRow) → IsPoint a → IsPoint b → AreInOrder a b → offset_of cost a ≤ offset_of cost b
offsets_in_order cost a b good_a good_b in_order =
    offsets_rise cost a.over a.under b.over b.under (omega (arith, good_a.less)) (omega (arith, good_b.less)) in_order

pub offset_at_most : (cost : ℕ) (point : PointRow) → IsPoint point → offset_of cost point ≤ cost
offset_at_most cost point good = offset_within cost point.over point.under (omega (arith, good.less))

module _ (driving : Side) (directed : Bool) (edge : ℤ) (direction : Direction) (cost : ℕ) where
  -- the stops at those of the points that are seen, and then others
  abbrev ahead : List PointRow → List Stop → List Stop
  ahead points rest = map (stop_at cost) (seen_of driving directed direction points) ++ rest

  first_apart : (b : Bool) (p : PointRow) (qs : List PointRow) (rest : List Stop)
      → map (stop_at cost) (cond b (p ∷ qs) qs) ++ rest ≡ map (stop_at cost) (cond b (p ∷ []) []) ++ (map (stop_at cost) qs ++ rest)
  first_apart true p qs rest = refl
  first_apart false p qs rest = refl

  -- a point that is seen, and one that isn't
  pub pass_seen : (before after : List (LinkOf ℤ)) (stop : Stop) (p : PointRow) → sees directed driving direction p.side ≡ true
      → after ≡ before ++ part edge direction stop (stop_at cost p) ∷ [] → (rest : List Stop)
      → after ++ parts edge direction (stop_at cost p ∷ rest) ≡ before ++ parts edge direction (stop ∷ ahead (p ∷ []) rest)
  pass_seen before after stop p seen step rest =
      let here : ahead (p ∷ []) rest ≡ stop_at cost p ∷ rest = ap (λ b. map (stop_at cost) (cond b (p ∷ []) []) ++ rest) seen in
      ap (λ links. links ++ parts edge direction (stop_at cost p ∷ rest)) step
      ∙ (append_assoc before (part edge direction stop (stop_at cost p) ∷ []) (parts edge direction (stop_at cost p ∷ rest))
      ∙ sym (ap (λ more. before ++ parts edge direction (stop ∷ more)) here))

  pub pass_unseen : (before : List (LinkOf ℤ)) (stop : Stop) (p : PointRow) → sees directed driving direction p.side ≡ false → (rest : List Stop)
      → before ++ parts edge direction (stop ∷ rest) ≡ before ++ parts edge direction (stop ∷ ahead (p ∷ []) rest)
  pass_unseen before stop p unseen rest =
      let here : ahead (p ∷ []) rest ≡ rest = ap (λ b. map (stop_at cost) (cond b (p ∷ []) []) ++ rest) unseen in
      sym (ap (λ more. before ++ parts edge direction (stop ∷ more)) here)

  module _ (points : List PointRow) (last : Stop) (before all : List (LinkOf ℤ)) (i : ℕ) (stop : Stop)
      (so_far : before ++ parts edge direction (stop ∷ ahead (drop i points) (last ∷ [])) ≡ all) where
    -- one point more is passed
    pub parts_step : (after : List (LinkOf ℤ)) (next : Stop) (d : PointRow) → i < length points
        → ((rest : List Stop) → after ++ parts edge direction (next ∷ rest) ≡ before ++ parts edge direction (stop ∷ ahead (get_or points i d ∷ []) rest))
        → after ++ parts edge direction (next ∷ ahead (drop (i + 1) points) (last ∷ [])) ≡ all
    parts_step after next d inside passed =
        let p = get_or points i d in
        let rest = drop (i + 1) points in
        let split : ahead (p ∷ rest) (last ∷ []) ≡ ahead (p ∷ []) (ahead rest (last ∷ [])) =
        first_apart (sees directed driving direction p.side) p (seen_of driving directed direction rest) (last ∷ []) in
        let one_more : ahead (drop i points) (last ∷ []) ≡ ahead (p ∷ rest) (last ∷ []) = ap (λ xs. ahead xs (last ∷ [])) (drop_more points i d inside) in
        passed (ahead rest (last ∷ [])) ∙ (sym (ap (λ more. before ++ parts edge direction (stop ∷ more)) (one_more ∙ split)) ∙ so_far)

    -- all points are passed
    pub parts_end : (after : List (LinkOf ℤ)) → length points ≤ i → after ≡ before ++ part edge direction stop last ∷ [] → after ≡ all
    parts_end after past step =
        let size = length-drop i points in
        let none : drop i points ≡ [] = nil_from_length (drop i points) (omega arith) in
        step ∙ (sym (ap (λ xs. before ++ parts edge direction (stop ∷ ahead xs (last ∷ []))) none) ∙ so_far)

-- what a row appends, sense by sense
module _ (driving : Side) (row : EdgeRow) (points : List PointRow) (before first second : List (LinkOf ℤ)) where
  pub directed_row : (directed : Bool) → not directed ≡ false → first ≡ before ++ parts_of_sense row Forward row.cost (seen_of driving directed Forward points)
      → second ≡ first ++ parts_of_sense row Backward row.reverse_cost (seen_of driving directed Backward points) → second ≡ before ++ parts_of_row driving directed row points
  directed_row true is e f =
      let back = parts_of_sense row Backward row.reverse_cost (seen_of driving true Backward points) in
      f ∙ (ap (λ links. links ++ back) e ∙ append_assoc before (parts_of_sense row Forward row.cost (seen_of driving true Forward points)) back)
  directed_row false is e f = cc

  pub undirected_row : (directed : Bool) (third fourth : List (LinkOf ℤ)) → not directed ≡ true
      → first ≡ before ++ parts_of_sense row Forward row.cost (seen_of driving directed Forward points)
      → second ≡ first ++ parts_of_sense row Backward row.reverse_cost (seen_of driving directed Backward points)
      → third ≡ second ++ parts_of_sense row Backward row.cost (seen_of driving directed Backward points)
      → fourth ≡ third ++ parts_of_sense row Forward row.reverse_cost (seen_of driving directed Forward points) → fourth ≡ before ++ parts_of_row driving directed row points
  undirected_row true third fourth is e f g h = cc
  undirected_row false third fourth is e f g h =
      let a = parts_of_sense row Forward row.cost (seen_of driving false Forward points) in
      let b = parts_of_sense row Backward row.reverse_cost (seen_of driving false Backward points) in
      let m = parts_of_sense row Backward row.cost (seen_of driving false Backward points) in
      let n = parts_of_sense row Forward row.reverse_cost (seen_of driving false Forward points) in
      let two : second ≡ before ++ (a ++ b) = f ∙ (ap (λ links. links ++ b) e ∙ append_assoc before a b) in
      let three : third ≡ (before ++ (a ++ b)) ++ m = g ∙ ap (λ links. links ++ m) two in
      h ∙ (ap (λ links. links ++ n) three ∙ (append_assoc (before ++ (a ++ b)) m n ∙ append_assoc before (a ++ b) (m ++ n)))

-- a stop that isn't behind a point isn't behind those behind that
pub still_ahead : (cost : ℕ) (points : List PointRow) → All IsPoint points → AllPairs AreInOrder points → (i : ℕ) (stop : Stop) (e : PointRow) → i < length points
    → stop.offset ≤ offset_of cost (get_or points i e) → (k : ℕ) (d : PointRow) → i + 1 ≤ k → k < length points → stop.offset ≤ offset_of cost (get_or points k d)
still_ahead cost points good in_order i stop e inside here k d later inside_k =
    let same : get_or points i d ≡ get_or points i e = get_or_default points i d e inside in
    let step = offsets_in_order cost (get_or points i d) (get_or points k d) (good i d inside) (good k d inside_k) (in_order i k d (omega arith) inside_k) in
    let at : offset_of cost (get_or points i d) ≡ offset_of cost (get_or points i e) = ap (offset_of cost) same in
    omega (arith, step, at)

-- a stop that isn't behind a point lies within the link
pub still_within : (cost : ℕ) (points : List PointRow) → All IsPoint points → (i : ℕ) (stop : Stop) (e : PointRow) → i < length points
    → stop.offset ≤ offset_of cost (get_or points i e) → stop.offset ≤ cost
still_within cost points good i stop e inside here = let step = offset_at_most cost (get_or points i e) (good i e inside) in omega arith
