-- The points that a link sees: one list, as they stand along the edge, whatever list of rising places they are taken from.
use Rattle.std.proofs.Common.{◌≡◌, ℕ, ◌*◌, ◌<◌, ◌↔◌, Bool, true, false, List, length, get_or, ℤ, refl, sym, ap, subst, ◌∙◌, arith, Ordering, Less, Equal, Greater}
use Rattle.std.specs.Ordering.{nat_cmp, int_cmp, int_eq, ordering_then, ordering_reverse}
use Rattle.std.specs.List.{All, AllPairs, Contains, filter}
use Rattle.std.proofs.lemmas.List.Kept.{AllPairs-filter}
use Rattle.std.proofs.lemmas.List.Elements.{Contains-get_or}
use Rattle.std.proofs.lemmas.Cmp.{nat_cmp_total, int_cmp_total}
use Rattle.pgr_outside.specs.Lists.{IsStrictlyRising}
use Rattle.pgr_outside.specs.declared.side.Side.{Side}
use Rattle.pgr_walks.proofs.Repeats.{Among}
use Rattle.pgr_table.specs.declared.row.EdgeRow.{EdgeRow}
use Rattle.pgr_table.specs.declared.row.PointRow.{PointRow}
use Rattle.pgr_table.specs.Points.{IsPoint}
use Rattle.pgr_graph.specs.declared.links.Direction.{Direction}
use Rattle.pgr_points.specs.Sight.{sees}
use Rattle.pgr_points.specs.Fractions.{fraction_cmp, along_cmp}
use Rattle.pgr_points.specs.Pointed.{IsSeen, AreSeen}
use Rattle.pgr_points.specs.Places.{place_cmp}
use Rattle.pgr_points.specs.Senses.{points_of, seen_of}
use Rattle.pgr_walks.proofs.Membership.{Among-filter, Among-from_filter}
use Rattle.pgr_walks.proofs.Membership.{Among-from_Contains, Contains-from_Among}
use Rattle.pgr_points.proofs.SameLists.{Rises-from_rising, one_rising}
use Rattle.pgr_points.proofs.PlaceLemmas.{points_rise, is_edge, edge_is}

-- of two points at most one comes before the other
turned_less : (o p : Ordering) → o ≡ ordering_reverse p → o ≡ Less → p ≡ Less → ⊥
turned_less o Less e f g = cc
turned_less o Equal e f g = cc
turned_less o Greater e f g = cc

then_turned : (o p q r : Ordering) → o ≡ ordering_reverse q → p ≡ ordering_reverse r → ordering_then o p ≡ ordering_reverse (ordering_then q r)
then_turned o p Less r e f = ap (λ x. ordering_then x p) e
then_turned o p Equal r e f = ap (λ x. ordering_then x p) e ∙ f
then_turned o p Greater r e f = ap (λ x. ordering_then x p) e

pub along_apart : (a b : PointRow) → along_cmp a b ≡ Less → along_cmp b a ≡ Less → ⊥
along_apart a b = turned_less (along_cmp a b) (along_cmp b a)
    (then_turned (fraction_cmp a b) (int_cmp a.pid b.pid) (fraction_cmp b a) (int_cmp b.pid a.pid) (nat_cmp_total.antisymm (a.over * b.under) (b.over * a.under))
    (int_cmp_total.antisymm a.pid b.pid))

module _ (points : List PointRow) (driving : Side) (directed : Bool) (row : EdgeRow) (direction : Direction) where
  -- two lists of what a link sees are one
  pub seen_once : (seen other : List PointRow) → AreSeen points driving directed row direction seen → AreSeen points driving directed row direction other → seen ≡ other
  seen_once seen other h k = one_rising along_cmp along_apart seen other (Rises-from_rising along_cmp seen h.rise) (Rises-from_rising along_cmp other k.rise)
      (λ x m. Among-from_Contains x other ((k.exactly x).1 ((h.exactly x).0 (Contains-from_Among x seen m))))
      (λ x m. Among-from_Contains x seen ((h.exactly x).1 ((k.exactly x).0 (Contains-from_Among x other m))))

  module _ (placed : List PointRow) (rise : IsStrictlyRising place_cmp placed) (good : All IsPoint placed) (there : (x : PointRow) → Among x points → Among x placed)
      (back : (x : PointRow) → Among x placed → Among x points) where
    -- what it sees of them
    pub placed_seen : AreSeen points driving directed row direction (seen_of driving directed direction (points_of row.id placed))
    placed_seen = record {
      rise = AllPairs-filter (λ x y. along_cmp x y ≡ Less) (λ point. sees directed driving direction point.side) (points_of row.id placed) (points_rise placed row.id good rise);
      exactly = λ x. (
        λ h.
            let in_seen = Among-from_filter (λ (point : PointRow). sees directed driving direction point.side) (points_of row.id placed) x
            (Among-from_Contains x (seen_of driving directed direction (points_of row.id placed)) h) in
            let in_run = Among-from_filter (λ (point : PointRow). int_eq point.edge_id row.id) placed x in_seen.0 in
            (Contains-from_Among x points (back x in_run.0), (is_edge x.edge_id row.id in_run.1, in_seen.1)),
        λ h.
            let in_run = Among-filter (λ (point : PointRow). int_eq point.edge_id row.id) placed x (there x (Among-from_Contains x points h.0)) (edge_is x.edge_id row.id h.1.0) in
            Contains-from_Among x (seen_of driving directed direction (points_of row.id placed))
            (Among-filter (λ (point : PointRow). sees directed driving direction point.side) (points_of row.id placed) x in_run h.1.1),
      );
    }

-- points that are among points of a table are such
pub seen_good : (points others : List PointRow) → All IsPoint points → ((x : PointRow) → Among x others → Among x points) → All IsPoint others
seen_good points others good from k d inside =
    let x = get_or others k d in
    let there = from x (Among-from_Contains x others (Contains-get_or others k d inside)) in
    let at = Contains-from_Among x points there in
    subst IsPoint at.2 (good at.0 x at.1)
