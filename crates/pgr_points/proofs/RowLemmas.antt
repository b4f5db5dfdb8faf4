-- The parts that a row appends are exactly those of the links that it gives.
use Rattle.std.proofs.Common.{◌≡◌, ℕ, ◌⊎◌, inl, inr, ⊎_elim, Bool, true, false, List, ◌++◌, ℤ, pos, negsuc, refl, sym, ap, subst}
use Rattle.std.specs.List.{All, Contains}
use Rattle.pgr_outside.specs.Lists.{IsStrictlyRising}
use Rattle.pgr_outside.specs.declared.side.Side.{Side}
use Rattle.pgr_walks.specs.declared.link.LinkOf.{LinkOf}
use Rattle.pgr_walks.proofs.Repeats.{Among}
use Rattle.pgr_table.specs.declared.row.EdgeRow.{EdgeRow}
use Rattle.pgr_table.specs.declared.row.PointRow.{PointRow}
use Rattle.pgr_table.specs.Points.{IsPoint}
use Rattle.pgr_graph.specs.declared.links.Direction.{Direction}
use Rattle.pgr_graph.specs.declared.links.Direction.TheVariants.{Forward, Backward}
use Rattle.pgr_graph.specs.Links.{HasSense}
use Rattle.pgr_points.specs.Stops.{stops, parts}
use Rattle.pgr_points.specs.Pointed.{AreSeen, IsPartOfRow}
use Rattle.pgr_points.specs.Places.{place_cmp}
use Rattle.pgr_points.specs.Senses.{points_of, seen_of, parts_of_sense, parts_of_row}
use Rattle.pgr_walks.proofs.Membership.{Among-left, Among-right, Among-cases}
use Rattle.pgr_walks.proofs.Membership.{Among-from_Contains, Contains-from_Among}
use Rattle.pgr_points.proofs.SeenLemmas.{seen_once, placed_seen}

module _ (row : EdgeRow) (direction : Direction) (seen : List PointRow) (link : LinkOf ℤ) where
  -- what a cost gives, where it isn't negative
  pub sense_cases : (cost : ℤ) → Among link (parts_of_sense row direction cost seen) → (n : ℕ) × ((cost ≡ pos n) × Among link (parts row.id direction (stops row n seen)))
  sense_cases (pos n) h = (n, (refl, h))
  sense_cases (negsuc n) h = absurd h

  pub sense_from : (cost : ℤ) (n : ℕ) → cost ≡ pos n → Among link (parts row.id direction (stops row n seen)) → Among link (parts_of_sense row direction cost seen)
  sense_from cost n e h = subst (λ c. Among link (parts_of_sense row direction c seen)) (sym e) h

module _ (driving : Side) (row : EdgeRow) (run : List PointRow) (link : LinkOf ℤ) where
  -- what a row appends in the undirected graph, in order
  abbrev there : List (LinkOf ℤ)
  there = parts_of_sense row Forward row.cost (seen_of driving false Forward run)

  abbrev back : List (LinkOf ℤ)
  back = parts_of_sense row Backward row.reverse_cost (seen_of driving false Backward run)

  abbrev there_too : List (LinkOf ℤ)
  there_too = parts_of_sense row Backward row.cost (seen_of driving false Backward run)

  abbrev back_too : List (LinkOf ℤ)
  back_too = parts_of_sense row Forward row.reverse_cost (seen_of driving false Forward run)

  -- a part of a sense is appended
  into_row : (directed : Bool) (direction : Direction) (n : ℕ) → HasSense directed row direction n
      → Among link (parts row.id direction (stops row n (seen_of driving directed direction run))) → Among link (parts_of_row driving directed row run)
  into_row true Forward n sense h =
      Among-left link (parts_of_sense row Forward row.cost (seen_of driving true Forward run)) (parts_of_sense row Backward row.reverse_cost (seen_of driving true Backward run))
      (sense_from row Forward (seen_of driving true Forward run) link row.cost n sense h)
  into_row true Backward n sense h =
      Among-right link (parts_of_sense row Forward row.cost (seen_of driving true Forward run)) (parts_of_sense row Backward row.reverse_cost (seen_of driving true Backward run))
      (sense_from row Backward (seen_of driving true Backward run) link row.reverse_cost n sense h)
  into_row false Forward n (inl sense) h =
      Among-left link (there ++ back) (there_too ++ back_too) (Among-left link there back (sense_from row Forward (seen_of driving false Forward run) link row.cost n sense h))
  into_row false Forward n (inr sense) h =
      Among-right link (there ++ back) (there_too ++ back_too) (Among-right link there_too back_too (sense_from row Forward (seen_of driving false Forward run) link
      row.reverse_cost n sense h))
  into_row false Backward n (inl sense) h =
      Among-right link (there ++ back) (there_too ++ back_too) (Among-left link there_too back_too (sense_from row Backward (seen_of driving false Backward run) link row.cost
      n sense h))
  into_row false Backward n (inr sense) h =
      Among-left link (there ++ back) (there_too ++ back_too) (Among-right link there back (sense_from row Backward (seen_of driving false Backward run) link row.reverse_cost
      n sense h))

module _ (points : List PointRow) (driving : Side) (row : EdgeRow) (link : LinkOf ℤ) (placed : List PointRow) (rise : IsStrictlyRising place_cmp placed) (good : All IsPoint placed)
    (there : (x : PointRow) → Among x points → Among x placed) (back : (x : PointRow) → Among x placed → Among x points) where
  -- what is appended is a part of a link of the row
  part_of : (directed : Bool) (direction : Direction) (n : ℕ) → HasSense directed row direction n
      → Among link (parts row.id direction (stops row n (seen_of driving directed direction (points_of row.id placed)))) → IsPartOfRow points driving directed row link
  part_of directed direction n sense h = record {
    direction = direction;
    cost = n;
    sense = sense;
    seen = seen_of driving directed direction (points_of row.id placed);
    are_seen = placed_seen points driving directed row direction placed rise good there back;
    is_part = Contains-from_Among link (parts row.id direction (stops row n (seen_of driving directed direction (points_of row.id placed)))) h;
  }

  of_sense : (directed : Bool) (direction : Direction) (cost : ℤ) → ((n : ℕ) → cost ≡ pos n → HasSense directed row direction n)
      → Among link (parts_of_sense row direction cost (seen_of driving directed direction (points_of row.id placed))) → IsPartOfRow points driving directed row link
  of_sense directed direction cost sense h =
      let r = sense_cases row direction (seen_of driving directed direction (points_of row.id placed)) link cost h in
      part_of directed direction r.0 (sense r.0 r.1.0) r.1.1

  pub row_from : (directed : Bool) → Among link (parts_of_row driving directed row (points_of row.id placed)) → IsPartOfRow points driving directed row link
  row_from true h = ⊎_elim (of_sense true Forward row.cost (λ n e. e)) (of_sense true Backward row.reverse_cost (λ n e. e)) (Among-cases link _ _ h)
  row_from false h = ⊎_elim
      (λ k. ⊎_elim (of_sense false Forward row.cost (λ n e. inl e)) (of_sense false Backward row.reverse_cost (λ n e. inr e)) (Among-cases link _ _ k))
      (λ k. ⊎_elim (of_sense false Backward row.cost (λ n e. inl e)) (of_sense false Forward row.reverse_cost (λ n e. inr e)) (Among-cases link _ _ k))
      (Among-cases link _ _ h)

  -- and each such part is appended
  pub row_to : (directed : Bool) → IsPartOfRow points driving directed row link → Among link (parts_of_row driving directed row (points_of row.id placed))
  row_to directed h =
      let seen_is : h.seen ≡ seen_of driving directed h.direction (points_of row.id placed) =
      seen_once points driving directed row h.direction h.seen (seen_of driving directed h.direction (points_of row.id placed)) h.are_seen
      (placed_seen points driving directed row h.direction placed rise good there back) in
      let among : Among link (parts row.id h.direction (stops row h.cost h.seen)) = Among-from_Contains link (parts row.id h.direction (stops row h.cost h.seen)) h.is_part in
      into_row driving row (points_of row.id placed) link directed h.direction h.cost h.sense
      (subst (λ seen. Among link (parts row.id h.direction (stops row h.cost seen))) seen_is among)
