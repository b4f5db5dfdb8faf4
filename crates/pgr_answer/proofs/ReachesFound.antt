-- Roots with the vertices within the distance, by number, are a table of driving distance over the links of the edges.
use Rattle.std.proofs.Common.{◌≡◌, ℕ, ◌<◌, Bool, true, false, List, [], ◌∷◌, map, length, get_or, refl, sym, ap, ◌∙◌, subst, rules, arith}
use Rattle.std.proofs.lemmas.Grind.{common_steps}
use Rattle.std.specs.Prelude.{◌↔◌, ℤ, pos, All, Contains}
use Rattle.std.specs.Ordering.{nat_cmp, int_cmp}
use Rattle.std.proofs.lemmas.List.Elements.{Contains-get_or, All-contains}
use Rattle.pgr_outside.specs.Lists.{IsStrictlyRising}
use Rattle.pgr_outside.proofs.Lists.{Contains-map, Contains-from_map}
use Rattle.pgr_walks.specs.declared.link.LinkOf.{LinkOf}
use Rattle.pgr_walks.specs.Walk.{IsWalk, IsVertex, cost_of, hops_of}
use Rattle.pgr_walks.specs.Graph.{IsLinkOf}
use Rattle.pgr_numbers.specs.Names.{AreEnds, AreNumbered, id_at, named}
use Rattle.pgr_numbers.specs.Numbering.{IsNumberedWalk, HasExactly}
use Rattle.pgr_numbers.proofs.Order.{int_cmp-id_at, id_at_one_to_one}
use Rattle.pgr_rows.specs.declared.rows.Rows.{Rows}
use Rattle.pgr_rows.specs.declared.rows.Rows.TheVariants.{Reaches}
use Rattle.pgr_reach.specs.declared.reach.Reach.{Reach}
use Rattle.pgr_reach.specs.Within.{AreWithin}
use Rattle.pgr_reach.specs.Equicost.{listed}
use Rattle.pgr_answer.specs.Gathering.{AreNumbersOf}
use Rattle.pgr_answer.specs.DrivingDistance.{Rooted, AreReaches, AreShown, IsReachTable, reach_table}
use Rattle.pgr_answer.specs.Rooted.{named_row, named_list, IsListBelow}
use Rattle.pgr_answer.proofs.ReachById.{mapped_rise, within_by_ids, rows_below}
use Rattle.pgr_answer.proofs.ClosestById.{closest_by_ids, kept_below}
use Rattle.pgr_answer.proofs.WithinAlong.{within-over}

-- a list seen through one function and then another
map_twice : {X Y Z : Type 0} (f : X → Y) (g : Y → Z) (xs : List X) → map g (map f xs) ≡ map (λ x. g (f x)) xs
map_twice f g [] = refl
map_twice f g (x ∷ xs) = ap (λ l. g (f x) ∷ l) (map_twice f g xs)

-- the roots by id are the ids of the roots
roots_named : (names : List ℤ) (lists : List (Rooted ℕ))
    → map (λ (list : Rooted ℤ). list.0) (map (named_list names) lists) ≡ map (id_at names) (map (λ (list : Rooted ℕ). list.0) lists)
roots_named names lists = map_twice (named_list names) (λ (list : Rooted ℤ). list.0) lists ∙ sym (map_twice (λ (list : Rooted ℕ). list.0) (id_at names) lists)

-- all roots are numbers of names
pub roots_below : (names starts : List ℤ) (roots : List ℕ) → AreNumbersOf names starts roots → All (λ root. root < length names) roots
roots_below names starts roots are k d within = ((are (get_or roots k d)).0 (Contains-get_or roots k d within)).0

module _ (names : List ℤ) (links : List (LinkOf ℤ)) (numbers : List (LinkOf ℕ)) (size : ℕ) (ins : ℕ → List (LinkOf ℕ))
    (ends : AreEnds links names)
    (numbered : AreNumbered names links numbers)
    (exactly : HasExactly size ins numbers)
    (walk_named : (s t : ℕ) (walk : List (LinkOf ℕ)) → AreNumbered names links numbers → IsWalk (Contains numbers) s walk t
    → IsWalk (Contains links) (id_at names s) (map (named names) walk) (id_at names t))
    (walk_numbered : (s t : ℕ) (walk : List (LinkOf ℤ)) → AreNumbered names links numbers → s < length names → t < length names
    → IsWalk (Contains links) (id_at names s) walk (id_at names t) → (w : List (LinkOf ℕ)) × IsNumberedWalk names numbers s t walk w)
    (cost_kept : (walk : List (LinkOf ℕ)) → cost_of (map (named names) walk) ≡ cost_of walk)
    (hops_kept : (walk : List (LinkOf ℕ)) → hops_of (map (named names) walk) ≡ hops_of walk)
    (order_kept : (m n : ℕ) → IsStrictlyRising int_cmp names → m < length names → n < length names → int_cmp (id_at names m) (id_at names n) ≡ nat_cmp m n)
    (one_number : (m n : ℕ) → IsStrictlyRising int_cmp names → m < length names → n < length names → id_at names m ≡ id_at names n → m ≡ n)
    (starts : List ℤ) (distance : ℕ) (roots : List ℕ)
    (are_roots : AreNumbersOf names starts roots)
    (reaches : List Reach)
    (of_roots : map (λ (reach : Reach). reach.root) reaches ≡ roots)
    (within : All (λ (reach : Reach). AreWithin nat_cmp (IsLinkOf size ins) reach.root distance reach.rows.items) reaches) where
  -- the roots of the lists
  old_roots : map (λ (list : Rooted ℕ). list.0) (map listed reaches) ≡ roots
  old_roots = map_twice listed (λ (list : Rooted ℕ). list.0) reaches ∙ of_roots

  root_below : (list : Rooted ℕ) → Contains (map listed reaches) list → list.0 < length names
  root_below list has =
      ((are_roots list.0).0 (subst (λ rs. Contains rs list.0) old_roots (Contains-map (λ (list : Rooted ℕ). list.0) (map listed reaches) list has))).0

  old_within : (list : Rooted ℕ) → Contains (map listed reaches) list → AreWithin nat_cmp (Contains numbers) list.0 distance list.1
  old_within list has =
      let found = Contains-from_map listed reaches list has in
      let is = All-contains (λ (reach : Reach). AreWithin nat_cmp (IsLinkOf size ins) reach.root distance reach.rows.items) reaches found.0 within found.1 in
      let numbers_too = within-over nat_cmp (IsLinkOf size ins) (Contains numbers) exactly found.0.root distance found.0.rows.items is in
      subst (λ (l : Rooted ℕ). AreWithin nat_cmp (Contains numbers) l.0 distance l.1) (sym found.2) numbers_too

  old_below : (list : Rooted ℕ) → Contains (map listed reaches) list → IsListBelow (length names) list
  old_below list has = (
    root_below list has,
    rows_below names links numbers ends numbered walk_named walk_numbered cost_kept hops_kept order_kept one_number
        list.0 (root_below list has) distance list.1 (old_within list has),
  )

  -- the vertices that are shown are numbers of names
  lists_below : (equicost : Bool) (shown : List (Rooted ℕ)) → AreShown nat_cmp equicost (map listed reaches) shown → (list : Rooted ℕ) → Contains shown list
      → IsListBelow (length names) list
  lists_below true shown are list has =
      kept_below names (int_cmp-id_at names numbered.rise) (id_at_one_to_one names numbered.rise) (map listed reaches) old_below shown are list has
  lists_below false shown are list has = old_below list (subst (λ ls. Contains ls list) are has)

  pub shown_below : (equicost : Bool) (left : List Reach) → AreShown nat_cmp equicost (map listed reaches) (map listed left)
      → All (λ (reach : Reach). IsListBelow (length names) (listed reach)) left
  shown_below equicost left are k d inside =
      lists_below equicost (map listed left) are (listed (get_or left k d)) (Contains-map listed left (get_or left k d) (Contains-get_or left k d inside))

  -- the lists that are shown by id
  shown_named : (equicost : Bool) (shown : List (Rooted ℕ)) → AreShown nat_cmp equicost (map listed reaches) shown
      → AreShown int_cmp equicost (map (named_list names) (map listed reaches)) (map (named_list names) shown)
  shown_named true shown are = closest_by_ids names (int_cmp-id_at names numbered.rise) (id_at_one_to_one names numbered.rise) (map listed reaches) old_below shown are
  shown_named false shown are = ap (map (named_list names)) are

  module _ (P : LinkOf ℤ → Type 0) (same : (link : LinkOf ℤ) → Contains links link ↔ P link) (rise : IsStrictlyRising nat_cmp roots) where
    vertex_over : (id : ℤ) → IsVertex (Contains links) id ↔ IsVertex P id
    vertex_over id = (λ (link, has, at). (link, (same link).0 has, at), λ (link, has, at). (link, (same link).1 has, at))

    -- a start that is a vertex has a number among the roots
    into : (id : ℤ) → Contains starts id → Contains names id → Contains (map (id_at names) roots) id
    into id has (k, inside, is) =
        let at : id_at names k ≡ id = search (rules, arith, common_steps) in
        let among = (are_roots k).1 (inside, subst (Contains starts) (sym at) has) in
        subst (Contains (map (id_at names) roots)) at (Contains-map (id_at names) roots k among)

    -- the ids of the roots are the starts that are vertices
    ids_of_roots : (id : ℤ) → Contains (map (id_at names) roots) id ↔ (Contains starts id × IsVertex P id)
    ids_of_roots id = (
      λ has.
          let found = Contains-from_map (id_at names) roots id has in
          let is = (are_roots found.0).0 found.1 in
          let among : Contains names id = subst (Contains names) (sym found.2) (Contains-get_or names found.0 (pos 0) is.0) in
          (subst (Contains starts) (sym found.2) is.1, (vertex_over id).0 ((ends.ends id).0 among)),
      λ both. into id both.0 ((ends.ends id).1 ((vertex_over id).1 both.1)),
    )

    -- the lists by id
    reaches_named : AreReaches P starts distance (map (named_list names) (map listed reaches))
    reaches_named =
        let ids : map (λ (list : Rooted ℤ). list.0) (map (named_list names) (map listed reaches)) ≡ map (id_at names) roots =
        roots_named names (map listed reaches) ∙ ap (map (id_at names)) old_roots in
        record {
          roots = λ id. subst (λ ls. Contains ls id ↔ (Contains starts id × IsVertex P id)) (sym ids) (ids_of_roots id);
          rise = subst (IsStrictlyRising int_cmp) (sym ids) (mapped_rise nat_cmp int_cmp (id_at names) 0 roots
              (λ a b in_a in_b. int_cmp-id_at names numbered.rise a b ((are_roots a).0 in_a).0 ((are_roots b).0 in_b).0) rise);
          within = λ list has.
              let found = Contains-from_map (named_list names) (map listed reaches) list has in
              let number = found.0 in
              let by_ids = within_by_ids names links numbers ends numbered walk_named walk_numbered cost_kept hops_kept order_kept one_number
              number.0 (root_below number found.1) distance number.1 (old_within number found.1) in
              let over = within-over int_cmp (Contains links) P same (id_at names number.0) distance (map (named_row names) number.1) by_ids in
              subst (λ (l : Rooted ℤ). AreWithin int_cmp P l.0 distance l.1) (sym found.2) over;
        }

    -- the table
    pub reach_table_found : (equicost : Bool) (left : List Reach) (rows : Rows) → AreShown nat_cmp equicost (map listed reaches) (map listed left)
        → rows ≡ Reaches (reach_table (map (λ reach. named_list names (listed reach)) left))
        → IsReachTable P starts distance equicost rows
    reach_table_found equicost left rows are rows_are = record {
      lists = map (named_list names) (map listed reaches);
      reaches = reaches_named;
      shown = map (named_list names) (map listed left);
      are_shown = shown_named equicost (map listed left) are;
      rows_are = rows_are ∙ ap (λ l. Reaches (reach_table l)) (sym (map_twice listed (named_list names) left));
    }
