-- Walks by numbers and walks by ids.
use Rattle.std.proofs.Common.{◌≡◌, ◌≢◌, ℕ, ◌<◌, List, [], ◌∷◌, length, map, get_or, refl, sym, ap, subst, ◌∙◌, arith, ℤ, pos, Some}
use Rattle.std.specs.Ordering.{int_cmp, nat_cmp}
use Rattle.std.specs.List.{All, AllByRecursion, Contains}
use Rattle.std.specs.Option.{option_map}
use Rattle.std.proofs.lemmas.List.{length-map}
use Rattle.std.proofs.lemmas.List.Elements.{All-contains, All-from_recursion}
use Rattle.std.proofs.lemmas.Option.{slice_get-map, slice_get-get_or, same_Some}
use Rattle.pgr_outside.specs.Lists.{IsWithoutRepeats}
use Rattle.pgr_walks.specs.declared.link.LinkOf.{LinkOf}
use Rattle.pgr_walks.specs.Walk.{IsWalk, IsLooplessRoute, vertices_of}
use Rattle.pgr_walks.specs.RouteOrder.{route_cmp, IsLeast}
use Rattle.pgr_walks.specs.Graph.{Fits}
use Rattle.pgr_numbers.specs.Names.{AreNumbered, IsNumbered, id_at, named}
use Rattle.pgr_numbers.specs.Numbering.{IsNumberedWalk}
use Rattle.pgr_outside.proofs.Lists.{Contains-map, Contains-from_map}
use Rattle.pgr_numbers.proofs.Order.{id_at_one_to_one, named_one_to_one, map_one_to_one, route_cmp-named, cost_of-named}

-- images of elements that differ differ, so a list without repeats has images without repeats
IsWithoutRepeats-map : {X Y : Type 0} (f : X → Y) (P : X → Type 0) → ((x y : X) → P x → P y → f x ≡ f y → x ≡ y) → (xs : List X) (d : X) → All P xs
    → IsWithoutRepeats xs → IsWithoutRepeats (map f xs)
IsWithoutRepeats-map f P one_to_one xs d all once i j before inside same =
    let j_inside : j < length xs = rw length-map at inside in
    let i_inside : i < length xs = omega arith in
    let i_is = slice_get-get_or xs i d i_inside in
    let j_is = slice_get-get_or xs j d j_inside in
    let i_image = slice_get-map f xs i ∙ ap (option_map f) i_is in
    let j_image = slice_get-map f xs j ∙ ap (option_map f) j_is in
    let element = one_to_one (get_or xs i d) (get_or xs j d) (all i d i_inside) (all j d j_inside) (same_Some _ _ (sym i_image ∙ (same ∙ j_image))) in
    once i j before j_inside (i_is ∙ (ap Some element ∙ sym j_is))

-- a list whose images are without repeats is without repeats
IsWithoutRepeats-from_map : {X Y : Type 0} (f : X → Y) (xs : List X) → IsWithoutRepeats (map f xs) → IsWithoutRepeats xs
IsWithoutRepeats-from_map f xs once i j before inside same =
    once i j before (rw length-map inside) (slice_get-map f xs i ∙ (ap (option_map f) same ∙ sym (slice_get-map f xs j)))

-- the vertices of the walk by ids are those that the numbers stand for
ends_named : (names : List ℤ) (walk : List (LinkOf ℕ)) → map (id_at names) (map (λ link. link.to) walk) ≡ map (λ link. link.to) (map (named names) walk)
ends_named names [] = refl
ends_named names (link ∷ rest) = ap (λ vs. id_at names link.to ∷ vs) (ends_named names rest)

-- the start with them
vertices_of-named : (names : List ℤ) (s : ℕ) (walk : List (LinkOf ℕ)) → map (id_at names) (vertices_of s walk) ≡ vertices_of (id_at names s) (map (named names) walk)
vertices_of-named names s walk = ap (λ vs. id_at names s ∷ vs) (ends_named names walk)

module _ (names : List ℤ) (links : List (LinkOf ℤ)) (numbers : List (LinkOf ℕ)) (numbered : AreNumbered names links numbers) where
  -- a numbered link stands for one of the links
  Contains-named : (number : LinkOf ℕ) → Contains numbers number → Contains links (named names number)
  Contains-named number there = subst (λ xs. Contains xs (named names number)) numbered.same (Contains-map (named names) numbers number there)

  -- and each of the links is what a numbered link stands for
  number_of : (link : LinkOf ℤ) → Contains links link → (number : LinkOf ℕ) × Contains numbers number × (link ≡ named names number)
  number_of link there =
      Contains-from_map (named names) numbers link (subst (λ xs. Contains xs link) (sym numbered.same) there)

  -- a walk over numbered links has numbered links alone
  pub walk_ends : (s t : ℕ) (walk : List (LinkOf ℕ)) → IsWalk (Contains numbers) s walk t → AllByRecursion (IsNumbered names) walk
  walk_ends s t [] leads = tt
  walk_ends s t (link ∷ rest) leads = (All-contains (IsNumbered names) numbers link numbered.ends leads.0, walk_ends link.to t rest leads.2)

  -- a walk by numbers stands for a walk by ids
  pub IsWalk-named : (s t : ℕ) (walk : List (LinkOf ℕ)) → IsWalk (Contains numbers) s walk t → IsWalk (Contains links) (id_at names s) (map (named names) walk) (id_at names t)
  IsWalk-named s t [] leads = ap (id_at names) leads
  IsWalk-named s t (link ∷ rest) leads = (Contains-named link leads.0, ap (id_at names) leads.1, IsWalk-named link.to t rest leads.2)

  -- a walk from a number comes to numbers alone
  vertices_below : (s t : ℕ) (walk : List (LinkOf ℕ)) → s < length names → AllByRecursion (IsNumbered names) walk → AllByRecursion (λ v. v < length names) (vertices_of s walk)
  vertices_below s t [] below ends = (below, tt)
  vertices_below s t (link ∷ rest) below ends = (below, vertices_below link.to t rest ends.0.1 ends.1)

  -- and ends at one
  end_below : (s t : ℕ) (walk : List (LinkOf ℕ)) → s < length names → IsWalk (Contains numbers) s walk t → t < length names
  end_below s t [] below leads = subst (λ v. v < length names) leads below
  end_below s t (link ∷ rest) below leads = end_below link.to t rest (All-contains (IsNumbered names) numbers link numbered.ends leads.0).1 leads.2

  -- links without repeats are numbered without repeats
  pub once_numbered : IsWithoutRepeats links → IsWithoutRepeats numbers
  once_numbered once = IsWithoutRepeats-from_map (named names) numbers (subst IsWithoutRepeats (sym numbered.same) once)

  -- and numbered links without repeats stand for links without repeats
  pub once_named : IsWithoutRepeats numbers → IsWithoutRepeats links
  once_named once =
      subst IsWithoutRepeats numbered.same
      (IsWithoutRepeats-map (named names) (IsNumbered names) (named_one_to_one names numbered.rise) numbers
      (record { from = 0; edge = pos 0; cost = 0; to = 0 }) numbered.ends once)

  -- a walk by ids between names is what some walk by numbers stands for
  pub numbered_walk : (s t : ℕ) (walk : List (LinkOf ℤ)) → s < length names → t < length names → IsWalk (Contains links) (id_at names s) walk (id_at names t)
      → (numbered_links : List (LinkOf ℕ)) × IsNumberedWalk names numbers s t walk numbered_links
  numbered_walk s t [] s_below t_below leads = ([], record { is_walk = id_at_one_to_one names numbered.rise s t s_below t_below leads; same = refl })
  numbered_walk s t (link ∷ rest) s_below t_below leads =
      let found = number_of link leads.0 in
      let number = found.0 in
      let ends = All-contains (IsNumbered names) numbers number numbered.ends found.1 in
      let from : number.from ≡ s = id_at_one_to_one names numbered.rise number.from s ends.0 s_below (ap (λ l. l.from) (sym found.2) ∙ leads.1) in
      let on = subst (λ id. IsWalk (Contains links) id rest (id_at names t)) (ap (λ l. l.to) found.2) leads.2 in
      let others = numbered_walk number.to t rest ends.1 t_below on in (
        number ∷ others.0,
        record {
          is_walk = (found.1, from, others.1.is_walk);
          same = ap (λ l. l ∷ map (named names) others.0) (sym found.2) ∙ ap (λ ls. link ∷ ls) others.1.same;
        },
      )

  -- and only one
  pub one_numbered_walk : (s t : ℕ) (walk : List (LinkOf ℤ)) (a b : List (LinkOf ℕ)) → IsNumberedWalk names numbers s t walk a → IsNumberedWalk names numbers s t walk b → a ≡ b
  one_numbered_walk s t walk a b a_is b_is =
      map_one_to_one names numbered.rise a b (walk_ends s t a a_is.is_walk) (walk_ends s t b b_is.is_walk) (a_is.same ∙ sym b_is.same)

  -- a loopless route by numbers stands for a loopless route by ids
  IsLooplessRoute-named : (s t : ℕ) (walk : List (LinkOf ℕ)) → s < length names → IsLooplessRoute (Contains numbers) s walk t
      → IsLooplessRoute (Contains links) (id_at names s) (map (named names) walk) (id_at names t)
  IsLooplessRoute-named s t walk below route = record {
    is_walk = IsWalk-named s t walk route.is_walk;
    ends_differ = λ same. route.ends_differ (id_at_one_to_one names numbered.rise s t below (end_below s t walk below route.is_walk) same);
    loopless = subst IsWithoutRepeats (vertices_of-named names s walk)
        (IsWithoutRepeats-map (id_at names) (λ v. v < length names) (id_at_one_to_one names numbered.rise) (vertices_of s walk) 0
        (All-from_recursion (λ v. v < length names) (vertices_of s walk) (vertices_below s t walk below (walk_ends s t walk route.is_walk))) route.loopless);
  }

  -- a route between different ends begins at a number
  start_below : (s t : ℕ) (walk : List (LinkOf ℕ)) → s ≢ t → IsWalk (Contains numbers) s walk t → s < length names
  start_below s t [] differ leads = absurd (differ leads)
  start_below s t (link ∷ rest) differ leads =
      subst (λ v. v < length names) leads.1 (All-contains (IsNumbered names) numbers link numbered.ends leads.0).0

  -- where the links fit, the numbered links fit
  pub Fits-numbered : Fits (Contains links) → Fits (Contains numbers)
  Fits-numbered fits = record {
    links = λ link there. fits.links (named names link) (Contains-named link there);
    routes = λ s t walk route.
        let below = start_below s t walk route.ends_differ route.is_walk in
        let cost = fits.routes (id_at names s) (id_at names t) (map (named names) walk) (IsLooplessRoute-named s t walk below route) in
        rw (← cost_of-named names walk) cost;
  }

  -- of some walks by numbers and the walks by ids that they stand for, the least stands for the least
  pub IsLeast-turned : (P : List (LinkOf ℕ) → Type 0) (Q : List (LinkOf ℤ) → Type 0)
      → ((walk : List (LinkOf ℕ)) → P walk → AllByRecursion (IsNumbered names) walk × Q (map (named names) walk))
      → ((walk : List (LinkOf ℤ)) → Q walk → (turned : List (LinkOf ℕ)) × P turned × (map (named names) turned ≡ walk)) → (walk : List (LinkOf ℕ))
      → IsLeast nat_cmp P walk → IsLeast int_cmp Q (map (named names) walk)
  IsLeast-turned P Q to from walk least = record {
    belongs = (to walk least.belongs).1;
    precedes = λ other leads differs.
        let found = from other leads in
        let before = least.precedes found.0 found.1 (λ same. differs (sym found.2 ∙ ap (map (named names)) same)) in
        let kept = route_cmp-named names numbered.rise walk found.0 (to walk least.belongs).0 (to found.0 found.1).0 in
        ap (λ w. route_cmp int_cmp (map (named names) walk) w) (sym found.2) ∙ (kept ∙ before);
  }

  -- the least walk by numbers stands for the least walk by ids
  pub IsLeast-named : (s t : ℕ) (walk : List (LinkOf ℕ)) → s < length names → t < length names → IsLeast nat_cmp (λ w. IsWalk (Contains numbers) s w t) walk
      → IsLeast int_cmp (λ w. IsWalk (Contains links) (id_at names s) w (id_at names t)) (map (named names) walk)
  IsLeast-named s t walk s_below t_below least =
      IsLeast-turned (λ w. IsWalk (Contains numbers) s w t) (λ w. IsWalk (Contains links) (id_at names s) w (id_at names t))
      (λ w leads. (walk_ends s t w leads, IsWalk-named s t w leads))
      (λ w leads. let found = numbered_walk s t w s_below t_below leads in (found.0, found.1.is_walk, found.1.same))
      walk
      least

  -- where no walk is by numbers, none is by ids
  pub none_named : (s t : ℕ) → s < length names → t < length names → ((walk : List (LinkOf ℕ)) → IsWalk (Contains numbers) s walk t → ⊥)
      → (walk : List (LinkOf ℤ)) → IsWalk (Contains links) (id_at names s) walk (id_at names t) → ⊥
  none_named s t s_below t_below none walk leads =
      let found = numbered_walk s t walk s_below t_below leads in
      none found.0 found.1.is_walk
