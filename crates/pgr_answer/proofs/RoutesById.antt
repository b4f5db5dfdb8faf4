-- The first K routes between vertex numbers are the first K between the ids that they stand for.
use Rattle.std.proofs.Common.{◌≡◌, ℕ, ℤ, suc, ◌<◌, List, [], ◌∷◌, length, map, get_or, refl, sym, ap, ◌∙◌, subst, arith, Some}
use Rattle.std.specs.Prelude.{All}
use Rattle.std.specs.Ordering.{nat_cmp, int_cmp}
use Rattle.std.proofs.lemmas.Option.{same_Some, slice_get-get_or}
use Rattle.std.proofs.lemmas.List.{length-map, get_or-map}
use Rattle.std.proofs.lemmas.List.Elements.{All-nil, All-cons, All-get_or}
use Rattle.pgr_outside.specs.Lists.{IsStrictlyRising, IsWithoutRepeats}
use Rattle.pgr_walks.specs.declared.link.LinkOf.{LinkOf}
use Rattle.pgr_walks.specs.Walk.{IsWalk, IsLooplessRoute, vertices_of}
use Rattle.pgr_walks.specs.RouteOrder.{route_cmp}
use Rattle.pgr_numbers.specs.Names.{IsNumbered, id_at, named}
use Rattle.pgr_ksp.specs.Routes.{AreFirstK}
use Rattle.pgr_ksp.specs.FirstRoutes.{first_k_seen}
use Rattle.pgr_answer.proofs.ClassesById.{AreNamed}

-- seen through a function, a list repeats where the list does
repeats_back : (f : ℕ → ℤ) (xs : List ℕ) → IsWithoutRepeats (map f xs) → IsWithoutRepeats xs
repeats_back f xs once i j before inside same =
    let x : get_or xs i 0 ≡ get_or xs j 0 = same_Some (get_or xs i 0) (get_or xs j 0) (sym (slice_get-get_or xs i 0 (omega arith)) ∙ (same ∙ slice_get-get_or xs j 0 inside)) in
    let long = length-map xs f in
    let d = f 0 in
    let images : get_or (map f xs) i d ≡ get_or (map f xs) j d = get_or-map f xs i 0 d (omega arith) ∙ (ap f x ∙ sym (get_or-map f xs j 0 d inside)) in
    once i j before (omega (arith, inside, long))
    (slice_get-get_or (map f xs) i d (omega (arith, inside, long)) ∙ (ap Some images ∙ sym (slice_get-get_or (map f xs) j d (omega (arith, inside, long)))))

-- and only there, where the function tells its elements apart
repeats_there : (f : ℕ → ℤ) (P : ℕ → Type 0) → ((x y : ℕ) → P x → P y → f x ≡ f y → x ≡ y) → (xs : List ℕ) → All P xs → IsWithoutRepeats xs → IsWithoutRepeats (map f xs)
repeats_there f P apart xs all once i j before inside same =
    let long = length-map xs f in
    let d = f 0 in
    let images : get_or (map f xs) i d ≡ get_or (map f xs) j d = same_Some (get_or (map f xs) i d) (get_or (map f xs) j d)
    (sym (slice_get-get_or (map f xs) i d (omega (arith, inside))) ∙ (same ∙ slice_get-get_or (map f xs) j d inside)) in
    let within : j < length xs = omega (arith, inside, long) in
    let x : get_or xs i 0 ≡ get_or xs j 0 = apart (get_or xs i 0) (get_or xs j 0) (All-get_or P xs i 0 (omega (arith, within)) all) (All-get_or P xs j 0 within all)
    (sym (get_or-map f xs i 0 d (omega (arith, within))) ∙ (images ∙ get_or-map f xs j 0 d within)) in
    once i j before within (slice_get-get_or xs i 0 (omega (arith, within)) ∙ (ap Some x ∙ sym (slice_get-get_or xs j 0 within)))

module _ (names : List ℤ) (rise : IsStrictlyRising int_cmp names)
    (one_number : (m n : ℕ) → m < length names → n < length names → id_at names m ≡ id_at names n → m ≡ n)
    (order : (walk other : List (LinkOf ℕ)) → All (IsNumbered names) walk → All (IsNumbered names) other
    → route_cmp int_cmp (map (named names) walk) (map (named names) other) ≡ route_cmp nat_cmp walk other)
    (Has : LinkOf ℕ → Type 0) (HasId : LinkOf ℤ → Type 0) (are : AreNamed names Has HasId) where
  pub walk_there : (s : ℕ) (walk : List (LinkOf ℕ)) (t : ℕ) → IsWalk Has s walk t → IsWalk HasId (id_at names s) (map (named names) walk) (id_at names t)
  walk_there s [] t w = ap (id_at names) w
  walk_there s (link ∷ rest) t w = (are.to link w.0, ap (id_at names) w.1, walk_there link.to rest t w.2)

  pub walk_back : (s : ℕ) (walk : List (LinkOf ℤ)) (t : ℕ) → s < length names → t < length names → IsWalk HasId (id_at names s) walk (id_at names t)
      → (number : List (LinkOf ℕ)) × IsWalk Has s number t × (map (named names) number ≡ walk)
  walk_back s [] t s_in t_in w = ([], one_number s t s_in t_in w, refl)
  walk_back s (link ∷ rest) t s_in t_in w =
      let number = are.back link w.0 in
      let within : IsNumbered names number.0 = are.ends number.0 number.1.0 in
      let on : IsWalk HasId (id_at names number.0.to) rest (id_at names t) = subst (λ v. IsWalk HasId v rest (id_at names t)) (sym (ap (λ l. l.to) number.1.1)) w.2 in
      let later = walk_back number.0.to rest t within.1 t_in on in
      (number.0 ∷ later.0, (number.1.0, one_number number.0.from s within.0 s_in (ap (λ l. l.from) number.1.1 ∙ w.1), later.1), λ i. number.1.1 i ∷ later.2 i)

  pub numbered : (s : ℕ) (walk : List (LinkOf ℕ)) (t : ℕ) → IsWalk Has s walk t → All (IsNumbered names) walk
  numbered s [] t w = All-nil (IsNumbered names)
  numbered s (link ∷ rest) t w = All-cons (IsNumbered names) link rest (are.ends link w.0) (numbered link.to rest t w.2)

  ends_in : (walk : List (LinkOf ℕ)) → All (IsNumbered names) walk → All (λ v. v < length names) (map (λ (l : LinkOf ℕ). l.to) walk)
  ends_in [] all = All-nil (λ v. v < length names)
  ends_in (link ∷ rest) all = All-cons (λ v. v < length names) link.to (map (λ (l : LinkOf ℕ). l.to) rest) (all 0 link (omega arith)).1
      (ends_in rest (λ k d h. all (suc k) d (omega (arith, h))))

  tos : (walk : List (LinkOf ℕ)) → map (λ (l : LinkOf ℤ). l.to) (map (named names) walk) ≡ map (id_at names) (map (λ (l : LinkOf ℕ). l.to) walk)
  tos [] = refl
  tos (link ∷ rest) = ap (λ vs. id_at names link.to ∷ vs) (tos rest)

  vertices : (s : ℕ) (walk : List (LinkOf ℕ)) → vertices_of (id_at names s) (map (named names) walk) ≡ map (id_at names) (vertices_of s walk)
  vertices s walk = ap (λ vs. id_at names s ∷ vs) (tos walk)

  -- the vertices of a route are numbers of names
  pub first_numbered : (s t : ℕ) (route : List (LinkOf ℕ)) → IsLooplessRoute Has s route t → All (IsNumbered names) route
  first_numbered s t route is = numbered s route t is.is_walk

  module _ (s t : ℕ) (s_in : s < length names) (t_in : t < length names) where
    route_there : (route : List (LinkOf ℕ)) → IsLooplessRoute Has s route t → IsLooplessRoute HasId (id_at names s) (map (named names) route) (id_at names t)
    route_there route is = record {
      is_walk = walk_there s route t is.is_walk;
      ends_differ = λ same. is.ends_differ (one_number s t s_in t_in same);
      loopless = subst IsWithoutRepeats (sym (vertices s route)) (repeats_there (id_at names) (λ v. v < length names) one_number (vertices_of s route)
          (All-cons (λ v. v < length names) s (map (λ (l : LinkOf ℕ). l.to) route) s_in (ends_in route (numbered s route t is.is_walk))) is.loopless);
    }

    route_back : (other : List (LinkOf ℤ)) → IsLooplessRoute HasId (id_at names s) other (id_at names t)
        → (route : List (LinkOf ℕ)) × IsLooplessRoute Has s route t × (map (named names) route ≡ other)
    route_back other is =
        let walk = walk_back s other t s_in t_in is.is_walk in (
          walk.0,
          record {
            is_walk = walk.1;
            ends_differ = λ same. is.ends_differ (ap (id_at names) same);
            loopless = repeats_back (id_at names) (vertices_of s walk.0) (subst IsWithoutRepeats (ap (vertices_of (id_at names s)) (sym walk.2) ∙ vertices s walk.0) is.loopless);
          },
          walk.2,
        )

    -- the first K routes are the first K by ids
    pub first_by_ids : (k : ℕ) (given : List (List (LinkOf ℕ))) → AreFirstK nat_cmp Has s t k given
        → AreFirstK int_cmp HasId (id_at names s) (id_at names t) k (map (map (named names)) given)
    first_by_ids k given = first_k_seen nat_cmp int_cmp Has HasId s t (id_at names s) (id_at names t) (map (named names)) route_there route_back
        (λ a b is_a is_b. order a b (numbered s a t is_a.is_walk) (numbered s b t is_b.is_walk)) k given
