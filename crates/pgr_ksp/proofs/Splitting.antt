-- The routes of a class without its first route, place by place.
use Rattle.std.proofs.Common.{◌≡◌, ◌≢◌, ℕ, zero, suc, ◌+◌, ◌<◌, ◌≤◌, ◌==◌, Bool, true, false, not, cond, List, [], ◌∷◌, ◌++◌, length, take, drop, map, get_or, eqb, refl, sym, ap, subst, ◌∙◌, arith}
use Rattle.std.specs.Prelude.{All}
use Rattle.std.proofs.lemmas.Bool.{both_ways, not-true, eqb-true, eq-eqb, ne_eqb, false_from_ne_true}
use Rattle.std.proofs.lemmas.List.{append-nil, take-append-drop, take_more, drop_more}
use Rattle.pgr_walks.specs.declared.link.LinkOf.{LinkOf}
use Rattle.pgr_walks.specs.Walk.{IsWalk, IsWithoutRepeats, IsLooplessRoute, vertices_of, cost_of}
use Rattle.pgr_walks.specs.ListGraph.{holds}
use Rattle.pgr_ksp.specs.Classes.{is_same, goes_on, among, starts, one, taboo_at}
use Rattle.pgr_ksp.proofs.Alike.{Apart, AreApart, apart_from, apart_to, apart_split, apart_join, vertices-append, walk-append, walk-behind, or_false, end_among, same_is, same_itself, link_itself}
use Rattle.pgr_ksp.proofs.Prefixes.{goes_split, goes_step, goes_freely}

-- the links before a place are a walk to where the link there begins
pub walk-take : (Has : LinkOf ℕ → Type 0) (s t : ℕ) (links : List (LinkOf ℕ)) (i : ℕ) (d : LinkOf ℕ) → i < length links → IsWalk Has s links t
    → IsWalk Has s (take i links) (get_or links i d).from
walk-take Has s t [] i d h w = absurd (omega arith)
walk-take Has s t (x ∷ links) zero d h w = sym w.1
walk-take Has s t (x ∷ links) (suc i) d h w = (w.0, w.1, walk-take Has x.to t links i d (omega arith) w.2)

-- where the front of a loopless route ends at a place before its end: it comes to no vertex twice, and not to the end
pub record IsPlace (Has : LinkOf ℕ → Type 0) (s t : ℕ) (links : List (LinkOf ℕ)) (i v : ℕ) : Type 0 where
  pub walk : IsWalk Has s (take i links) v
  pub apart : IsWithoutRepeats (vertices_of s (take i links))
  pub inner : v ≢ t

pub place_of : (Has : LinkOf ℕ → Type 0) (s t : ℕ) (links : List (LinkOf ℕ)) (i : ℕ) (d : LinkOf ℕ) → i < length links → IsLooplessRoute Has s links t
    → IsPlace Has s t links i (get_or links i d).from
place_of Has s t links i d h route =
    let v = (get_or links i d).from in
    let walk = walk-take Has s t links i d h route.is_walk in
    let whole : links ≡ take i links ++ get_or links i d ∷ drop (i + 1) links = sym (take-append-drop i links) ∙ ap (λ rest. take i links ++ rest) (drop_more links i d h) in
    let P : List (LinkOf ℕ) → Type 0 = λ ls. IsLooplessRoute Has s ls t in
    let again = subst P whole route in
    let split = apart_split (starts (take i links)) (vertices_of v (get_or links i d ∷ drop (i + 1) links))
    (subst Apart (vertices-append Has s v (take i links) (get_or links i d ∷ drop (i + 1) links) walk)
    (apart_from (vertices_of s (take i links ++ get_or links i d ∷ drop (i + 1) links)) again.loopless)) in
    let behind = walk-behind Has s v t (take i links) (get_or links i d ∷ drop (i + 1) links) walk again.is_walk in
    let clear : AreApart (starts (take i links)) (v ∷ []) = record {
      left = split.left;
      right = (refl, tt);
      none_common = λ w e. ap (λ b. cond b true false) ((or_false (eqb w v) (among (vertices_of (get_or links i d).to (drop (i + 1) links)) w) (split.none_common w e)).0);
    } in
    record {
      walk = walk;
      apart = apart_to (vertices_of s (take i links)) (subst Apart
          (sym (ap (vertices_of s) (sym (append-nil (take i links))) ∙ vertices-append Has s v (take i links) [] walk)) (apart_join (starts (take i links)) (v ∷ []) clear));
      inner = λ same. both_ways (among (vertices_of (get_or links i d).to (drop (i + 1) links)) v) split.right.0
          (ap (among (vertices_of (get_or links i d).to (drop (i + 1) links))) same ∙ end_among Has v t (get_or links i d) (drop (i + 1) links) behind);
    }

-- a loopless route that begins with another to the same end is that one
pub ends_same : (Has : LinkOf ℕ → Type 0) (s t : ℕ) (links route : List (LinkOf ℕ)) → IsLooplessRoute Has s links t → IsLooplessRoute Has s route t
    → goes_on links [] route ≡ is_same route links
ends_same Has s t links route first other = by (goes_on links [] route) refl (is_same route links) refl
  where
    nothing : (tail : List (LinkOf ℕ)) → route ≡ links ++ tail → route ≡ links
    nothing [] e = e ∙ append-nil links
    nothing (link ∷ tail) e =
        let P : List (LinkOf ℕ) → Type 0 = λ ls. IsLooplessRoute Has s ls t in
        let whole = subst P e other in
        let walk = walk-behind Has s t t links (link ∷ tail) first.is_walk whole.is_walk in
        let split = apart_split (starts links) (vertices_of t (link ∷ tail)) (subst Apart (vertices-append Has s t links (link ∷ tail) first.is_walk)
        (apart_from (vertices_of s (links ++ link ∷ tail)) whole.loopless)) in
        absurd (both_ways (among (vertices_of link.to tail) t) split.right.0 (end_among Has t t link tail walk))

    itself : (ls : List (LinkOf ℕ)) → goes_on ls [] ls ≡ true
    itself [] = refl
    itself (x ∷ ls) = ap (λ b. cond b (goes_on ls [] ls) false) (link_itself x) ∙ itself ls

    by : (b : Bool) → goes_on links [] route ≡ b → (c : Bool) → is_same route links ≡ c → goes_on links [] route ≡ is_same route links
    by true e true f = e ∙ sym f
    by true e false f =
        let parts = goes_split links [] route e in
        absurd (both_ways (is_same route links) f (ap (λ ls. is_same ls links) (nothing parts.0 parts.1) ∙ same_itself links))
    by false e true f = absurd (both_ways (goes_on links [] route) e (ap (goes_on links []) (same_is route links f) ∙ itself links))
    by false e false f = e ∙ sym f

-- a route with a next link that isn't taboo: the first link behind the kept ones of a class's own route isn't
pub own_link_free : (links : List (LinkOf ℕ)) (kept : ℕ) (taboo : List (LinkOf ℕ)) (d : LinkOf ℕ) → kept < length links → goes_on (take kept links) taboo links ≡ true
    → holds taboo (get_or links kept d) ≡ false
own_link_free [] kept taboo d h e = absurd (omega arith)
own_link_free (x ∷ links) zero taboo d h e = not-true (holds taboo x) e
own_link_free (x ∷ links) (suc kept) taboo d h e = own_link_free links kept taboo d (omega arith)
    (sym (ap (λ b. cond b (goes_on (take kept links) taboo links) false) (link_itself x)) ∙ e)

-- so with the class's taboo links at its own place, and none at a later one
pub place_free : (links : List (LinkOf ℕ)) (kept : ℕ) (taboo : List (LinkOf ℕ)) (i : ℕ) (d : LinkOf ℕ) → kept < length links
    → goes_on (take kept links) taboo links ≡ true → holds (taboo_at kept taboo i) (get_or links i d) ≡ false
place_free links kept taboo i d h e = by (eqb i kept) refl
  where
    by : (b : Bool) → eqb i kept ≡ b → holds (cond b taboo []) (get_or links i d) ≡ false
    by true f = ap (λ n. holds taboo (get_or links n d)) (eqb-true i kept f) ∙ own_link_free links kept taboo d h e
    by false f = refl

-- the routes that are left at a place, and those that are left behind it with the class that is split off there
pub split_step : (links : List (LinkOf ℕ)) (kept : ℕ) (taboo : List (LinkOf ℕ)) (i : ℕ) (d : LinkOf ℕ) (route : List (LinkOf ℕ)) → kept < length links → kept ≤ i
    → i < length links → goes_on (take kept links) taboo links ≡ true
    → one (goes_on (take i links) (taboo_at kept taboo i) route)
    ≡ one (goes_on (take i links) (taboo_at kept taboo i ++ get_or links i d ∷ []) route) + one (goes_on (take (i + 1) links) (taboo_at kept taboo (i + 1)) route)
split_step links kept taboo i d route within from inside own =
    let none : taboo_at kept taboo (i + 1) ≡ [] = ap (λ b. cond b taboo []) (ne_eqb (i + 1) kept (λ e. absurd (omega arith))) in
    goes_step (take i links) (taboo_at kept taboo i) (get_or links i d) route (place_free links kept taboo i d within own)
    ∙ ap (λ n. one (goes_on (take i links) (taboo_at kept taboo i ++ get_or links i d ∷ []) route) + n)
    ((λ k. one (goes_on (sym (take_more links i d inside) k) (sym none k) route)))
