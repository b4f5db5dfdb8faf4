-- Tests of links and routes, and vertices that come once.
use Rattle.std.proofs.Common.{◌≡◌, ◌≢◌, ℕ, zero, suc, ◌+◌, ◌<◌, ◌≤◌, ◌==◌, Bool, true, false, cond, List, [], ◌∷◌, ◌++◌, length, map, Some, eqb, refl, sym, ap, subst, ◌∙◌, arith, Equal}
use Rattle.std.specs.Prelude.{slice_get}
use Rattle.std.specs.Ordering.{nat_cmp, is_eq}
use Rattle.std.specs.Cmp.{Equal-is}
use Rattle.std.proofs.lemmas.Cmp.{tied_itself, nat_cmp_total}
use Rattle.std.proofs.lemmas.Bool.{eqb-true, eq-eqb, false_from_ne_true, both_ways}
use Rattle.std.proofs.lemmas.Option.{same_Some}
use Rattle.pgr_walks.specs.declared.link.LinkOf.{LinkOf}
use Rattle.pgr_walks.specs.Link.{link_cmp}
use Rattle.pgr_walks.specs.LinkOrders.{link_total, link_tie, nat_tie}
use Rattle.pgr_walks.specs.Walk.{IsWalk, IsWithoutRepeats, vertices_of, cost_of}
use Rattle.pgr_ksp.specs.Classes.{is_link, is_same, among, starts}

-- links that the test finds alike are the same
pub link_is : (a b : LinkOf ℕ) → is_link a b ≡ true → a ≡ b
link_is a b e = link_tie nat_cmp nat_tie a b ((Equal-is (link_cmp nat_cmp a b)).0 e)

pub link_itself : (a : LinkOf ℕ) → is_link a a ≡ true
link_itself a = ap is_eq (tied_itself (link_total nat_cmp nat_cmp_total) a)

-- both tests of a choice hold
pub if_true : (b c : Bool) → cond b c false ≡ true → (b ≡ true) × (c ≡ true)
if_true true c e = (refl, e)
if_true false c e = cc

-- one of two tests holds
pub or_true : (b c : Bool) → cond b true c ≡ true → (b ≡ false → c ≡ true)
or_true true c e f = cc
or_true false c e f = e

-- routes that the test finds alike are the same
pub same_is : (xs ys : List (LinkOf ℕ)) → is_same xs ys ≡ true → xs ≡ ys
same_is [] [] e = refl
same_is [] (b ∷ ys) e = cc
same_is (a ∷ xs) [] e = cc
same_is (a ∷ xs) (b ∷ ys) e =
    let both = if_true (is_link a b) (is_same xs ys) e in
    let first = link_is a b both.0 in
    let rest = same_is xs ys both.1 in
    λ i. first i ∷ rest i

pub same_itself : (xs : List (LinkOf ℕ)) → is_same xs xs ≡ true
same_itself [] = refl
same_itself (a ∷ xs) = ap (λ b. cond b (is_same xs xs) false) (link_itself a) ∙ same_itself xs

-- a vertex at a place is among them, and one among them stands at a place
pub among_from : (xs : List ℕ) (v : ℕ) (k : ℕ) → slice_get xs k ≡ Some v → among xs v ≡ true
among_from [] v k e = cc
among_from (x ∷ xs) v zero e = ap (λ b. cond b true (among xs v)) (eq-eqb v x (sym (same_Some x v e)))
among_from (x ∷ xs) v (suc k) e = by (eqb v x) (among_from xs v k e)
  where
    by : (b : Bool) → among xs v ≡ true → cond b true (among xs v) ≡ true
    by true f = refl
    by false f = f

pub among_at : (xs : List ℕ) (v : ℕ) → among xs v ≡ true → (k : ℕ) × (k < length xs) × (slice_get xs k ≡ Some v)
among_at [] v e = cc
among_at (x ∷ xs) v e = by (eqb v x) refl e (λ f. among_at xs v f)
  where
    by : (b : Bool) → eqb v x ≡ b → cond b true (among xs v) ≡ true → (among xs v ≡ true → (k : ℕ) × (k < length xs) × (slice_get xs k ≡ Some v))
        → (k : ℕ) × (k < length (x ∷ xs)) × (slice_get (x ∷ xs) k ≡ Some v)
    by true f e rest = (0, omega arith, ap Some (sym (eqb-true v x f)))
    by false f e rest = let later = rest e in (suc later.0, omega (arith, later.1), later.2)

pub among-append : (xs ys : List ℕ) (v : ℕ) → among (xs ++ ys) v ≡ cond (among xs v) true (among ys v)
among-append [] ys v = refl
among-append (x ∷ xs) ys v = by (eqb v x) (among-append xs ys v)
  where
    by : (b : Bool) → among (xs ++ ys) v ≡ cond (among xs v) true (among ys v) → cond b true (among (xs ++ ys) v) ≡ cond (cond b true (among xs v)) true (among ys v)
    by true e = refl
    by false e = e

-- no vertex stands again behind its place
abbrev pub Apart : List ℕ → Type 0
Apart [] = Unit {0}
Apart (x ∷ xs) = (among xs x ≡ false) × Apart xs

pub apart_from : (xs : List ℕ) → IsWithoutRepeats xs → Apart xs
apart_from [] h = tt
apart_from (x ∷ xs) h = (
  false_from_ne_true (among xs x) (λ e. let at = among_at xs x e in h 0 (suc at.0) (omega arith) (omega (arith, at.1)) (sym at.2)),
  apart_from xs (λ i j before inside. h (suc i) (suc j) (omega arith) (omega arith)),
)

pub apart_to : (xs : List ℕ) → Apart xs → IsWithoutRepeats xs
apart_to [] a i j before inside = absurd (omega arith)
apart_to (x ∷ xs) a i zero before inside = absurd (omega arith)
apart_to (x ∷ xs) a zero (suc j) before inside = λ e. both_ways (among xs x) a.0 (among_from xs x j (sym e))
apart_to (x ∷ xs) a (suc i) (suc j) before inside = apart_to xs a.1 i j (omega arith) (omega arith)

-- two lists of vertices that come once, and have none in common
pub record AreApart (xs ys : List ℕ) : Type 0 where
  pub left : Apart xs
  pub right : Apart ys
  pub none_common : (v : ℕ) → among xs v ≡ true → among ys v ≡ false

-- neither of two tests holds
pub or_false : (b c : Bool) → cond b true c ≡ false → (b ≡ false) × (c ≡ false)
or_false true c e = cc
or_false false c e = (refl, e)

pub apart_split : (xs ys : List ℕ) → Apart (xs ++ ys) → AreApart xs ys
apart_split [] ys a = record { left = tt; right = a; none_common = λ v e. cc }
apart_split (x ∷ xs) ys a =
    let rest = apart_split xs ys a.1 in
    let here = or_false (among xs x) (among ys x) (sym (among-append xs ys x) ∙ a.0) in
    record { left = (here.0, rest.left); right = rest.right; none_common = λ v e. by v rest (eqb v x) refl here.1 e }
  where
    by : (v : ℕ) → AreApart xs ys → (b : Bool) → eqb v x ≡ b → among ys x ≡ false → cond b true (among xs v) ≡ true → among ys v ≡ false
    by v rest true f none e = ap (among ys) (eqb-true v x f) ∙ none
    by v rest false f none e = rest.none_common v e

pub apart_join : (xs ys : List ℕ) → AreApart xs ys → Apart (xs ++ ys)
apart_join [] ys a = a.right
apart_join (x ∷ xs) ys a = (
  among-append xs ys x ∙ ap (λ b. cond b true (among ys x)) a.left.0 ∙ a.none_common x (ap (λ b. cond b true (among xs x)) (eq-eqb x x refl)),
  apart_join xs ys (record { left = a.left.1; right = a.right; none_common = λ v e. a.none_common v (by v (eqb v x) e) }),
)
  where
    by : (v : ℕ) (b : Bool) → among xs v ≡ true → cond b true (among xs v) ≡ true
    by v true e = refl
    by v false e = e

-- the vertices of two walks, one behind the other
pub vertices-append : (Has : LinkOf ℕ → Type 0) (s v : ℕ) (front tail : List (LinkOf ℕ)) → IsWalk Has s front v → vertices_of s (front ++ tail) ≡ starts front ++ vertices_of v tail
vertices-append Has s v [] tail w = ap (λ u. vertices_of u tail) w
vertices-append Has s v (link ∷ front) tail w =
    let rest = vertices-append Has link.to v front tail w.2 in
    λ i. sym w.1 i ∷ rest i

pub walk-append : (Has : LinkOf ℕ → Type 0) (s v t : ℕ) (front tail : List (LinkOf ℕ)) → IsWalk Has s front v → IsWalk Has v tail t → IsWalk Has s (front ++ tail) t
walk-append Has s v t [] tail w x = subst (λ u. IsWalk Has u tail t) (sym w) x
walk-append Has s v t (link ∷ front) tail w x = (w.0, w.1, walk-append Has link.to v t front tail w.2 x)

pub walk-behind : (Has : LinkOf ℕ → Type 0) (s v t : ℕ) (front tail : List (LinkOf ℕ)) → IsWalk Has s front v → IsWalk Has s (front ++ tail) t → IsWalk Has v tail t
walk-behind Has s v t [] tail w x = subst (λ u. IsWalk Has u tail t) w x
walk-behind Has s v t (link ∷ front) tail w x = walk-behind Has link.to v t front tail w.2 x.2

pub cost-append : (front tail : List (LinkOf ℕ)) → cost_of (front ++ tail) ≡ cost_of front + cost_of tail
cost-append [] tail = omega arith
cost-append (link ∷ front) tail = omega (arith, cost-append front tail)

-- where a walk that has a link ends is one of the vertices behind its start
pub end_among : (Has : LinkOf ℕ → Type 0) (s t : ℕ) (link : LinkOf ℕ) (rest : List (LinkOf ℕ)) → IsWalk Has s (link ∷ rest) t → among (vertices_of link.to rest) t ≡ true
end_among Has s t link [] w = ap (λ b. cond b true false) (eq-eqb t link.to (sym w.2))
end_among Has s t link (next ∷ rest) w = by (eqb t link.to) (end_among Has link.to t next rest w.2)
  where
    by : (b : Bool) → among (vertices_of next.to rest) t ≡ true → cond b true (among (vertices_of next.to rest) t) ≡ true
    by true e = refl
    by false e = e
