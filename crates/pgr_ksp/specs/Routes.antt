-- The loopless routes between two vertices that are left when some were given, and the first K of all of them.
use Rattle.std.specs.Prelude.{◌≡◌, ℕ, ◌<◌, ◌≤◌, ◌++◌, List, [], ◌∷◌, Option, Some, None, Contains, length}
use Rattle.std.specs.declared.cmp.Ordering.{Ordering}
use Rattle.pgr_walks.specs.declared.link.LinkOf.{LinkOf}
use Rattle.pgr_walks.specs.Walk.{IsLooplessRoute}
use Rattle.pgr_walks.specs.Graph.{IsStrictlyRising}
use Rattle.pgr_walks.specs.RouteOrder.{route_cmp, Precedes, IsLeast}

-- a loopless route from s to t that is none of those given
pub record IsLeft {V : Type 0} (Has : LinkOf V → Type 0) (s t : V) (given : List (List (LinkOf V))) (route : List (LinkOf V)) : Type 0 where
  pub is_route : IsLooplessRoute Has s route t
  pub is_new : Contains given route → ⊥

-- every loopless route from s to t is among those given
abbrev pub AreAll : {V : Type 0} → (LinkOf V → Type 0) → V → V → List (List (LinkOf V)) → Type 0
AreAll Has s t given = (route : List (LinkOf _)) → IsLooplessRoute Has s route t → Contains given route

-- the first loopless routes from s to t, so many as the list has: it rises in the route order, and every loopless route that isn't in it comes after each that is
pub record AreFirst {V : Type 0} (vertex_cmp : V → V → Ordering) (Has : LinkOf V → Type 0) (s t : V) (given : List (List (LinkOf V))) : Type 0 where
  pub rises : IsStrictlyRising (route_cmp vertex_cmp) given
  pub members : (route : List (LinkOf V)) → Contains given route → IsLooplessRoute Has s route t
  pub others : (route other : List (LinkOf V)) → Contains given route → IsLeft Has s t given other → Precedes vertex_cmp route other

-- the first K loopless routes from s to t: fewer than K only where they are all
pub record AreFirstK {V : Type 0} (vertex_cmp : V → V → Ordering) (Has : LinkOf V → Type 0) (s t : V) (k : ℕ) (given : List (List (LinkOf V))) : Type 0 where
  pub first : AreFirst vertex_cmp Has s t given
  pub at_most : length given ≤ k
  pub fewer : length given < k → AreAll Has s t given

-- what calls for a next route may answer, one after another, where these were given before: the least route that is left, or none where all were given
abbrev pub MayAnswer : {V : Type 0} → (V → V → Ordering) → (LinkOf V → Type 0) → V → V → List (List (LinkOf V)) → List (Option (List (LinkOf V))) → Type 0
MayAnswer vertex_cmp Has s t given [] = Unit {0}
MayAnswer vertex_cmp Has s t given (None ∷ answers) = AreAll Has s t given × MayAnswer vertex_cmp Has s t given answers
MayAnswer vertex_cmp Has s t given (Some route ∷ answers) = IsLeast vertex_cmp (IsLeft Has s t given) route × MayAnswer vertex_cmp Has s t (given ++ route ∷ []) answers

-- the routes that were given before some answers and by them, in order
abbrev pub given_after : {V : Type 0} → List (List (LinkOf V)) → List (Option (List (LinkOf V))) → List (List (LinkOf V))
given_after given [] = given
given_after given (None ∷ answers) = given_after given answers
given_after given (Some route ∷ answers) = given_after (given ++ route ∷ []) answers
