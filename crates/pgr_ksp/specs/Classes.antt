-- Classes of loopless routes: those that begin with the same links and go on with none of some links.
use Rattle.std.specs.Prelude.{◌≡◌, ◌==◌, ℕ, ◌+◌, ◌<◌, List, [], ◌∷◌, Bool, true, false, not, All, length, take, count_by, slice_index_or, if◌then◌else◌}
use Rattle.std.specs.declared.cmp.Ordering.{Ordering}
use Rattle.std.specs.declared.cmp.Reverse.{Reverse}
use Rattle.std.specs.Ordering.{nat_cmp, eq_by_cmp, ordering_then}
use Rattle.std.specs.Cmp.Lexicographic.{slice_cmp}
use Rattle.pgr_walks.specs.declared.link.LinkOf.{LinkOf}
use Rattle.pgr_walks.specs.Link.{link_cmp}
use Rattle.pgr_walks.specs.ListGraph.{holds}
use Rattle.pgr_walks.specs.Walk.{IsLooplessRoute, cost_of}
use Rattle.pgr_walks.specs.RouteOrder.{IsLeast}
use Rattle.pgr_ksp.specs.declared.class.Class.{Class}

-- whether two links are the same
abbrev pub is_link : LinkOf ℕ → LinkOf ℕ → Bool
is_link a b = eq_by_cmp (link_cmp nat_cmp) a b

-- whether two routes are the same, link by link
abbrev pub is_same : List (LinkOf ℕ) → List (LinkOf ℕ) → Bool
is_same [] [] = true
is_same [] (y ∷ ys) = false
is_same (x ∷ xs) [] = false
is_same (x ∷ xs) (y ∷ ys) = if is_link x y then is_same xs ys else false

-- whether a route begins with the links of a prefix, and its next link, if it has one, is none of the taboo links
abbrev pub goes_on : List (LinkOf ℕ) → List (LinkOf ℕ) → List (LinkOf ℕ) → Bool
goes_on [] taboo [] = true
goes_on [] taboo (link ∷ route) = not (holds taboo link)
goes_on (first ∷ prefix) taboo [] = false
goes_on (first ∷ prefix) taboo (link ∷ route) = if is_link link first then goes_on prefix taboo route else false

-- whether a vertex is one of those
abbrev pub among : List ℕ → ℕ → Bool
among [] v = false
among (x ∷ xs) v = if v == x then true else among xs v

-- the vertices at which links begin
abbrev pub starts : List (LinkOf ℕ) → List ℕ
starts [] = []
starts (link ∷ links) = link.from ∷ starts links

-- exactly the vertices at which the links begin are marked
abbrev pub MarksStarts : List Bool → List (LinkOf ℕ) → Type 0
MarksStarts gone links = (v : ℕ) → slice_index_or gone v false ≡ among (starts links) v

-- the links from the place on begin at one vertex; the taboo links leave it too
abbrev pub LeaveAt : List (LinkOf ℕ) → ℕ → List (LinkOf ℕ) → Type 0
LeaveAt links place taboo = (d : LinkOf ℕ) → All (λ link. link.from ≡ (slice_index_or links place d).from) taboo

-- a loopless route from s to t of the class that has these first links and taboo links
pub record IsMember (Has : LinkOf ℕ → Type 0) (s t : ℕ) (prefix taboo route : List (LinkOf ℕ)) : Type 0 where
  pub is_route : IsLooplessRoute Has s route t
  pub goes : goes_on prefix taboo route ≡ true

-- links that are the least route of the class that has the first so many of them, and these taboo links
pub record IsLeastOfClass (Has : LinkOf ℕ → Type 0) (s t : ℕ) (links : List (LinkOf ℕ)) (kept : ℕ) (taboo : List (LinkOf ℕ)) : Type 0 where
  pub within : kept < length links
  pub least : IsLeast nat_cmp (IsMember Has s t (take kept links) taboo) links
  pub leave : LeaveAt links kept taboo

-- a class with its least route, the cost of that and its number of links
pub record IsClass (Has : LinkOf ℕ → Type 0) (s t : ℕ) (class : Class) : Type 0 where
  pub cost : class.cost ≡ cost_of class.links.items
  pub hops : class.hops ≡ length class.links.items
  pub least : IsLeastOfClass Has s t class.links.items class.kept class.taboo.items

-- whether a route is of a class
abbrev pub has : List (LinkOf ℕ) → Reverse Class → Bool
has route item = goes_on (take item.0.kept item.0.links.items) item.0.taboo.items route

-- 1 where it holds, else 0
abbrev pub one : Bool → ℕ
one b = if b then 1 else 0

-- each loopless route from s to t stands exactly once, in a class or among the routes that were given
abbrev pub ArePartition : (LinkOf ℕ → Type 0) → ℕ → ℕ → List (List (LinkOf ℕ)) → List (Reverse Class) → Type 0
ArePartition Has s t given items = (route : List (LinkOf ℕ)) → IsLooplessRoute Has s route t → count_by (has route) items + count_by (is_same route) given ≡ 1

-- the order of classes, by their first routes
abbrev pub class_cmp : Class → Class → Ordering
class_cmp a b = ordering_then (nat_cmp a.cost b.cost) (ordering_then (nat_cmp a.hops b.hops) (ordering_then (slice_cmp (link_cmp nat_cmp) a.links.items b.links.items)
    (ordering_then (nat_cmp a.kept b.kept) (slice_cmp (link_cmp nat_cmp) a.taboo.items b.taboo.items))))

-- the reverse order, in which the class with the first route is the greatest
abbrev pub later_cmp : Reverse Class → Reverse Class → Ordering
later_cmp a b = class_cmp b.0 a.0

-- the links with which no route of a class goes on behind a place: its taboo links at the end of the links that it keeps, and else none
abbrev pub taboo_at : ℕ → List (LinkOf ℕ) → ℕ → List (LinkOf ℕ)
taboo_at kept taboo place = if place == kept then taboo else []
