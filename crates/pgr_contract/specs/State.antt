-- The state of a contraction: its vertices, its links, the shortcuts made so far, and what each vertex and shortcut holds.
use Rattle.std.specs.Prelude.{ℕ, suc, ℤ, pos, negsuc, Bool, true, false, not, ◌||◌, List, [], ◌∷◌, ◌++◌, filter, flat_map, slice_get, Option, Some, None}
use Rattle.std.specs.Ordering.{int_eq}
use Rattle.pgr_walks.specs.declared.link.LinkOf.{LinkOf}
use Rattle.pgr_walks.specs.Reaches.{turned}

-- a shortcut: where it leads from and to, what it costs, and the vertices that it holds
pub record Made : Type 0 where
  pub from : ℤ
  pub to : ℤ
  pub cost : ℕ
  pub inside : List ℤ

-- of the lists of vertices and links only counts what they contain; the shortcuts are all those made so far, in order
pub record State : Type 0 where
  pub vertices : List ℤ
  pub links : List (LinkOf ℤ)
  pub inside : ℤ → List ℤ
  pub made : List Made

-- where the links begin and where they lead
abbrev pub ends_of : List (LinkOf ℤ) → List ℤ
ends_of links = flat_map (λ link. link.from ∷ link.to ∷ []) links

-- at first the vertices are the ends of the links that are given, no shortcut is made, and no vertex holds another
abbrev pub first_state : List (LinkOf ℤ) → State
first_state links = record { vertices = ends_of links; links = links; inside = λ _. []; made = [] }

-- the link has v as an end
abbrev pub touches : ℤ → LinkOf ℤ → Bool
touches v link = int_eq link.from v || int_eq link.to v

-- what a shortcut holds, where there is one
abbrev pub inside_of : Option Made → List ℤ
inside_of None = []
inside_of (Some made) = made.inside

-- what a link holds by its edge: a link that was given nothing, and one of the n-th shortcut, whose edge is -n, what that holds
abbrev pub inside_of_edge : List Made → ℤ → List ℤ
inside_of_edge made (pos n) = []
inside_of_edge made (negsuc n) = inside_of (slice_get made n)

-- what is left of v where it goes: v itself, what it holds, and what all its links hold
abbrev pub left_of : State → ℤ → List ℤ
left_of S v = v ∷ S.inside v ++ flat_map (λ link. inside_of_edge S.made link.edge) (filter (touches v) S.links)

-- the vertices but v
abbrev pub without_vertex : ℤ → List ℤ → List ℤ
without_vertex v vertices = filter (λ x. not (int_eq x v)) vertices

-- the links that don't have v as an end
abbrev pub without_links_at : ℤ → List (LinkOf ℤ) → List (LinkOf ℤ)
without_links_at v links = filter (λ link. not (touches v link)) links

-- the link from where a shortcut begins to where it leads; the shortcuts are counted from 0, so that the edge of the first is -1
abbrev pub link_of_made : ℕ → Made → LinkOf ℤ
link_of_made n made = record { from = made.from; edge = negsuc n; cost = made.cost; to = made.to }

-- the links of shortcuts of which the first has the place n: in the directed graph one each, in the undirected graph one each way
abbrev pub links_of_made : Bool → ℕ → List Made → List (LinkOf ℤ)
links_of_made directed n [] = []
links_of_made true n (made ∷ more) = link_of_made n made ∷ links_of_made true (suc n) more
links_of_made false n (made ∷ more) = link_of_made n made ∷ turned (link_of_made n made) ∷ links_of_made false (suc n) more
