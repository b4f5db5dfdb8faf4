-- How the end of a contraction is shown: the vertices and shortcuts that are left, with what they hold, and the links.
use Rattle.std.specs.Prelude.{◌≡◌, ◌↔◌, ◌⊎◌, ℕ, suc, ℤ, pos, negsuc, Bool, true, false, ◌&&◌, List, [], ◌∷◌, Contains, map, filter}
use Rattle.std.specs.List.{list_any}
use Rattle.std.specs.Ordering.{int_cmp, int_eq}
use Rattle.pgr_walks.specs.declared.link.LinkOf.{LinkOf}
use Rattle.pgr_walks.specs.Link.{link_cmp}
use Rattle.pgr_walks.specs.Graph.{IsStrictlyRising}
use Rattle.pgr_walks.specs.Reaches.{turned}
use Rattle.pgr_contract.specs.declared.contracted.Kept.{Kept}
use Rattle.pgr_contract.specs.declared.contracted.Shortcut.{Shortcut}
use Rattle.pgr_contract.specs.State.{Made, State}

-- the list rises and has exactly the members of the other, which is a set
pub record Lists (set list : List ℤ) : Type 0 where
  pub rises : IsStrictlyRising int_cmp list
  pub members : (x : ℤ) → Contains list x ↔ Contains set x

-- the vertices, without what they hold
abbrev pub nodes_of : List Kept → List ℤ
nodes_of vertices = map (λ kept. kept.node) vertices

-- the id is in the list
abbrev pub has_id : List ℤ → ℤ → Bool
has_id ids id = list_any (int_eq id) ids

-- the shortcuts of the state that are left, in the order in which they were made: those both of whose ends stand
abbrev pub surviving : State → List Made
surviving S = filter (λ made. has_id S.vertices made.from && has_id S.vertices made.to) S.made

-- the shortcut shows one that was made, as the n-th of those that are left, counted from 0: so the id of the first is -1
pub record Shows (n : ℕ) (shown : Shortcut) (made : Made) : Type 0 where
  pub id : shown.id ≡ negsuc n
  pub from : shown.from ≡ made.from
  pub to : shown.to ≡ made.to
  pub cost : shown.cost ≡ made.cost
  pub inside : Lists made.inside shown.inside

-- the shortcuts show those that were made, one by one, from the n-th on
abbrev pub ShowEach : ℕ → List Shortcut → List Made → Type 0
ShowEach n [] [] = Unit {0}
ShowEach n [] (made ∷ more) = ⊥
ShowEach n (shown ∷ rest) [] = ⊥
ShowEach n (shown ∷ rest) (made ∷ more) = Shows n shown made × ShowEach (suc n) rest more

-- the link of a shortcut under its id
abbrev pub link_of_shortcut : Shortcut → LinkOf ℤ
link_of_shortcut shown = record { from = shown.from; edge = shown.id; cost = shown.cost; to = shown.to }

-- a shortcut is a link from where it begins to where it leads, and in the undirected graph one back too
abbrev pub StandsFor : Bool → Shortcut → LinkOf ℤ → Type 0
StandsFor true shown link = link ≡ link_of_shortcut shown
StandsFor false shown link = (link ≡ link_of_shortcut shown) ⊎ (link ≡ turned (link_of_shortcut shown))

-- the link is that of one of the shortcuts
abbrev pub IsShortcutLink : Bool → List Shortcut → LinkOf ℤ → Type 0
IsShortcutLink directed shortcuts link = (shown : Shortcut) × (Contains shortcuts shown × StandsFor directed shown link)

-- the links that the printed rows leave: those given whose ends are both left, and those of the shortcuts
abbrev pub IsPrinted : Bool → List (LinkOf ℤ) → List Kept → List Shortcut → LinkOf ℤ → Type 0
IsPrinted directed links vertices shortcuts link =
    (Contains links link × (Contains (nodes_of vertices) link.from × Contains (nodes_of vertices) link.to)) ⊎ IsShortcutLink directed shortcuts link

-- the state, shown: each list of vertices or links rises
pub record IsShown (directed : Bool) (S : State) (vertices : List Kept) (shortcuts : List Shortcut) (links : List (LinkOf ℤ)) : Type 0 where
  pub nodes : Lists S.vertices (nodes_of vertices)
  pub holds : (kept : Kept) → Contains vertices kept → Lists (S.inside kept.node) kept.inside
  pub shortcuts_are : ShowEach 0 shortcuts (surviving S)
  pub links_rise : IsStrictlyRising (link_cmp int_cmp) links
  pub links_are : (link : LinkOf ℤ)
      → Contains links link ↔ ((Contains S.links link × ((n : ℕ) × (link.edge ≡ pos n))) ⊎ IsShortcutLink directed shortcuts link)

-- some vertex or shortcut that is left holds it
abbrev pub IsHeld : List Kept → List Shortcut → ℤ → Type 0
IsHeld vertices shortcuts x =
    ((kept : Kept) × (Contains vertices kept × Contains kept.inside x)) ⊎ ((shown : Shortcut) × (Contains shortcuts shown × Contains shown.inside x))
