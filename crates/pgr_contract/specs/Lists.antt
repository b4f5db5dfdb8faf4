-- Lists of what vertices and shortcuts hold, and how what is left is listed.
use Rattle.std.specs.Prelude.{ℕ, suc, ℤ, negsuc, Bool, true, false, ◌&&◌, List, [], ◌∷◌, filter, is_none, unwrap_or}
use Rattle.std.specs.Ordering.{int_cmp}
use Rattle.std.specs.BTreeMap.{BTreeMap, get}
use Rattle.pgr_walks.specs.declared.link.LinkOf.{LinkOf}
use Rattle.pgr_walks.specs.Reaches.{turned}
use Rattle.pgr_contract.specs.declared.contracted.Kept.{Kept}
use Rattle.pgr_contract.specs.declared.contracted.Shortcut.{Shortcut}
use Rattle.pgr_contract.specs.declared.held.Gone.{Gone}
use Rattle.pgr_contract.specs.declared.held.Holder.{Holder}
use Rattle.pgr_contract.specs.Held.{Tag, rests}
use Rattle.pgr_contract.specs.Shown.{link_of_shortcut}

-- the list at an id, which is empty where there is none
abbrev pub list_at : BTreeMap ℤ (List ℤ) → ℤ → List ℤ
list_at lists id = unwrap_or (get int_cmp lists id) []

-- of the ids those that rest where the test says
abbrev pub resting : BTreeMap ℤ Gone → (Holder → Bool) → List ℤ → List ℤ
resting gone test ids = filter (λ x. rests test (get int_cmp gone x)) ids

-- the id is of a vertex that is left
abbrev pub stays : BTreeMap ℤ Gone → ℤ → Bool
stays gone x = is_none (get int_cmp gone x)

-- both ends of a shortcut are left
abbrev pub tag_stays : BTreeMap ℤ Gone → Tag → Bool
tag_stays gone t = stays gone t.from && stays gone t.to

-- a vertex that is left, with what it holds
abbrev pub kept_with : BTreeMap ℤ (List ℤ) → ℤ → Kept
kept_with lists x = record { node = x; inside = list_at lists x }

-- shortcuts, of which the first is the n-th, counted from 0, with what they hold
abbrev pub shown_from : BTreeMap ℤ (List ℤ) → ℕ → List Tag → List Shortcut
shown_from lists n [] = []
shown_from lists n (t ∷ more) =
    record { id = negsuc n; from = t.from; to = t.to; cost = t.cost; inside = list_at lists t.span.vertex } ∷ shown_from lists (suc n) more

-- the links of a shortcut: one in the directed graph, one each way in the undirected one
abbrev pub links_shown : Bool → Shortcut → List (LinkOf ℤ)
links_shown true shown = link_of_shortcut shown ∷ []
links_shown false shown = link_of_shortcut shown ∷ turned (link_of_shortcut shown) ∷ []

-- a link both of whose ends are left
abbrev pub link_stays : BTreeMap ℤ Gone → LinkOf ℤ → Bool
link_stays gone link = stays gone link.from && stays gone link.to
