-- What an enumeration of loopless routes keeps.
use Rattle.std.specs.Prelude.{◌≢◌, ◌≡◌, ℕ, ◌<◌, ◌^◌, List, Bool, Option, All, length}
use Rattle.std.specs.declared.cmp.Reverse.{Reverse}
use Rattle.std.specs.Ordering.{nat_cmp}
use Rattle.std.specs.BinaryHeap.{IsHeap}
use Rattle.pgr_walks.specs.declared.link.LinkOf.{LinkOf}
use Rattle.pgr_walks.specs.declared.label.Label.{Label}
use Rattle.pgr_walks.specs.Graph.{Fits}
use Rattle.pgr_search.specs.Estimates.{IsConsistent}
use Rattle.pgr_ksp.specs.declared.class.Class.{Class}
use Rattle.pgr_ksp.specs.Routes.{AreFirst}
use Rattle.pgr_ksp.specs.Classes.{IsClass, ArePartition, later_cmp}
use Rattle.pgr_ksp.specs.FromStart.{cost_beyond}

-- two different vertices of a graph that fits, with room for its searches, and labels that are a consistent estimate
pub record CanSearch (size : ℕ) (Has : LinkOf ℕ → Type 0) (s t : ℕ) (gone : List Bool) (costs room : List (Option Label)) : Type 0 where
  pub fits : Fits Has
  pub differ : s ≢ t
  pub s_below : s < size
  pub t_below : t < size
  pub marks : length gone ≡ size
  pub costs_size : length costs ≡ size
  pub room_size : length room ≡ size
  pub small : (v : ℕ) → v < size → cost_beyond costs 0 v < 2 ^ 127
  pub consistent : IsConsistent Has (cost_beyond costs 0)

-- the routes given are the first, and each other loopless route stands in one class of the heap
pub record IsSound (Has : LinkOf ℕ → Type 0) (s t : ℕ) (given : List (List (LinkOf ℕ))) (items : List (Reverse Class)) : Type 0 where
  pub first : AreFirst nat_cmp Has s t given
  pub heap : IsHeap later_cmp items
  pub classes : All (λ item. IsClass Has s t item.0) items
  pub partition : ArePartition Has s t given items
