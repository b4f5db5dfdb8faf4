use Rattle.std.proofs.Common.{◌≡◌, ◌+◌, ◌≤◌, ℕ, List, take, length, heap_items}
use Rattle.std.specs.Prelude.{All, count_by}
use Rattle.std.specs.BinaryHeap.{IsHeap}
use Rattle.pgr_walks.specs.declared.link.LinkOf.{LinkOf}
use Rattle.pgr_walks.specs.LinksOf.{LinksOf}
use Rattle.pgr_walks.specs.Walk.{IsLooplessRoute, cost_of}
use Rattle.pgr_ksp.specs.Classes.{MarksStarts, IsClass, later_cmp, has, goes_on, one, taboo_at}
use Rattle.pgr_ksp.proofs.split.split.Given as goal

-- the classes so far have the routes of the class that leave its first route before the place
abbrev pub invariant-loop-place : goal.invariant-loop-place
invariant-loop-place g l = record {
  marks : MarksStarts l.gone (take l.place l.class.links.items);
  size : length l.gone ≡ length l.fn.gone;
  room : length l.room ≡ length l.fn.room;
  cost : l.cost ≡ cost_of (take l.place l.class.links.items);
  heap : IsHeap later_cmp (heap_items l.parts);
  classes : All (λ item. IsClass (LinksOf g.G.Graph l.ends.graph.now) l.ends.s l.ends.t item.0) (heap_items l.parts);
  parts : (route : List (LinkOf ℕ)) → IsLooplessRoute (LinksOf g.G.Graph l.ends.graph.now) l.ends.s route l.ends.t
      → count_by (has route) (heap_items l.parts) + one (goes_on (take l.place l.class.links.items) (taboo_at l.class.kept l.class.taboo.items l.place) route)
      ≡ one (goes_on (take l.class.kept l.class.links.items) l.class.taboo.items route);
}
