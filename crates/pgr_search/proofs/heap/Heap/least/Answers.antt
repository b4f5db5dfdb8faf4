use Rattle.std.proofs.Common.{ap, ◌∙◌}
use Rattle.std.specs.List.{slice_get}
use Rattle.pgr_search.proofs.HeapUse.{first_read, least_first}
use Rattle.pgr_search.proofs.heap.Heap.least.Goals as goal

pub returns-clause-least : goal.returns-clause-least
returns-clause-least g c =
    let entries = c.self.inside.entries.items in
    let first = c.in_ok-first.field-0.now in
    let read = first_read entries first (c.in_ok-first.ensures.value ∙ ap (λ xs. slice_get xs 0) c.deref.ensures.value) in
    rw (← c.self.view_is) (least_first g.K.Ord.cmp g.met.K.Ord.total _ c.self.inside.places.items entries c.self.invariant.0 first read.0 read.1)
