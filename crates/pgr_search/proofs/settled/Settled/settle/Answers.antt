use Rattle.std.proofs.Common.{◌≡◌, ◌<◌, None, length, get_or, ap, arith, ◌∙◌}
use Rattle.pgr_search.proofs.Listing.{room_left, one_listed}
use Rattle.pgr_search.proofs.settled.Settled.settle.Goals as goal

pub index_mut-requires-2 : goal.index_mut-requires-2
index_mut-requires-2 c =
    let labels = c.self.inside.labels.items in
    let below : c.args.v < length labels = omega (arith, ap length c.self.view_is, c.requires.vertex) in
    let free : get_or labels c.args.v None ≡ None = ap (λ xs. get_or xs c.args.v None) c.self.view_is ∙ c.requires.waits in
    omega (arith, c.self.inside.order.ok.0, room_left labels c.self.inside.order.items c.self.inside.count c.args.v c.args.label c.self.invariant below free)

pub invariant_of-self : goal.invariant_of-self
invariant_of-self c =
    let labels = c.self.inside.labels.items in
    let below : c.args.v < length labels = omega (arith, ap length c.self.view_is, c.requires.vertex) in
    let free : get_or labels c.args.v None ≡ None = ap (λ xs. get_or xs c.args.v None) c.self.view_is ∙ c.requires.waits in
    one_listed labels c.self.inside.order.items c.self.inside.count c.args.v c.args.label c.self.invariant below free
