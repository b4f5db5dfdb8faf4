-- The heads of all links, sorted.
use Rattle.std.proofs.Common.{◌≡◌, ◌<◌, ◌+◌, List, [], subst, sym, arith}
use Rattle.pgr_turns.specs.declared.state.Head.{Head}
use Rattle.pgr_turns.proofs.StateSteps.{AreHeadsBelow, heads_none, heads_more, heads_sorted}
use Rattle.pgr_turns.proofs.state.heads_of.Goals as goal

pub loop-v-init : goal.loop-v-init
loop-v-init g c =
    let items : c.new-heads.result.items ≡ [] = c.new-heads.ensures.items in
    subst (λ (hs : List Head). AreHeadsBelow (g.G.Graph.count c.args.g.now) (g.G.Graph.ins c.args.g.now) 0 hs) (sym items) (heads_none _ _)

pub loop-v-preserved : goal.loop-v-preserved
loop-v-preserved g c =
    let count = g.G.Graph.count c.args.g.now in
    let below : c.loop-v.v < count = omega (arith, c.size-v-end.ensures) in
    subst (λ (hs : List Head). AreHeadsBelow count (g.G.Graph.ins c.args.g.now) (c.loop-v.v + 1) hs) (sym c.in_ok-append_heads.ensures)
    (heads_more count (g.G.Graph.outs c.args.g.now) (g.G.Graph.ins c.args.g.now) (g.met.G.Graph.lawful c.args.g.now) c.loop-v.v c.loop-v.heads.items below c.loop-v.invariant)

pub returns : goal.returns
returns g c =
    let count = g.G.Graph.count c.args.g.now in
    let all : c.loop-v.v ≡ count = omega (arith, c.size-v-end.ensures) in
    heads_sorted count (g.G.Graph.outs c.args.g.now) (g.G.Graph.ins c.args.g.now) (g.met.G.Graph.lawful c.args.g.now) c.loop-v.heads.items c.sort_unstable.new.self.items
    (subst (λ v. AreHeadsBelow count (g.G.Graph.ins c.args.g.now) v c.loop-v.heads.items) all c.loop-v.invariant) c.sort_unstable.ensures.permutation c.sort_unstable.ensures.sorted
