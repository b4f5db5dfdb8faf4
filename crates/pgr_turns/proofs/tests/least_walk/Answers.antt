use Rattle.std.proofs.Common.{◌≡◌, ℕ, ℤ, List, sym, subst, ◌≤◌}
use Rattle.pgr_turns.specs.Trie.{elements}
use Rattle.pgr_turns.proofs.TestGraph.{few_over_four, small_sum}
use Rattle.pgr_turns.proofs.tests.least_walk.Goals as goal

pub make-requires : goal.make-requires
make-requires c =
    few_over_four _ _ _ c.in_ok-turns.turns (sym c.in_ok-graph.ensures.size) (subst (λ (ls : List (List ℤ)). elements ls ≤ 16) (sym c.in_ok-turns.ensures) c.requires.few)

pub allowed_route-requires-clause-fits : goal.allowed_route-requires-clause-fits
allowed_route-requires-clause-fits c =
    c.in_ok-turned.ensures.costs c.args.links.items (λ link has. (c.in_ok-graph.ensures.links link).0 has)
    (small_sum c.args.links.items c.in_ok-turns.turns c.requires.costs (subst (λ (ls : List (List ℤ)). elements ls ≤ 16) (sym c.in_ok-turns.ensures) c.requires.few))
