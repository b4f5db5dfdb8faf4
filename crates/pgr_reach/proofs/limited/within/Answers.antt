use Rattle.std.proofs.Common.{ℕ, List, [], ◌∷◌, Option, rules}
use Rattle.std.specs.Ordering.{nat_cmp}
use Rattle.std.specs.List.Sorted.{IsPermutation, IsSorted}
use Rattle.std.proofs.lemmas.List.Sorted.{answers_always}
use Rattle.pgr_walks.specs.declared.label.Label.{Label}
use Rattle.pgr_reach.specs.declared.reach.ReachedOf.{ReachedOf}
use Rattle.pgr_reach.specs.Within.{row_cmp}
use Rattle.pgr_reach.proofs.WithinRows.{rows_within}
use Rattle.pgr_reach.proofs.limited.within.Goals as goal

pub returns-clause-within : goal.returns-clause-within
returns-clause-within g c =
    let graph = c.args.g.now in
    let targets : List ℕ = c.args.root ∷ [] in
    let labels : List (Option Label) = c.labels_until.new.room in
    let laws = c.least_walks_follow_tight_links.ensures in
    let up_to = c.labels_until.ensures.labels in
    let rows = c.in_ok-rows.rows.items in
    let sorted = c.sort_unstable_by_key.new.self.items in
    let in_order : IsSorted (row_cmp nat_cmp) sorted =
    c.sort_unstable_by_key.ensures.sorted (λ (row : ReachedOf ℕ). (row.label.cost, row.node)) (answers_always _ _ _ (λ f a r h k. search rules)) in
    rows_within (g.G.Graph.count graph) (g.G.Graph.outs graph) (g.G.Graph.ins graph) (g.met.G.Graph.lawful graph) c.args.root c.args.limit c.requires.root _ _ labels
    c.view-turned.ensures.outs (c.view-turned.ensures.labels c.args.root) _ c.view-turned.ensures.size up_to c.labels_until.ensures.bound
    (λ v some. laws.some targets labels v up_to.final some) (λ v link target from tight. laws.none targets labels v link up_to.final target from tight)
    rows sorted c.in_ok-rows.ensures c.sort_unstable_by_key.ensures.permutation in_order
