use Rattle.std.specs.Prelude.{None, slice_index_or}
use Rattle.pgr_walks.specs.Graph.{IsLinkOf}
use Rattle.pgr_walks.proofs.TargetLabels.{zero_at_target, target_at_zero}
use Rattle.pgr_walks.proofs.laws.targets_have_labels_of_zero.Goals as goal

pub returns : goal.returns
returns g c = λ targets labels v holds below.
    let Has = IsLinkOf (g.G.Graph.count c.args.g.now) (g.G.Graph.ins c.args.g.now) in
    (zero_at_target Has targets v (slice_index_or labels v None) (holds.label v below), target_at_zero Has targets v (slice_index_or labels v None) (holds.label v below))
