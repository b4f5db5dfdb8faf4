use Rattle.std.proofs.lemmas.Result.{IfOk-weaker}
use Rattle.pgr_parts.proofs.WalksAndTrails.{heads_within, strong_names}
use Rattle.pgr_parts.proofs.grouping.strong.Goals as goal

pub group_all-requires : goal.group_all-requires
group_all-requires g c = heads_within _ _ _ (g.met.G.Graph.lawful c.args.g.now) _ c.in_ok-heads.ensures

pub returns : goal.returns
returns g c =
    IfOk-weaker c.group_all.result _ _ (λ names h. strong_names _ _ _ (g.met.G.Graph.lawful c.args.g.now) _ c.in_ok-heads.ensures names.items h) c.group_all.ensures
