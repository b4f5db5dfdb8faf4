use Rattle.std.proofs.lemmas.Result.{IfOk-weaker}
use Rattle.pgr_parts.proofs.WalksAndTrails.{near_within, near_mutual, connected_names}
use Rattle.pgr_parts.proofs.spreading.connected.Goals as goal

pub spread_all-requires-clause-within : goal.spread_all-requires-clause-within
spread_all-requires-clause-within g c = near_within _ _ _ (g.met.G.Graph.lawful c.args.g.now) _ c.in_ok-neighbours.ensures

pub spread_all-requires-clause-back : goal.spread_all-requires-clause-back
spread_all-requires-clause-back g c = near_mutual _ _ _ (g.met.G.Graph.lawful c.args.g.now) _ c.in_ok-neighbours.ensures

pub returns : goal.returns
returns g c =
    IfOk-weaker c.spread_all.result _ _ (λ names h. connected_names _ _ _ (g.met.G.Graph.lawful c.args.g.now) _ c.in_ok-neighbours.ensures names.items h) c.spread_all.ensures
