use Rattle.std.specs.Ordering.{nat_cmp}
use Rattle.pgr_walks.specs.LinksOf.{LinksOf}
use Rattle.pgr_ksp.proofs.Giving.{first_calls}
use Rattle.pgr_ksp.proofs.laws.calls_give_the_first_routes.Goals as goal

pub returns : goal.returns
returns g c = λ s t answers may. first_calls nat_cmp (LinksOf g.G.Graph c.args.g.now) s t answers may
