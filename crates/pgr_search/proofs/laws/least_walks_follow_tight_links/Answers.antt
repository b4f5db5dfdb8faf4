use Rattle.pgr_search.proofs.TightLinks.{begins_tight, some_tight, target_not_tight}
use Rattle.pgr_search.proofs.laws.least_walks_follow_tight_links.Goals as goal

pub returns-clause-first : goal.returns-clause-first
returns-clause-first g c = λ targets labels holds. begins_tight _ _ targets labels holds

pub returns-clause-some : goal.returns-clause-some
returns-clause-some g c = λ targets labels v holds some. some_tight _ _ _ (g.met.G.Graph.lawful c.args.g.now) targets labels holds v some

pub returns-clause-none : goal.returns-clause-none
returns-clause-none g c = λ targets labels v link holds target from tight. target_not_tight _ _ targets labels holds v link target from tight
