use Rattle.std.proofs.Common.{subst, IfOk, ◌↔◌}
use Rattle.std.specs.Prelude.{ℤ, Contains}
use Rattle.pgr_walks.specs.declared.link.LinkOf.{LinkOf}
use Rattle.pgr_answer.specs.Networks.{id_links}
use Rattle.pgr_answer.proofs.link_network.network_of_source.Goals as goal

-- the numbered links are named as those of the source
pub returns-clause-links : goal.returns-clause-links
returns-clause-links g c =
    subst (λ links. IfOk c.network_of_numbers.result (λ network. (link : LinkOf ℤ) → Contains (id_links network) link ↔ Contains links link))
    c.in_ok-numbered.ensures.same c.network_of_numbers.ensures.links
