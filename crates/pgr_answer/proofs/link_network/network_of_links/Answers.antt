use Rattle.std.proofs.Common.{subst, IfOk, ◌↔◌}
use Rattle.std.specs.Prelude.{ℤ, Contains}
use Rattle.pgr_walks.specs.declared.link.LinkOf.{LinkOf}
use Rattle.pgr_answer.specs.Networks.{id_links}
use Rattle.pgr_answer.proofs.link_network.network_of_links.Goals as goal

-- the numbered links are named as those that were handed in
pub returns-clause-links : goal.returns-clause-links
returns-clause-links c =
    subst (λ links. IfOk c.network_of_numbers.result (λ network. (link : LinkOf ℤ) → Contains (id_links network) link ↔ Contains links link))
    c.in_ok-names.ensures.numbered.same c.network_of_numbers.ensures.links
