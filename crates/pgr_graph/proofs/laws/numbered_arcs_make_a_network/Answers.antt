use Rattle.std.proofs.Common.{List, ℤ, sym, subst}
use Rattle.std.specs.Ordering.{int_cmp}
use Rattle.pgr_walks.specs.declared.link.LinkOf.{LinkOf}
use Rattle.pgr_graph.specs.Arcs.{AreNetworkArcs}
use Rattle.pgr_graph.proofs.NetworkArcs.{numbered_network}
use Rattle.pgr_graph.proofs.laws.numbered_arcs_make_a_network.Goals as goal

pub returns : goal.returns
returns c = λ size name arcs numbers order below same network.
    let P : List (LinkOf ℤ) → Type 0 = λ list. AreNetworkArcs int_cmp list in
    numbered_network size name numbers order below (subst P (sym same) network)
