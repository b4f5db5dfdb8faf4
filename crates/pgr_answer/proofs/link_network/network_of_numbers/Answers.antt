-- The graph has exactly the numbered links, so it gives the links between ids.
use Rattle.std.proofs.Common.{◌∙◌}
use Rattle.pgr_answer.proofs.AllLinks.{all_numbered}
use Rattle.pgr_answer.proofs.NetworkLemmas.{given_links, given_ends}
use Rattle.pgr_answer.proofs.link_network.network_of_numbers.Goals as goal

pub from_links-requires-clause-once : goal.from_links-requires-clause-once
from_links-requires-clause-once c = (c.numbered_links_fit.ensures.repeats _ _ _ c.requires.numbered).0 c.requires.once

pub invariant_of-result : goal.invariant_of-result
invariant_of-result c =
    let names = c.args.names in
    let numbered = c.requires.numbered in
    let exactly = c.in_ok-graph.ensures.links in
    let lead = c.links_lead_to_their_vertices.ensures.lead in
    let size_is = c.in_ok-graph.ensures.size ∙ c.len.ensures.len in
    record {
      rise = numbered.rise;
      size_is = size_is;
      lead = lead;
      ends = given_ends _ _ _ _ _ numbered exactly lead c.requires.ends;
      once = (c.numbered_links_fit.ensures.repeats names _ _ (all_numbered _ _ lead names size_is numbered.rise)).1 c.links_lead_to_their_vertices.ensures.once;
      fits = c.graph_of_numbered_links_fits.ensures names _ _ numbered exactly c.requires.fits;
    }

pub returns-clause-links : goal.returns-clause-links
returns-clause-links c = given_links _ _ _ _ _ c.requires.numbered c.in_ok-graph.ensures.links c.links_lead_to_their_vertices.ensures.lead
