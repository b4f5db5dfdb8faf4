-- The links of the edges are as a contraction asks for them, and what is left of them is shown.
use Rattle.std.proofs.Common.{ap, ◌∙◌}
use Rattle.pgr_rows.specs.declared.rows.Rows.TheVariants.{Contractions}
use Rattle.pgr_answer.proofs.LightLinks.{table_is_given, table_is_light, table_has_opposites}
use Rattle.pgr_answer.proofs.NetworkLemmas.{links_once}
use Rattle.pgr_answer.proofs.contraction.contraction_rows.Goals as goal

pub contract-requires-clause-given : goal.contract-requires-clause-given
contract-requires-clause-given c = rw c.as_slice-links.ensures.value
    (table_is_given c.args.tables.now.edges c.args.command.now.directed _ c.len-rows.ensures.accepted c.in_ok-links.ensures.links)

pub contract-requires-clause-opposites : goal.contract-requires-clause-opposites
contract-requires-clause-opposites c = rw c.as_slice-links.ensures.value
    (table_has_opposites c.args.tables.now.edges c.args.command.now.directed _ c.in_ok-links.ensures.links)

pub contract-requires-clause-light : goal.contract-requires-clause-light
contract-requires-clause-light c = rw c.as_slice-links.ensures.value
    (table_is_light c.args.tables.now.edges c.args.command.now.directed _ c.len-rows.ensures.accepted c.in_ok-links.ensures.links (links_once _ c.in_ok-links.ensures.rising))

pub returns : goal.returns
returns c =
    let (end, (run, shown)) = c.in_ok-left.ensures.run in
    record {
      links = c.in_ok-links.links.items;
      links_are = record { exactly = c.in_ok-links.ensures.links; rise = c.in_ok-links.ensures.rising };
      end = end;
      run = rw (c.as_slice-links.ensures.value, c.as_slice-order.ensures, c.as_slice-forbidden.ensures) at run;
      vertices = c.in_ok-left.left.vertices.items;
      shortcuts = c.in_ok-left.left.shortcuts.items;
      left = c.in_ok-left.left.links.items;
      shown = shown;
      rows_are = ap Contractions (c.from_vec.ensures ∙ c.in_ok-rows.ensures);
    }
