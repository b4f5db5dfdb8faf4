-- One more slot, and at the end all.
use Rattle.std.proofs.Common.{◌≡◌, ◌++◌, ℤ, List, rules, arith, sym, ap, subst, ◌∙◌}
use Rattle.std.specs.Prelude.{◌↔◌, Contains}
use Rattle.std.specs.Option.{option_to_list}
use Rattle.pgr_walks.specs.declared.link.LinkOf.{LinkOf}
use Rattle.pgr_numbers.specs.Slots.{links_in}
use Rattle.pgr_numbers.proofs.Slots.{links_in-more, links_in-all}
use Rattle.pgr_graph.specs.Links.{IsLinkOfTable}
use Rattle.pgr_graph.specs.RowSlots.{slots_of_table}
use Rattle.pgr_graph.proofs.links.links_by_row.Goals as goal

pub loop-slot-preserved : goal.loop-slot-preserved
loop-slot-preserved c =
    let slots = slots_of_table c.of-source.result.directed c.of-source.result.edges.now in
    record {
      links = c.in_ok-push.ensures.items ∙ (ap (λ list. list ++ option_to_list c.link.result) c.loop-slot.invariant.links
          ∙ sym (links_in-more slots c.loop-slot.slot c.link.result c.link.ensures));
      few = search rules;
    }

pub returns-clause-links : goal.returns-clause-links
returns-clause-links c =
    let slots = slots_of_table c.of-source.result.directed c.of-source.result.edges.now in
    let all : c.loop-slot.links.items ≡ links_in slots =
    c.loop-slot.invariant.links ∙ links_in-all slots c.loop-slot.slot (omega (arith, c.slot_count-slots.ensures)) in
    subst (λ (list : List (LinkOf ℤ)). (link : LinkOf ℤ) → Contains list link ↔ IsLinkOfTable c.args.table.now c.args.directed link) (sym all) c.of-source.ensures.links

pub returns-clause-rows : goal.returns-clause-rows
returns-clause-rows c =
    let slots = slots_of_table c.of-source.result.directed c.of-source.result.edges.now in
    c.loop-slot.invariant.links ∙ links_in-all slots c.loop-slot.slot (omega (arith, c.slot_count-slots.ensures)) ∙ c.of-source.ensures.rows
