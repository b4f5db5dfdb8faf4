use Rattle.std.proofs.Common.{sym, ap, ◌∙◌}
use Rattle.std.proofs.lemmas.List.{length-map}
use Rattle.pgr_table.specs.declared.row.CapacityRow.{CapacityRow}
use Rattle.pgr_table.specs.Capacities.{capacity_kind, capacity_of, values_of_capacity}
use Rattle.pgr_table.proofs.Keyed.{is_repeat-rows, values-push-ok}
use Rattle.pgr_table.proofs.CapacityFacts.{makes_capacity, capacity_values, sum_of_capacities-push}
use Rattle.pgr_table.proofs.capacity_table.CapacityTableGrowing.add.Goals as goal

pub push-requires-clause-ids : goal.push-requires-clause-ids
push-requires-clause-ids c = rw (c.capacity.ensures, c.as_slice.ensures.value) (makes_capacity c.args.values.now.items c.requires.row).ids

pub push-requires-clause-sum : goal.push-requires-clause-sum
push-requires-clause-sum c = rw (
  c.capacity.ensures,
  c.as_slice.ensures.value,
  ← sum_of_capacities-push c.args.self.now c.args.values.now.items (makes_capacity c.args.values.now.items c.requires.row).values_are,
) c.requires.sum

pub push-requires-clause-new : goal.push-requires-clause-new
push-requires-clause-new c =
    rw (c.capacity.ensures, c.as_slice.ensures.value) (sym (is_repeat-rows capacity_kind values_of_capacity (λ (row : CapacityRow). row.id) capacity_values c.args.self.now
    c.args.values.now.items (capacity_of c.args.values.now.items).id (makes_capacity c.args.values.now.items c.requires.row).id) ∙ c.requires.new)

pub push-requires-clause-few : goal.push-requires-clause-few
push-requires-clause-few c = rw (length-map c.args.self.now values_of_capacity) at c.requires.few

pub returns-clause-ok : goal.returns-clause-ok
returns-clause-ok c = values-push-ok values_of_capacity c.push.result c.args.self.now c.push.new.self c.capacity.result c.args.values.now.items c.push.ensures.ok
    (ap values_of_capacity (c.capacity.ensures ∙ ap capacity_of c.as_slice.ensures.value) ∙ (makes_capacity c.args.values.now.items c.requires.row).values_are)
