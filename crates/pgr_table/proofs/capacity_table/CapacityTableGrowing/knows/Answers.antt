use Rattle.std.proofs.Common.{sym, ap, ◌∙◌, ℤ, w64, rules}
use Rattle.std.specs.List.{list_any}
use Rattle.std.specs.Ordering.{int_eq}
use Rattle.std.proofs.Math.Facts.{to_z-of_z}
use mir.Val.{SFits}
use Rattle.pgr_table.specs.declared.row.CapacityRow.{CapacityRow}
use Rattle.pgr_table.specs.Capacities.{capacity_kind, capacity_of, values_of_capacity}
use Rattle.pgr_table.proofs.Keyed.{is_repeat-rows}
use Rattle.pgr_table.proofs.CapacityFacts.{makes_capacity, capacity_values}
use Rattle.pgr_table.proofs.capacity_table.CapacityTableGrowing.knows.Goals as goal

pub returns : goal.returns
returns c =
    let fits : SFits w64 c.number_in.result = search rules in
    let found = rw (to_z-of_z {w = w64} {z = c.number_in.result} fits) at c.has_id.ensures in
    let repeat = is_repeat-rows capacity_kind values_of_capacity
    (λ (row : CapacityRow). row.id) capacity_values c.args.self.now c.args.values.now (capacity_of c.args.values.now).id
    (makes_capacity c.args.values.now c.requires).id in
    (found ∙ ap (λ (id : ℤ). list_any (λ (row : CapacityRow). int_eq id row.id) c.args.self.now) c.number_in.ensures ∙ sym repeat)
