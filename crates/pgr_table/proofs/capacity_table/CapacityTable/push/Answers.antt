use Rattle.std.proofs.Common.{w64, rules, ap, ◌∙◌, List, ◌++◌, ◌∷◌, []}
use Rattle.std.proofs.Math.Facts.{to_z-of_z}
use mir.Val.{SFits}
use Rattle.pgr_table.specs.declared.row.CapacityRow.{CapacityRow}
use Rattle.pgr_table.specs.Kept.{rows_in}
use Rattle.pgr_table.proofs.Keyed.{insert_entry-added}
use Rattle.pgr_table.proofs.CapacityFacts.{AreCapacities-push}
use Rattle.pgr_table.proofs.capacity_table.CapacityTable.push.Goals as goal

pub invariant_of-self-2 : goal.invariant_of-self-2
invariant_of-self-2 c =
    let fits : SFits w64 c.args.row.id = search rules in
    let same = to_z-of_z {w = w64} {z = c.args.row.id} fits in
    let new = rw (← c.self.view_is) at c.requires.new in
    let added = insert_entry-added (λ (row : CapacityRow). row.id) c.self.inside.rows c.self.invariant.0 c.args.row c.insert.new.self.entries new
    (rw same at c.in_ok-insert.ensures.entries) in
    let few = rw (← c.self.view_is) at c.requires.few in
    let sum = rw (← c.self.view_is) at c.requires.sum in
    (added.under, rw added.rows (AreCapacities-push (rows_in c.self.inside.rows.entries) c.args.row c.self.invariant.1 c.requires.ids new few sum))

pub returns-clause-ok : goal.returns-clause-ok
returns-clause-ok c =
    let fits : SFits w64 c.args.row.id = search rules in
    let same = to_z-of_z {w = w64} {z = c.args.row.id} fits in
    let new = rw (← c.self.view_is) at c.requires.new in
    let added = insert_entry-added (λ (row : CapacityRow). row.id) c.self.inside.rows c.self.invariant.0 c.args.row c.insert.new.self.entries new
    (rw same at c.in_ok-insert.ensures.entries) in
    added.rows ∙ ap (λ (rows : List CapacityRow). rows ++ c.args.row ∷ []) c.self.view_is
