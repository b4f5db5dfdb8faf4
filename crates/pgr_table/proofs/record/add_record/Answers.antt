use Rattle.csv.specs.Records.{fields_of}
use Rattle.pgr_table.proofs.RecordFacts.{read-row, row-length}
use Rattle.pgr_table.proofs.record.add_record.Goals as goal

pub knows-requires : goal.knows-requires
knows-requires g c = rw c.as_slice.ensures.value (read-row c.args.columns.now (fields_of c.args.fields.now) c.in_ok-column.field-0
    c.read_values.new.values.items g.T.Growing.kind c.in_ok-column.ensures.bad c.in_ok-column.ensures.row c.in_default.not-Some c.requires.kind)

pub sum_with-requires-clause-whole : goal.sum_with-requires-clause-whole
sum_with-requires-clause-whole g c = rw c.as_slice-3.ensures.value (row-length c.args.columns.now c.read_values.new.values.items g.T.Growing.kind
    (read-row c.args.columns.now (fields_of c.args.fields.now) c.in_ok-column.field-0
    c.read_values.new.values.items g.T.Growing.kind c.in_ok-column.ensures.bad c.in_ok-column.ensures.row c.in_default.not-Some c.requires.kind) c.requires.kind)

pub add-requires-clause-row : goal.add-requires-clause-row
add-requires-clause-row g c = read-row c.args.columns.now (fields_of c.args.fields.now) c.in_ok-column.field-0
    c.read_values.new.values.items g.T.Growing.kind c.in_ok-column.ensures.bad c.in_ok-column.ensures.row c.in_default.not-Some c.requires.kind
