use Rattle.std.proofs.Common.{arith, sym, ◌∙◌}
use Rattle.csv.specs.Reading.{records, default_config, strip_bom}
use Rattle.csv.specs.Records.{fields_of}
use Rattle.pgr_table.proofs.HeaderFacts.{rules_of-found}
use Rattle.pgr_table.proofs.Verdicts.{verdict-header}
use Rattle.pgr_table.proofs.reading.read_table.Goals as goal

pub loop-table-init : goal.loop-table-init
loop-table-init g c =
    let header = fields_of c.read.new.fields in
    let none = rw c.kind.ensures at c.in_ok-columns.ensures.fault in
    let found = rw c.kind.ensures at c.in_ok-columns.ensures.found in
    let first = rw c.if-not-branch.false at c.in_ok-read.ensures.found in
    record {
      verdict = rw (c.len-width.ensures, c.in_ok-table.ensures) (verdict-header g.T.Growing.kind c.in_ok-columns.columns.items
          (records default_config (strip_bom c.args.bytes.now)) c.read.new.self header (sym c.new-records.ensures ∙ first) none found);
      kind = rw found (rules_of-found header g.T.Growing.kind);
      few = rw c.in_ok-table.ensures (omega arith);
      totals = record {
        elements = rw c.in_ok-table.ensures c.zero-totals.ensures.elements;
        few = omega (arith, c.zero-totals.ensures.elements);
        sum = rw c.in_ok-table.ensures c.zero-totals.ensures.sum;
        small = omega (arith, c.zero-totals.ensures.sum);
      };
    }
