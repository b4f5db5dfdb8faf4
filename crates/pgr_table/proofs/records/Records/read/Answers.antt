use Rattle.std.proofs.Common.{ℕ, Some, List, Bor}
use Rattle.csv.specs.Records.{fields_of}
use Rattle.pgr_table.proofs.ReadOn.{reads}
use Rattle.pgr_table.proofs.records.Records.read.Goals as goal

pub invariant_of-self-2 : goal.invariant_of-self-2
invariant_of-self-2 c = (reads (λ (bytes : Bor (List ℕ)). Some bytes.now) c.args.self.now c.self.inside.ended c.self.inside.reader c.read_byte_record.new.self
    c.in-Ok.found (fields_of c.read_byte_record.new.row) c.if-self.false c.self.view_is c.self.invariant
    (λ going. (c.in-Ok.ensures.reads going.untrimmed going.ready, c.in-Ok.ensures.ready going.untrimmed, c.in-Ok.ensures.flexible))).goes_on

pub returns-clause-found : goal.returns-clause-found
returns-clause-found c = (reads (λ (bytes : Bor (List ℕ)). Some bytes.now) c.args.self.now c.self.inside.ended c.self.inside.reader c.read_byte_record.new.self
    c.in-Ok.found (fields_of c.read_byte_record.new.row) c.if-self.false c.self.view_is c.self.invariant
    (λ going. (c.in-Ok.ensures.reads going.untrimmed going.ready, c.in-Ok.ensures.ready going.untrimmed, c.in-Ok.ensures.flexible))).more

pub returns-clause-end : goal.returns-clause-end
returns-clause-end c = (reads (λ (bytes : Bor (List ℕ)). Some bytes.now) c.args.self.now c.self.inside.ended c.self.inside.reader c.read_byte_record.new.self
    c.in-Ok.found (fields_of c.read_byte_record.new.row) c.if-self.false c.self.view_is c.self.invariant
    (λ going. (c.in-Ok.ensures.reads going.untrimmed going.ready, c.in-Ok.ensures.ready going.untrimmed, c.in-Ok.ensures.flexible))).end
