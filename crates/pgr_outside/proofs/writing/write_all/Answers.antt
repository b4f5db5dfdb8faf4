use Rattle.std.proofs.Common.{rules, length}
use Rattle.std.proofs.lemmas.Slice.{between_to_end}
use Rattle.pgr_outside.proofs.Pieces.{HasGained-more}
use Rattle.pgr_outside.proofs.writing.write_all.Goals as goal

pub loop-rest-preserved : goal.loop-rest-preserved
loop-rest-preserved g c =
    let rest = c.loop-rest.rest.now in
    let count = c.in_ok-count.count in
    record {
      gained = HasGained-more _ _ _ _ rest _ count c.loop-rest.invariant.gained (search rules) (between_to_end rest count (length rest) (search rules));
      count = search rules;
    }
