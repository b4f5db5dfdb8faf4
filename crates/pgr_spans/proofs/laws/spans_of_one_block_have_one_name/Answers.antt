-- Names of blocks are the same exactly where the spans are in one block.
use Rattle.pgr_spans.proofs.Membership.{one_component}
use Rattle.pgr_spans.proofs.laws.spans_of_one_block_have_one_name.Goals as goal

pub returns : goal.returns
returns c = λ rise classes s t b d are. one_component c.args.spans.now rise classes are s t b d
