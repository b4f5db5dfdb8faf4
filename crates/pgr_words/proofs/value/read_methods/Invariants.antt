use Rattle.std.proofs.Common.{length}
use Rattle.pgr_words.proofs.MethodLists.{AreRead}
use Rattle.pgr_words.proofs.value.read_methods.Given as goal

-- the parts so far are the methods
abbrev pub invariant-loop-part : goal.invariant-loop-part
invariant-loop-part l = AreRead (length l.yielded) l.bytes l.methods.items
