use Rattle.std.proofs.Common.{map, string_bytes}
use Rattle.pgr_words.proofs.WordByWord.{AreTaken}
use Rattle.pgr_words.proofs.words.read_options.Given as goal

-- the words so far were taken, and none of them breaks a rule
abbrev pub invariant-loop-index : goal.invariant-loop-index
invariant-loop-index l = AreTaken l.fn.function l.options (map string_bytes l.words) l.index l.draft
