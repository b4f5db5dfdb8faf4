use Rattle.std.proofs.Common.{◌≡◌, drop}
use Rattle.pgr_outside.specs.Files.{named, content_of}
use Rattle.pgr_outside.proofs.memory_store.bytes_named.Given as goal

-- the files that are left hold the answer
abbrev pub invariant-loop-file : goal.invariant-loop-file
invariant-loop-file l = content_of (named (drop l.file-index l.files)) l.name ≡ content_of (named l.files) l.name
