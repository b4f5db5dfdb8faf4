use Rattle.pgr_cli.proofs.file_store.skip.Given as goal

-- each turn drops at least one byte
abbrev pub decreases-loop-left : goal.decreases-loop-left
decreases-loop-left g l = l.left
