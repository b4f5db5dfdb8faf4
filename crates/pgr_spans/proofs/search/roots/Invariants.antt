use Rattle.std.proofs.Common.{◌≡◌, ℕ, ◌<◌, length, get_or, None}
use Rattle.pgr_spans.specs.declared.search.Lead.{Lead}
use Rattle.pgr_spans.proofs.search.roots.Given as goal

-- the roots so far
abbrev pub invariant-loop-v : goal.invariant-loop-v
invariant-loop-v l = (length l.leads.items ≡ l.v) × ((v : ℕ) (d : Lead) → v < l.v → get_or l.leads.items v d ≡ record { from = None; to = v })
