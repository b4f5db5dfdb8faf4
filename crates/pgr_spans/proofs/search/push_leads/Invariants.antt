use Rattle.std.proofs.Common.{◌≡◌, ◌++◌, map, take}
use Rattle.pgr_spans.specs.Exploring.{lead_along}
use Rattle.pgr_spans.proofs.search.push_leads.Given as goal

-- the leads along the arrows so far
abbrev pub invariant-loop-arrow : goal.invariant-loop-arrow
invariant-loop-arrow l = l.leads.items ≡ l.fn.leads.items ++ map (lead_along l.number) (take l.arrow-index l.arrows)
