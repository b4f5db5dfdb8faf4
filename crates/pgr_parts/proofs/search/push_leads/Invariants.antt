use Rattle.std.proofs.Common.{◌≡◌, ◌++◌, take}
use Rattle.pgr_parts.specs.Standings.{leads_from_place}
use Rattle.pgr_parts.proofs.search.push_leads.Given as goal

abbrev pub invariant-loop-to : goal.invariant-loop-to
invariant-loop-to l = l.leads.items ≡ l.initial.leads.items ++ leads_from_place l.from (take l.to-index l.list)
