use Rattle.std.proofs.Common.{sym, subst}
use Rattle.pgr_parts.specs.Grouping.{state_of, IsSearching}
use Rattle.pgr_parts.proofs.Turning.{lead_below, searching_after, found_after, less_after, closes_after, firsts_rise, firsts_inside, path_inside}
use Rattle.pgr_parts.proofs.search.Search.turn.Goals as goal

pub follow-requires-clause-vertex : goal.follow-requires-clause-vertex
follow-requires-clause-vertex c = lead_below _ _ _ _ c.requires.within c.requires.searching c.in-Some.ensures.taken

pub follow-requires-clause-rising : goal.follow-requires-clause-rising
follow-requires-clause-rising c = rw c.in-Some.ensures.taken.firsts (firsts_rise _ _ c.requires.searching)

pub close-requires-clause-firsts : goal.close-requires-clause-firsts
close-requires-clause-firsts c = firsts_inside c.args.lists.now (state_of c.take_lead.new.self)
    (subst (IsSearching c.args.lists.now) (sym c.in-None.ensures.stays) c.requires.searching)

pub close-requires-clause-path : goal.close-requires-clause-path
close-requires-clause-path c = path_inside c.args.lists.now (state_of c.take_lead.new.self)
    (subst (IsSearching c.args.lists.now) (sym c.in-None.ensures.stays) c.requires.searching)

pub returns-in-Some-clause-searching : goal.returns-in-Some-clause-searching
returns-in-Some-clause-searching c = searching_after c.follow.result _ _ _ _ _ c.requires.within c.requires.searching c.in-Some.ensures.taken c.follow.ensures

pub returns-in-Some-clause-found : goal.returns-in-Some-clause-found
returns-in-Some-clause-found c = found_after c.follow.result _ _ _ _ _ c.requires.within c.requires.searching c.in-Some.ensures.taken c.follow.ensures

pub returns-in-Some-clause-less : goal.returns-in-Some-clause-less
returns-in-Some-clause-less c = less_after c.follow.result _ _ _ _ _ c.requires.within c.requires.searching c.in-Some.ensures.taken c.follow.ensures

pub returns-in-None-clause-searching : goal.returns-in-None-clause-searching
returns-in-None-clause-searching c = (closes_after _ _ _ _ c.requires.searching c.in-None.ensures.none c.in-None.ensures.stays c.close.ensures).searching

pub returns-in-None-clause-found : goal.returns-in-None-clause-found
returns-in-None-clause-found c = (closes_after _ _ _ _ c.requires.searching c.in-None.ensures.none c.in-None.ensures.stays c.close.ensures).found

pub returns-in-None-clause-less : goal.returns-in-None-clause-less
returns-in-None-clause-less c = (closes_after _ _ _ _ c.requires.searching c.in-None.ensures.none c.in-None.ensures.stays c.close.ensures).less
