-- A lead to a vertex that has a number is done with; a new vertex is entered.
use Rattle.std.proofs.Common.{◌<◌, ◌++◌, ◌∷◌, [], length, map, sym, subst, arith}
use Rattle.pgr_spans.specs.Exploring.{IsExploring, arrows_from, lead_along, left_to_do}
use Rattle.pgr_spans.proofs.Exploring.{lead_inside, none_at, some_at, known_keeps, new_keeps, enter_nearer}
use Rattle.pgr_spans.proofs.search.Search.follow.Goals as goal

pub index-requires : goal.index-requires
index-requires c =
    let inside = lead_inside c.args.size c.args.arrows.now c.args.self.now.numbers.items c.args.self.now.parents.items c.args.self.now.leads.items c.args.lead c.requires.exploring
    in
    omega arith

pub enter-requires-clause-place : goal.enter-requires-clause-place
enter-requires-clause-place c =
    lead_inside c.args.size c.args.arrows.now c.args.self.now.numbers.items c.args.self.now.parents.items c.args.self.now.leads.items c.args.lead c.requires.exploring

pub returns-in_ok-enter-clause-exploring : goal.returns-in_ok-enter-clause-exploring
returns-in_ok-enter-clause-exploring c =
    let size = c.args.size in
    let arrows = c.args.arrows.now in
    let numbers = c.args.self.now.numbers.items in
    let parents = c.args.self.now.parents.items in
    let leads = c.args.self.now.leads.items in
    let lead = c.args.lead in
    let inside = lead_inside size arrows numbers parents leads lead c.requires.exploring in
    let new = none_at numbers lead.to c.index.result.now inside c.index.ensures c.if-is_none.ensures in
    let keeps = new_keeps size arrows c.requires.below c.requires.back numbers parents leads lead c.requires.exploring new in
    let first = subst (λ ns. IsExploring size arrows ns (parents ++ lead.from ∷ []) (leads ++ map (lead_along (length parents)) (arrows_from arrows lead.to)))
    (sym c.in_ok-enter.ensures.numbers) keeps in
    let second = subst (λ ps. IsExploring size arrows c.enter.new.self.numbers.items ps (leads ++ map (lead_along (length parents)) (arrows_from arrows lead.to)))
    (sym c.in_ok-enter.ensures.parents) first in
    subst (λ ls. IsExploring size arrows c.enter.new.self.numbers.items c.enter.new.self.parents.items ls) (sym c.in_ok-enter.ensures.leads) second

pub returns-in_ok-enter-clause-nearer : goal.returns-in_ok-enter-clause-nearer
returns-in_ok-enter-clause-nearer c =
    let arrows = c.args.arrows.now in
    let numbers = c.args.self.now.numbers.items in
    let parents = c.args.self.now.parents.items in
    let leads = c.args.self.now.leads.items in
    let lead = c.args.lead in
    let inside = lead_inside c.args.size arrows numbers parents leads lead c.requires.exploring in
    let new = none_at numbers lead.to c.index.result.now inside c.index.ensures c.if-is_none.ensures in
    let nearer = enter_nearer arrows numbers leads lead (length parents) inside new in
    let first = subst (λ ns. left_to_do arrows ns (leads ++ map (lead_along (length parents)) (arrows_from arrows lead.to)) < left_to_do arrows numbers (leads ++ lead ∷ []))
    (sym c.in_ok-enter.ensures.numbers) nearer in
    subst (λ ls. left_to_do arrows c.enter.new.self.numbers.items ls < left_to_do arrows numbers (leads ++ lead ∷ [])) (sym c.in_ok-enter.ensures.leads) first

pub returns-else-is_none-clause-exploring : goal.returns-else-is_none-clause-exploring
returns-else-is_none-clause-exploring c =
    let size = c.args.size in
    let arrows = c.args.arrows.now in
    let numbers = c.args.self.now.numbers.items in
    let parents = c.args.self.now.parents.items in
    let leads = c.args.self.now.leads.items in
    let lead = c.args.lead in
    let inside = lead_inside size arrows numbers parents leads lead c.requires.exploring in
    let (k, known) = some_at numbers lead.to c.index.result.now inside c.index.ensures c.if-is_none.ensures in
    known_keeps size arrows c.requires.below c.requires.back numbers parents leads lead c.requires.exploring k known
