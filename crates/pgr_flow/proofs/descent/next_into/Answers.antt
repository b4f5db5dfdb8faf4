use Rattle.std.proofs.Common.{◌≡◌, ◌<◌, ◌∙◌, ◌+◌, sym, subst, arith, rules, ℕ, List, length, get_or, set}
use Rattle.std.proofs.lemmas.List.{get_or_default}
use Rattle.std.proofs.lemmas.Grind.{common_steps}
use Rattle.pgr_flow.specs.Residual.{room}
use Rattle.pgr_flow.specs.declared.incidence.Incident.{Incident}
use Rattle.pgr_flow.specs.Incidence.{no_incident, incident_at}
use Rattle.pgr_flow.specs.Descent.{IsOpen, IsIntact, ArePointers}
use Rattle.pgr_flow.proofs.Descents.{pointers_set, intact_set, intact_none}
use Rattle.pgr_flow.proofs.descent.next_into.Goals as goal

pub returns-then-room-gt0-clause-pointers : goal.returns-then-room-gt0-clause-pointers
returns-then-room-gt0-clause-pointers c =
    let end : c.index-end.result.now ≡ get_or c.args.incidence.now.starts.items (c.args.at + 1) 0 =
    c.index-end.ensures ∙ get_or_default c.args.incidence.now.starts.items (c.args.at + 1) _ 0 (omega (arith, c.requires.incidence.count, c.requires.at)) in
    subst (λ (n : List ℕ). ArePointers (length c.args.levels.now) c.args.incidence.now.starts.items (set n c.args.at c.loop-place.place)) (sym c.loop-place.invariant.same)
    (pointers_set c.args.arcs.now c.args.flows.now c.args.levels.now
    (length c.args.levels.now) c.args.incidence.now.starts.items c.args.incidence.now.list.items c.requires.incidence c.args.next.now c.requires.pointers
    c.args.at c.args.level c.requires.at c.requires.at_level c.loop-place.place (omega (arith, c.requires.pointers.low c.args.at c.requires.at)) (omega arith))

pub returns-then-room-gt0-clause-intact : goal.returns-then-room-gt0-clause-intact
returns-then-room-gt0-clause-intact c intact =
    let end : c.index-end.result.now ≡ get_or c.args.incidence.now.starts.items (c.args.at + 1) 0 =
    c.index-end.ensures ∙ get_or_default c.args.incidence.now.starts.items (c.args.at + 1) _ 0 (omega (arith, c.requires.incidence.count, c.requires.at)) in
    let item : c.index-incident.result.now ≡ incident_at c.args.incidence.now.list.items c.loop-place.place =
    c.index-incident.ensures ∙ get_or_default c.args.incidence.now.list.items c.loop-place.place _ no_incident (omega (
      arith,
      c.requires.incidence.inside (c.args.at + 1)
          (omega (arith, c.requires.at)),
    )) in
    let open_here : IsOpen c.args.arcs.now c.args.flows.now c.args.levels.now c.args.level c.index-incident.result.now = record {
      level_is = first_of (search rules, grind (arith, common_steps));
      has_room = subst (λ w. 0 < room c.args.arcs.now c.args.flows.now c.index-incident.result.now.arc w) c.turned-way.ensures (subst
          (λ n. 0 < n) c.room.ensures c.if-room-gt0.true);
    } in
    let all : IsIntact c.args.arcs.now c.args.flows.now c.args.incidence.now.starts.items c.args.incidence.now.list.items c.args.levels.now
    (set c.args.next.now c.args.at c.loop-place.place) =
    intact_set c.args.arcs.now c.args.flows.now c.args.levels.now
    (length c.args.levels.now) c.args.incidence.now.starts.items c.args.incidence.now.list.items c.requires.incidence c.args.next.now c.requires.pointers
    c.args.at c.args.level c.requires.at c.requires.at_level c.loop-place.place (omega arith)
    (subst (λ (i : Incident). IsOpen c.args.arcs.now c.args.flows.now c.args.levels.now c.args.level i) item open_here) intact in
    subst (λ (n : List ℕ). IsIntact c.args.arcs.now c.args.flows.now c.args.incidence.now.starts.items c.args.incidence.now.list.items c.args.levels.now
    (set n c.args.at c.loop-place.place)) (sym c.loop-place.invariant.same) all

pub returns-clause-pointers : goal.returns-clause-pointers
returns-clause-pointers c =
    let end : c.index-end.result.now ≡ get_or c.args.incidence.now.starts.items (c.args.at + 1) 0 =
    c.index-end.ensures ∙ get_or_default c.args.incidence.now.starts.items (c.args.at + 1) _ 0 (omega (arith, c.requires.incidence.count, c.requires.at)) in
    subst (λ (n : List ℕ). ArePointers (length c.args.levels.now) c.args.incidence.now.starts.items (set n c.args.at c.index-end.result.now)) (sym c.loop-place.invariant.same)
    (pointers_set c.args.arcs.now c.args.flows.now c.args.levels.now
    (length c.args.levels.now) c.args.incidence.now.starts.items c.args.incidence.now.list.items c.requires.incidence c.args.next.now c.requires.pointers
    c.args.at c.args.level c.requires.at c.requires.at_level c.index-end.result.now (omega (arith, c.requires.incidence.order c.args.at c.requires.at)) (omega arith))

pub returns-clause-none : goal.returns-clause-none
returns-clause-none c =
    let end : c.index-end.result.now ≡ get_or c.args.incidence.now.starts.items (c.args.at + 1) 0 =
    c.index-end.ensures ∙ get_or_default c.args.incidence.now.starts.items (c.args.at + 1) _ 0 (omega (arith, c.requires.incidence.count, c.requires.at)) in
    intact_none c.args.arcs.now c.args.flows.now c.args.levels.now
    (length c.args.levels.now) c.args.incidence.now.starts.items c.args.incidence.now.list.items c.requires.incidence c.args.next.now c.requires.pointers
    c.args.at c.args.level c.requires.at c.requires.at_level
    (λ p low high. c.loop-place.invariant.none p low (omega arith))
