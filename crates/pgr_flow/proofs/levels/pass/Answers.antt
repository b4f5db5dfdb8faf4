use Rattle.std.proofs.Common.{◌≡◌, ◌∙◌, ◌<◌, ◌≤◌, ◌+◌, sym, subst, ap, arith, length, nat_eq, get_or, List, ℕ, [], ◌∷◌, ◌++◌, None, Some, Option, set, is_some}
use Rattle.std.proofs.lemmas.List.{get_or_default}
use Rattle.pgr_flow.specs.declared.incidence.Incident.{Incident}
use Rattle.pgr_flow.specs.Flow.{among}
use Rattle.pgr_flow.specs.Residual.{room}
use Rattle.pgr_flow.specs.Incidence.{no_incident, incident_at}
use Rattle.pgr_flow.specs.Levels.{level_at, labelled}
use Rattle.pgr_flow.proofs.Passing.{IsPassing, passing_start, passing_on, passing_label, passing_end, other_below, arc_inside, labelled_inside, no_level_by, has_level_by}
use Rattle.pgr_flow.proofs.levels.pass.Goals as goal
use Rattle.pgr_flow.proofs.levels.pass.Goals.{then-is_none+then-room-gt0+in_ok-label, else-is_none, else-is_none-via-then-is_none+else-room-gt0, else-is_none-via-else-is_none}

pub slice_copy_out-unwrap : goal.slice_copy_out-unwrap
slice_copy_out-unwrap c =
    let v : c.index-v.result.now ≡ get_or c.args.queue.now.items c.args.head 0 = c.index-v.ensures ∙ get_or_default c.args.queue.now.items c.args.head _ 0 c.requires.head in
    labelled_inside c.args.levels.now c.index-v.result.now (ap (labelled c.args.levels.now) v ∙ c.requires.searched.queued c.args.head c.requires.head)

at_start : (starts : List ℕ) (v x : ℕ) → x ≡ get_or starts v x → v < length starts → x ≡ get_or starts v 0
at_start starts v x e lt = e ∙ get_or_default starts v x 0 lt

at_item : (list : List Incident) (p : ℕ) (x : Incident) → x ≡ get_or list p x → p < length list → x ≡ incident_at list p
at_item list p x e lt = e ∙ get_or_default list p x no_incident lt

pub loop-place-init : goal.loop-place-init
loop-place-init c =
    let v : c.index-v.result.now ≡ get_or c.args.queue.now.items c.args.head 0 = at_start c.args.queue.now.items c.args.head _ c.index-v.ensures c.requires.head in
    let below = labelled_inside c.args.levels.now c.index-v.result.now (ap (labelled c.args.levels.now) v ∙ c.requires.searched.queued c.args.head c.requires.head) in
    let start : c.index-start.result.now ≡ get_or c.args.incidence.now.starts.items c.index-v.result.now 0 =
    at_start c.args.incidence.now.starts.items c.index-v.result.now _ c.index-start.ensures (omega (arith, c.requires.incidence.count, below)) in
    let level : level_at c.args.levels.now c.index-v.result.now ≡ Some c.unwrap-level.result = c.unwrap-level.ensures in
    subst (λ place. IsPassing c.args.arcs.now c.args.flows.now (among nat_eq c.args.sources.now)
    (length c.args.levels.now) c.args.incidence.now.starts.items c.args.incidence.now.list.items c.args.levels.now
    c.args.levels.now c.args.queue.now.items c.args.head c.index-v.result.now c.unwrap-level.result place) (sym start)
    (passing_start c.args.arcs.now c.args.flows.now (among nat_eq c.args.sources.now)
    (length c.args.levels.now) c.args.incidence.now.starts.items c.args.incidence.now.list.items c.args.levels.now c.args.levels.now
    c.args.queue.now.items c.args.head c.index-v.result.now c.unwrap-level.result c.requires.below c.requires.incidence c.requires.searched c.requires.head (sym v) level)

pub index-incident-requires : goal.index-incident-requires
index-incident-requires c =
    let below = labelled_inside c.loop-place.levels c.index-v.result.now (ap is_some c.loop-place.invariant.level_is) in
    let end : c.index-end.result.now ≡ get_or c.args.incidence.now.starts.items (c.index-v.result.now + 1) 0 =
    at_start c.args.incidence.now.starts.items (c.index-v.result.now + 1) _ c.index-end.ensures (omega (arith, c.requires.incidence.count, below)) in
    omega (arith, c.requires.incidence.inside (c.index-v.result.now + 1) (omega (arith, below)))

pub bounds-levels-incident : goal.bounds-levels-incident
bounds-levels-incident c =
    let below = labelled_inside c.loop-place.levels c.index-v.result.now (ap is_some c.loop-place.invariant.level_is) in
    let small : c.index-v.result.now < length c.args.levels.now = omega (arith, below) in
    let start : c.index-start.result.now ≡ get_or c.args.incidence.now.starts.items c.index-v.result.now 0 =
    at_start c.args.incidence.now.starts.items c.index-v.result.now _ c.index-start.ensures (omega (arith, c.requires.incidence.count, below)) in
    let end : c.index-end.result.now ≡ get_or c.args.incidence.now.starts.items (c.index-v.result.now + 1) 0 =
    at_start c.args.incidence.now.starts.items (c.index-v.result.now + 1) _ c.index-end.ensures (omega (arith, c.requires.incidence.count, below)) in
    let item : c.index-incident.result.now ≡ incident_at c.args.incidence.now.list.items c.loop-place.place =
    at_item c.args.incidence.now.list.items c.loop-place.place _ c.index-incident.ensures (omega (
      arith,
      c.requires.incidence.inside (c.index-v.result.now + 1) (omega
          (arith, below)),
    )) in
    omega (
      arith,
      ap (λ (i : Incident). i.other) item,
      other_below c.args.arcs.now c.args.flows.now (among nat_eq c.args.sources.now) (length c.args.levels.now) c.args.incidence.now.starts.items
          c.args.incidence.now.list.items c.args.levels.now c.loop-place.levels c.loop-place.queue.items c.args.head c.index-v.result.now c.unwrap-level.result
          c.requires.below c.requires.incidence c.loop-place.place
          c.loop-place.invariant small (omega arith) (omega arith),
    )

pub room-requires-clause-arc : goal.room-requires-clause-arc
room-requires-clause-arc c =
    let below = labelled_inside c.loop-place.levels c.index-v.result.now (ap is_some c.loop-place.invariant.level_is) in
    let small : c.index-v.result.now < length c.args.levels.now = omega (arith, below) in
    let start : c.index-start.result.now ≡ get_or c.args.incidence.now.starts.items c.index-v.result.now 0 =
    at_start c.args.incidence.now.starts.items c.index-v.result.now _ c.index-start.ensures (omega (arith, c.requires.incidence.count, below)) in
    let end : c.index-end.result.now ≡ get_or c.args.incidence.now.starts.items (c.index-v.result.now + 1) 0 =
    at_start c.args.incidence.now.starts.items (c.index-v.result.now + 1) _ c.index-end.ensures (omega (arith, c.requires.incidence.count, below)) in
    let item : c.index-incident.result.now ≡ incident_at c.args.incidence.now.list.items c.loop-place.place =
    at_item c.args.incidence.now.list.items c.loop-place.place _ c.index-incident.ensures (omega (
      arith,
      c.requires.incidence.inside (c.index-v.result.now + 1) (omega
          (arith, below)),
    )) in
    omega (
      arith,
      ap (λ (i : Incident). i.arc) item,
      arc_inside c.args.arcs.now c.args.flows.now (among nat_eq c.args.sources.now) (length c.args.levels.now) c.args.incidence.now.starts.items
          c.args.incidence.now.list.items c.args.levels.now c.loop-place.levels c.loop-place.queue.items c.args.head c.index-v.result.now c.unwrap-level.result
          c.requires.below c.requires.incidence c.loop-place.place
          c.loop-place.invariant small (omega arith) (omega arith),
    )

pub label-requires : goal.label-requires
label-requires c =
    let below = labelled_inside c.loop-place.levels c.index-v.result.now (ap is_some c.loop-place.invariant.level_is) in
    let small : c.index-v.result.now < length c.args.levels.now = omega (arith, below) in
    let start : c.index-start.result.now ≡ get_or c.args.incidence.now.starts.items c.index-v.result.now 0 =
    at_start c.args.incidence.now.starts.items c.index-v.result.now _ c.index-start.ensures (omega (arith, c.requires.incidence.count, below)) in
    let end : c.index-end.result.now ≡ get_or c.args.incidence.now.starts.items (c.index-v.result.now + 1) 0 =
    at_start c.args.incidence.now.starts.items (c.index-v.result.now + 1) _ c.index-end.ensures (omega (arith, c.requires.incidence.count, below)) in
    let item : c.index-incident.result.now ≡ incident_at c.args.incidence.now.list.items c.loop-place.place =
    at_item c.args.incidence.now.list.items c.loop-place.place _ c.index-incident.ensures (omega (
      arith,
      c.requires.incidence.inside (c.index-v.result.now + 1) (omega
          (arith, below)),
    )) in
    omega (
      arith,
      ap (λ (i : Incident). i.other) item,
      other_below c.args.arcs.now c.args.flows.now (among nat_eq c.args.sources.now) (length c.args.levels.now) c.args.incidence.now.starts.items
          c.args.incidence.now.list.items c.args.levels.now c.loop-place.levels c.loop-place.queue.items c.args.head c.index-v.result.now c.unwrap-level.result
          c.requires.below c.requires.incidence c.loop-place.place
          c.loop-place.invariant small (omega arith) (omega arith),
    )

pub returns-clause-searched : goal.returns-clause-searched
returns-clause-searched c =
    let below = labelled_inside c.loop-place.levels c.index-v.result.now (ap is_some c.loop-place.invariant.level_is) in
    let end : c.index-end.result.now ≡ get_or c.args.incidence.now.starts.items (c.index-v.result.now + 1) 0 =
    at_start c.args.incidence.now.starts.items (c.index-v.result.now + 1) _ c.index-end.ensures (omega (arith, c.requires.incidence.count, below)) in
    passing_end c.args.arcs.now c.args.flows.now (among nat_eq c.args.sources.now)
    (length c.args.levels.now) c.args.incidence.now.starts.items c.args.incidence.now.list.items c.args.levels.now c.loop-place.levels
    c.loop-place.queue.items c.args.head c.index-v.result.now c.unwrap-level.result c.requires.below c.requires.incidence c.loop-place.place c.loop-place.invariant (omega arith)

pub loop-place-preserved : goal.loop-place-preserved
loop-place-preserved c =
    let below = labelled_inside c.loop-place.levels c.index-v.result.now (ap is_some c.loop-place.invariant.level_is) in
    let small : c.index-v.result.now < length c.args.levels.now = omega (arith, below) in
    let start : c.index-start.result.now ≡ get_or c.args.incidence.now.starts.items c.index-v.result.now 0 =
    at_start c.args.incidence.now.starts.items c.index-v.result.now _ c.index-start.ensures (omega (arith, c.requires.incidence.count, below)) in
    let end : c.index-end.result.now ≡ get_or c.args.incidence.now.starts.items (c.index-v.result.now + 1) 0 =
    at_start c.args.incidence.now.starts.items (c.index-v.result.now + 1) _ c.index-end.ensures (omega (arith, c.requires.incidence.count, below)) in
    let item : c.index-incident.result.now ≡ incident_at c.args.incidence.now.list.items c.loop-place.place =
    at_item c.args.incidence.now.list.items c.loop-place.place _ c.index-incident.ensures (omega (
      arith,
      c.requires.incidence.inside (c.index-v.result.now + 1) (omega
          (arith, below)),
    )) in
    let low : get_or c.args.incidence.now.starts.items c.index-v.result.now 0 ≤ c.loop-place.place = omega arith in
    let high : c.loop-place.place < get_or c.args.incidence.now.starts.items (c.index-v.result.now + 1) 0 = omega arith in
    let the = incident_at c.args.incidence.now.list.items c.loop-place.place in
    elim c.if-is_none.branch [
      | then-is_none+then-room-gt0+in_ok-label w ↦
          let none : level_at c.loop-place.levels c.index-incident.result.now.other ≡ None =
          no_level_by (level_at c.loop-place.levels c.index-incident.result.now.other) c.is_none.result c.is_none.ensures w.if-is_none.true in
          let none_there : level_at c.loop-place.levels (incident_at c.args.incidence.now.list.items c.loop-place.place).other ≡ None = ap (λ
          (i : Incident). level_at c.loop-place.levels i.other) (sym item) ∙ none in
          let some : 0 < room c.args.arcs.now c.args.flows.now (incident_at c.args.incidence.now.list.items c.loop-place.place).arc
          (incident_at c.args.incidence.now.list.items c.loop-place.place).out =
          omega (arith, w.room.ensures, ap (λ (i : Incident). room c.args.arcs.now c.args.flows.now i.arc i.out) item, w.if-room-gt0.true) in
          let new : c.if-is_none.levels ≡ set c.loop-place.levels (incident_at c.args.incidence.now.list.items c.loop-place.place).other (Some (c.unwrap-level.result + 1)) =
          w.levels-is ∙ (w.in_ok-label.ensures.levels ∙ ap (λ (i : Incident). set c.loop-place.levels i.other (Some (c.unwrap-level.result + 1))) item) in
          let pushed : c.if-is_none.queue.items ≡ c.loop-place.queue.items ++ c.index-incident.result.now.other ∷ [] = rw w.queue-is w.in_ok-label.ensures.queue in
          let queue : c.if-is_none.queue.items ≡ c.loop-place.queue.items ++ (incident_at c.args.incidence.now.list.items c.loop-place.place).other ∷ [] =
          pushed ∙ ap (λ (i : Incident). c.loop-place.queue.items ++ i.other ∷ []) item in
          let all = passing_label c.args.arcs.now c.args.flows.now (among nat_eq c.args.sources.now)
          (length c.args.levels.now) c.args.incidence.now.starts.items c.args.incidence.now.list.items c.args.levels.now c.loop-place.levels
          c.loop-place.queue.items c.args.head c.index-v.result.now c.unwrap-level.result c.requires.below c.requires.incidence c.loop-place.place c.loop-place.invariant small
          low high none_there some in
          subst (λ (x : List (Option ℕ)). IsPassing c.args.arcs.now c.args.flows.now (among nat_eq c.args.sources.now)
          (length c.args.levels.now) c.args.incidence.now.starts.items c.args.incidence.now.list.items
          c.args.levels.now x c.if-is_none.queue.items c.args.head c.index-v.result.now c.unwrap-level.result (c.loop-place.place + 1)) (sym new)
          (subst (λ (x : List ℕ). IsPassing c.args.arcs.now c.args.flows.now (among nat_eq c.args.sources.now)
          (length c.args.levels.now) c.args.incidence.now.starts.items c.args.incidence.now.list.items
          c.args.levels.now (set c.loop-place.levels (incident_at c.args.incidence.now.list.items c.loop-place.place).other (Some
          (c.unwrap-level.result + 1))) x c.args.head c.index-v.result.now c.unwrap-level.result (c.loop-place.place + 1)) (sym queue) all)
      | else-is_none w ↦
          rw (w.levels-is, w.queue-is) (passing_on c.args.arcs.now c.args.flows.now (among nat_eq c.args.sources.now)
          (length c.args.levels.now) c.args.incidence.now.starts.items c.args.incidence.now.list.items c.args.levels.now c.loop-place.levels
          c.loop-place.queue.items c.args.head c.index-v.result.now c.unwrap-level.result c.requires.below c.requires.incidence c.loop-place.place c.loop-place.invariant small
          low high (λ some. elim w.else-is_none.branch [
            | else-is_none-via-then-is_none+else-room-gt0 u ↦
                absurd (omega (arith, u.room.ensures, ap (λ (i : Incident). room c.args.arcs.now c.args.flows.now i.arc i.out) item, u.if-room-gt0.false, some))
            | else-is_none-via-else-is_none u ↦
                ap (λ (i : Incident). labelled c.loop-place.levels i.other) (sym item)
                ∙ has_level_by (level_at c.loop-place.levels c.index-incident.result.now.other) c.is_none.result c.is_none.ensures u.if-is_none.false
          ]))
    ]
