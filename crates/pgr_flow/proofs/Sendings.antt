-- An amount that is sent over a walk, step by step, and what it does to flows and values.
use Rattle.std.proofs.Common.{◌≡◌, ℕ, ◌+◌, ◌-◌, ◌<◌, ◌≤◌, ⊎_elim, Bool, true, false, cond, ltb, eqb, nat_eq, List, length, take, get_or, set, sym, ap, ◌∙◌, subst, arith, Option, Some}
use Rattle.std.specs.List.{sum_by}
use Rattle.std.proofs.lemmas.Bool.{cases_lt}
use Rattle.std.proofs.lemmas.Bool.Decides.{nat_tests, eqb_tells}
use Rattle.std.proofs.lemmas.List.{get_or-take, length-take-le}
use Rattle.pgr_walks.specs.declared.link.LinkOf.{LinkOf}
use Rattle.pgr_flow.specs.declared.residual.Step.{Step}
use Rattle.pgr_flow.specs.Flow.{leaving, entering, AreWithin, IsFlow}
use Rattle.pgr_flow.specs.Residual.{arc_at, start_of, room, flow_after, LeadsOver, IsResidual}
use Rattle.pgr_flow.specs.Levels.{level_at}
use Rattle.pgr_flow.specs.Descent.{no_step, step_at, node, IsDescent}
use Rattle.pgr_flow.specs.Sending.{IsResidualWalk, IsMoved, RisesTo, RisesAbove}
use Rattle.pgr_flow.proofs.Sums.{sum_where-le}
use Rattle.pgr_flow.proofs.Pushing.{moved_over, within_after, room_after, moved_on, moved_none}
use Rattle.pgr_flow.proofs.Descents.{node_below, node_top}

-- where a walk stands after i steps
pub stop : List Step → ℕ → ℕ
stop walk i = cond (ltb 0 i) (step_at walk (i - 1)).to (step_at walk 0).from

stop_more : (walk : List Step) (i : ℕ) → stop walk (i + 1) ≡ (step_at walk i).to
unfolding stop
stop_more walk i =
    let e : ltb 0 (i + 1) ≡ true = grind (arith, nat_tests) in
    let f : i + 1 - 1 ≡ i = omega arith in
    ap (λ b. cond b (step_at walk (i + 1 - 1)).to (step_at walk 0).from) e ∙ ap (λ x. (step_at walk x).to) f

stop_start : (walk : List Step) → stop walk 0 ≡ (step_at walk 0).from
unfolding stop
stop_start walk = let e : ltb 0 0 ≡ false = grind (arith, nat_tests) in ap (λ b. cond b (step_at walk (0 - 1)).to (step_at walk 0).from) e

-- the walk so far: what was sent is at its stop, and every later step has room for it
pub record IsSent (arcs : List (LinkOf ℕ)) (walk : List Step) (amount : ℕ) (old now : List ℕ) (i : ℕ) : Type 0 where
  pub within : AreWithin arcs now
  pub moved : IsMoved arcs (step_at walk 0).from (stop walk i) amount old now
  pub roomy : (j : ℕ) → i ≤ j → j < length walk → amount ≤ room arcs now (step_at walk j).arc (step_at walk j).way

module _ (arcs : List (LinkOf ℕ)) (walk : List Step) (old : List ℕ) (is_walk : IsResidualWalk arcs old walk) (amount : ℕ) where
  stop_from : (i : ℕ) → i < length walk → stop walk i ≡ (step_at walk i).from
  stop_from i lt = ⊎_elim
      (λ (first : i < 1). (let e : i ≡ 0 = omega arith in ap (stop walk) e ∙ (stop_start walk ∙ ap (λ x. (step_at walk x).from) (sym e))))
      (λ (later : 1 ≤ i). (let e : i ≡ i - 1 + 1 = omega arith in ap (stop walk) e ∙ (stop_more walk (i - 1) ∙ (is_walk.joined (i - 1) (omega arith)
      ∙ ap (λ x. (step_at walk x).from) (sym e)))))
      (cases_lt i 1)

  pub sent_start : AreWithin arcs old → ((j : ℕ) → j < length walk → amount ≤ room arcs old (step_at walk j).arc (step_at walk j).way) → IsSent arcs walk amount old old 0
  sent_start within roomy = record {
    within = within;
    moved = subst (λ x. IsMoved arcs (step_at walk 0).from x amount old old) (sym (stop_start walk)) (moved_none arcs old (step_at walk 0).from amount);
    roomy = λ j from lt. roomy j lt;
  }

  pub sent_more : (now : List ℕ) (i : ℕ) → IsSent arcs walk amount old now i → i < length walk
      → IsSent arcs walk amount old (set now (step_at walk i).arc (flow_after (step_at walk i).way (get_or now (step_at walk i).arc 0) amount)) (i + 1)
  sent_more now i sent lt =
      let step = step_at walk i in
      let leads : LeadsOver arcs (step_at walk i).arc (step_at walk i).way (step_at walk i).from (step_at walk i).to = (is_walk.residual i lt).leads in
      let small = sent.roomy i (omega arith) lt in
      record {
        within = within_after arcs now sent.within (step_at walk i).arc (step_at walk i).way amount leads.inside small;
        moved = subst (λ x. IsMoved arcs (step_at walk 0).from x amount old (set now (step_at walk i).arc (flow_after (step_at walk i).way (get_or now
            (step_at walk i).arc 0) amount))) (sym (stop_more walk i))
            (moved_on arcs old now (set now (step_at walk i).arc (flow_after (step_at walk i).way (get_or now (step_at walk i).arc 0) amount)) (step_at walk 0).from
            (step_at walk i).from (step_at walk i).to amount
            (subst (λ x. IsMoved arcs (step_at walk 0).from x amount old now) (stop_from i lt) sent.moved)
            (moved_over arcs now sent.within (step_at walk i).arc (step_at walk i).way (step_at walk i).from (step_at walk i).to amount leads small));
        roomy = λ j from inside.
            (let before = sent.roomy j (omega arith) inside in
            let after = room_after arcs now sent.within (step_at walk i).arc (step_at walk i).way amount (step_at walk j).arc (step_at walk j).way leads.inside small
            (λ same_arc same_way. is_walk.once i j (omega arith) inside (sym same_arc) (sym same_way)) in
            omega (arith, before, after));
      }

  pub sent_all : (now : List ℕ) (i : ℕ) → IsSent arcs walk amount old now i → i ≡ length walk
      → IsMoved arcs (step_at walk 0).from (step_at walk (length walk - 1)).to amount old now
  sent_all now i sent e =
      let some = is_walk.some in
      let f : i ≡ length walk - 1 + 1 = omega arith in
      subst (λ x. IsMoved arcs (step_at walk 0).from x amount old now) (ap (stop walk) f ∙ stop_more walk (length walk - 1)) sent.moved

-- a walk down the levels to a source is a walk of residual links
pub descent_walk : (arcs : List (LinkOf ℕ)) (flows : List ℕ) (levels : List (Option ℕ)) (steps : List Step) (t top at : ℕ) → IsDescent arcs flows levels steps t top 0 at → 0 < top
    → IsResidualWalk arcs flows (take top steps)
descent_walk arcs flows levels steps t top at d some = record {
  some = omega (arith, size);
  residual = λ i lt. subst (λ (s : Step). IsResidual arcs flows s.arc s.way s.from s.to) (sym (same i (omega (arith, size)))) (d.falls i (omega arith) (omega
      (arith, size))).residual;
  joined = λ i lt. ap (λ (s : Step). s.to) (same i (omega (arith, size))) ∙ (d.ends i (omega arith) (omega (arith, size)) ∙ (node_below steps t top (i + 1) (omega (arith, size))
      ∙ ap (λ (s : Step). s.from) (sym (same (i + 1) (omega (arith, size))))));
  once = λ i j before lt arc way.
      (let a = d.falls i (omega arith) (omega (arith, size)) in
      let b = d.falls j (omega arith) (omega (arith, size)) in
      let arcs_same : (step_at steps i).arc ≡ (step_at steps j).arc = ap (λ (s : Step). s.arc) (sym (same i (omega (arith, size)))) ∙ (arc
      ∙ ap (λ (s : Step). s.arc) (same j (omega (arith, size)))) in
      let ways_same : (step_at steps i).way ≡ (step_at steps j).way = ap (λ (s : Step). s.way) (sym (same i (omega (arith, size)))) ∙ (way
      ∙ ap (λ (s : Step). s.way) (same j (omega (arith, size)))) in
      let from : (step_at steps i).from ≡ (step_at steps j).from = sym a.residual.leads.start ∙ (ap (λ k. start_of (step_at steps i).way (arc_at arcs k)) arcs_same
      ∙ (ap (λ w. start_of w (arc_at arcs (step_at steps j).arc)) ways_same ∙ b.residual.leads.start)) in
      let levels_same : Some i ≡ Some j = sym a.from_level ∙ (ap (level_at levels) from ∙ b.from_level) in
      let e : i ≡ j = cc in
      omega arith);
}
  where
    size : length (take top steps) ≡ top
    size = length-take-le top steps d.high

    same : (i : ℕ) → i < top → step_at (take top steps) i ≡ step_at steps i
    same i lt = get_or-take top steps i no_step lt

-- its two ends
pub descent_begins : (arcs : List (LinkOf ℕ)) (flows : List ℕ) (levels : List (Option ℕ)) (steps : List Step) (t top at : ℕ) → IsDescent arcs flows levels steps t top 0 at
    → 0 < top
    → level_at levels (step_at (take top steps) 0).from ≡ Some 0
descent_begins arcs flows levels steps t top at d some = ap (λ (s : Step). level_at levels s.from) (get_or-take top steps 0 no_step some)
    ∙ (d.falls 0 (omega arith) some).from_level

pub descent_ends : (arcs : List (LinkOf ℕ)) (flows : List ℕ) (levels : List (Option ℕ)) (steps : List Step) (t top at : ℕ) → IsDescent arcs flows levels steps t top 0 at → 0 < top
    → (step_at (take top steps) (length (take top steps) - 1)).to ≡ t
descent_ends arcs flows levels steps t top at d some =
    let size = length-take-le top steps d.high in
    let last : length (take top steps) - 1 ≡ top - 1 = omega (arith, size) in
    let up : top - 1 + 1 ≡ top = omega arith in
    ap (λ i. (step_at (take top steps) i).to) last ∙ (ap (λ (s : Step). s.to) (get_or-take top steps (top - 1) no_step (omega arith))
    ∙ (d.ends (top - 1) (omega arith) (omega arith) ∙ (ap (node steps t top) up ∙ node_top steps t top)))

-- vertices that a test tells apart
pub told_apart : (test : ℕ → Bool) (v w : ℕ) → test v ≡ false → test w ≡ true → eqb v w ≡ false
told_apart test v w off on = ⊎_elim
    (λ h. absurd (let clash : true ≡ false = sym on ∙ (ap test (sym h.1) ∙ off) in cc))
    (λ h. h.0)
    (eqb_tells v w)

module _ (arcs : List (LinkOf ℕ)) (s t amount : ℕ) (old new : List ℕ) (moved : IsMoved arcs s t amount old new) where
  -- a flow stays one
  pub sent_flow : (source sink : ℕ → Bool) → source s ≡ true → sink t ≡ true → AreWithin arcs new → IsFlow nat_eq arcs source sink old → IsFlow nat_eq arcs source sink new
  sent_flow source sink from to within flow = record {
    within = within;
    kept = λ v not_source not_sink. omega (
      arith,
      moved (nat_eq v),
      flow.kept v not_source not_sink,
      ap (λ b. cond b amount 0) (told_apart source v s not_source from),
      ap (λ b. cond b amount 0) (told_apart sink v t not_sink to),
    );
  }

  -- and its value rises
  pub sent_rises : (source : ℕ → Bool) → source s ≡ true → source t ≡ false → 0 < amount → RisesAbove arcs source old new
  sent_rises source from to some = omega (arith, moved source, ap (λ b. cond b amount 0) from, ap (λ b. cond b amount 0) to)

  -- less is left that may come into the sink
  pub sent_measure : AreWithin arcs old → AreWithin arcs new → (s ≡ t → ⊥) → 0 < amount
      → sum_by (λ (a : LinkOf ℕ). a.cost) arcs + leaving (nat_eq t) arcs new - entering (nat_eq t) arcs new < sum_by (λ (a : LinkOf ℕ). a.cost) arcs + leaving
      (nat_eq t) arcs old - entering (nat_eq t) arcs old
  sent_measure before after apart some = omega (
    arith,
    moved (nat_eq t),
    ap (λ b. cond b amount 0) (same t),
    ap (λ b. cond b amount 0) (other t s apart),
    sum_where-le (λ (a : LinkOf ℕ). nat_eq t a.to) arcs old before,
    sum_where-le (λ (a : LinkOf ℕ). nat_eq t a.to) arcs new after,
  )
    where
      same : (v : ℕ) → eqb v v ≡ true
      same v = grind (arith, nat_tests)

      other : (v w : ℕ) → (w ≡ v → ⊥) → eqb v w ≡ false
      other v w ne = grind (arith, nat_tests)

pub RisesTo-refl : (arcs : List (LinkOf ℕ)) (source : ℕ → Bool) (flows : List ℕ) → RisesTo arcs source flows flows
RisesTo-refl arcs source flows = omega arith

pub rises_above : (arcs : List (LinkOf ℕ)) (source : ℕ → Bool) (a b c : List ℕ) → RisesTo arcs source a b → RisesAbove arcs source b c → RisesAbove arcs source a c
rises_above arcs source a b c first second = omega (arith, first, second)

pub above_rises : (arcs : List (LinkOf ℕ)) (source : ℕ → Bool) (a b c : List ℕ) → RisesAbove arcs source a b → RisesTo arcs source b c → RisesAbove arcs source a c
above_rises arcs source a b c first second = omega (arith, first, second)

pub rises_rises : (arcs : List (LinkOf ℕ)) (source : ℕ → Bool) (a b c : List ℕ) → RisesTo arcs source a b → RisesTo arcs source b c → RisesTo arcs source a c
rises_rises arcs source a b c first second = omega (arith, first, second)
