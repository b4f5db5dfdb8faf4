-- One step of a contraction as it runs keeps what is kept, and is the next step.
use Rattle.std.proofs.Common.{◌≡◌, ◌≢◌, ◌⊎◌, inl, inr, ℕ, ◌≤◌, ℤ, [], ◌∷◌, ◌++◌, Option, Some, None, sym, subst, ◌∙◌, ap, arith}
use Rattle.std.specs.List.{Contains}
use Rattle.std.specs.BTreeSet.{BTreeSet}
use Rattle.std.proofs.lemmas.List.Sums.{fold_push}
use Rattle.pgr_walks.specs.Graph.{greatest}
use Rattle.pgr_words.specs.declared.method.Method.{Method}
use Rattle.pgr_words.specs.declared.method.Method.TheVariants.{DeadEnd, Linear}
use Rattle.pgr_contract.specs.declared.event.Event.{Event}
use Rattle.pgr_contract.specs.declared.running.Task.{Task}
use Rattle.pgr_contract.specs.declared.running.Shrinking.{Shrinking}
use Rattle.pgr_contract.specs.State.{State, first_state}
use Rattle.pgr_contract.specs.Steps.{Qualifies, IsStep}
use Rattle.pgr_contract.specs.Run.{MayGo, IsNext}
use Rattle.pgr_contract.specs.Ways.{at_pair, kept_cost, AreSmall, AreLow, HoldsWays}
use Rattle.pgr_contract.specs.Events.{IsEventOf, after, vertex_of, state_of}
use Rattle.pgr_contract.specs.Candidates.{Among, Covers, IsTakenOut}
use Rattle.pgr_contract.specs.Running.{IsTask, IsRunning, IsNoted, IsNextIn, IsLogFrom, now_of}
use Rattle.pgr_contract.proofs.Ids.{same_id}
use Rattle.pgr_contract.proofs.LeastLinks.{IsLeastOr}
use Rattle.pgr_contract.proofs.WayChanges.{way_at-same}
use Rattle.pgr_contract.proofs.WayEvents.{cost_is}
use Rattle.pgr_contract.proofs.Weights.{cost_within}
use Rattle.pgr_contract.proofs.Sound.{IsSound, first_sound}
use Rattle.pgr_contract.proofs.EventSteps.{event_step, IsLogFrom-push, log_sound, covers_after, next_is, none_may}

-- the state of a contraction is sound
pub running_sound : (task : Task) (s : Shrinking) → IsTask task → IsRunning task s → IsSound task.directed task.links.now (now_of task s)
running_sound task s is running =
    log_sound task.directed task.links.now (first_state task.links.now) s.events.items (first_sound task.directed task.links.now is.opposites) running.log

-- so no cost is too great
pub running_small : (task : Task) (s : Shrinking) → IsTask task → IsRunning task s → AreSmall s.ways
running_small task s is running a b cost kept = by (same_id a b) where
  S : State
  S = now_of task s

  found : (o : Option ℕ) → o ≡ Some cost → IsLeastOr (Contains (now_of task s).links) a b o → cost ≤ greatest
  found None e least = absurd (let f = e in cc)
  found (Some c) e least =
      let same : c ≡ cost = cc in
      let sound = running_sound task s is running in
      omega (arith, least.cost_is, same, cost_within task.directed (now_of task s).links sound.opposites least.link least.has, sound.lighter, is.light)

  by : (a ≡ b) ⊎ (a ≢ b) → cost ≤ greatest
  by (inl same) = absurd (let e : None ≡ Some cost = sym (ap kept_cost (running.ways a b ∙ way_at-same (now_of task s).links a b same)) ∙ kept in cc)
  by (inr apart) = found (kept_cost (at_pair s.ways a b)) kept (cost_is (now_of task s).links s.ways running.ways a a b apart)

-- the state after one event more
now-push : (task : Task) (old new : Shrinking) (event : Event) → new.events.items ≡ old.events.items ++ event ∷ [] → now_of task new ≡ after task.directed (now_of task old) event
now-push task old new event is =
    ap (state_of task.directed task.links.now) is ∙ fold_push (after task.directed) (first_state task.links.now) old.events.items event

-- what is kept after a step, where the candidates had all but the vertex that goes
step_running : (task : Task) (old mid new : Shrinking) (event : Event) → IsTask task → IsRunning task old → mid.events.items ≡ old.events.items → mid.ways ≡ old.ways
    → IsEventOf (now_of task old).links event → IsNoted task event mid new
    → ((x : ℤ) → Contains (now_of task old).vertices x → ¬ Among task.barred x → Qualifies DeadEnd (Contains (now_of task old).links) x → x ≢ vertex_of event
    → Among mid.dead_ends x)
    → ((x : ℤ) → Among mid.dead_ends x → ¬ Among task.barred x)
    → ((x : ℤ) → Contains (now_of task old).vertices x → ¬ Among task.barred x → Qualifies Linear (Contains (now_of task old).links) x → x ≢ vertex_of event → Among mid.linears x)
    → ((x : ℤ) → Among mid.linears x → ¬ Among task.barred x) → IsRunning task new
step_running task old mid new event is running same_events same_ways of noted dead_all dead_allowed linear_all linear_allowed =
    let sound = running_sound task old is running in
    let S = now_of task old in
    let events : new.events.items ≡ old.events.items ++ event ∷ [] = noted.events ∙ ap (λ es. es ++ event ∷ []) same_events in
    let now : now_of task new ≡ after task.directed S event = now-push task old new event events in
    record {
      log = subst (λ es. IsLogFrom task.directed (first_state task.links.now) es) (sym events)
          (IsLogFrom-push task.directed (first_state task.links.now) old.events.items event running.log of);
      ways = subst (λ (T : State). HoldsWays T.links new.ways) (sym now)
          (noted.ways S sound.opposites (subst (λ w. HoldsWays S.links w) (sym same_ways) running.ways) of);
      low = noted.low (subst AreLow (sym same_ways) running.low);
      dead_ends = subst (λ T. Covers DeadEnd task.barred T new.dead_ends) (sym now)
          (covers_after task.directed DeadEnd task.barred S event mid.dead_ends new.dead_ends of dead_all dead_allowed noted.dead_ends);
      linears = subst (λ T. Covers Linear task.barred T new.linears) (sym now)
          (covers_after task.directed Linear task.barred S event mid.linears new.linears of linear_all linear_allowed noted.linears);
    }

-- a step that was found and noted
pub record IsDone (task : Task) (method : Method) (old new : Shrinking) : Type 0 where
  pub running : IsRunning task new
  pub step : (v : ℤ) × (IsNext method task.forbidden.now (now_of task old) v × IsStep task.directed method v (now_of task old) (now_of task new))

done_step : (task : Task) (method : Method) (old new : Shrinking) (event : Event) → IsRunning task new → IsTask task → IsRunning task old
    → new.events.items ≡ old.events.items ++ event ∷ [] → (set left : BTreeSet ℤ) → Covers method task.barred (now_of task old) set
    → IsTakenOut method (now_of task old).links set left event → IsDone task method old new
done_step task method old new event now is running events set left covers taken =
    let S = now_of task old in
    let step : IsStep task.directed method (vertex_of event) S (after task.directed S event)
    = subst (λ m. IsStep task.directed m (vertex_of event) S (after task.directed S event)) taken.by (event_step task.directed S event taken.event_of) in
    record {
      running = now;
      step = (
        vertex_of event,
        (
          next_is task.directed task.links.now method task.forbidden.now task.barred S set left event (running_sound task old is running) is.barred covers taken,
          subst (λ T. IsStep task.directed method (vertex_of event) S T) (sym (now-push task old new event events)) step,
        ),
      );
    }

-- the next step of a method, noted
pub step_done : (task : Task) (method : Method) (old mid new : Shrinking) (event : Event) → IsTask task → IsRunning task old → IsNextIn method old mid (Some event)
    → IsNoted task event mid new
    → IsDone task method old new
step_done task DeadEnd old mid new event is running next noted =
    let S = now_of task old in
    let taken = next.1 S.links running.ways in
    let events : mid.events.items ≡ old.events.items = ap (λ (s : Shrinking). s.events.items) next.0 in
    let ways : mid.ways ≡ old.ways = ap (λ (s : Shrinking). s.ways) next.0 in
    let linears : mid.linears ≡ old.linears = ap (λ (s : Shrinking). s.linears) next.0 in
    let now = step_running task old mid new event is running events ways taken.event_of noted
    (λ x stands free qualifies differs. taken.left x (running.dead_ends.all x stands free qualifies) qualifies differs)
    (λ x h. running.dead_ends.allowed x (taken.fewer x h))
    (λ x stands free qualifies differs. subst (λ set. Among set x) (sym linears) (running.linears.all x stands free qualifies))
    (λ x h. running.linears.allowed x (subst (λ set. Among set x) linears h)) in
    done_step task DeadEnd old new event now is running (noted.events ∙ ap (λ es. es ++ event ∷ []) events) old.dead_ends mid.dead_ends running.dead_ends taken
step_done task Linear old mid new event is running next noted =
    let S = now_of task old in
    let taken = next.1 S.links running.ways in
    let events : mid.events.items ≡ old.events.items = ap (λ (s : Shrinking). s.events.items) next.0 in
    let ways : mid.ways ≡ old.ways = ap (λ (s : Shrinking). s.ways) next.0 in
    let dead_ends : mid.dead_ends ≡ old.dead_ends = ap (λ (s : Shrinking). s.dead_ends) next.0 in
    let now = step_running task old mid new event is running events ways taken.event_of noted
    (λ x stands free qualifies differs. subst (λ set. Among set x) (sym dead_ends) (running.dead_ends.all x stands free qualifies))
    (λ x h. running.dead_ends.allowed x (subst (λ set. Among set x) dead_ends h))
    (λ x stands free qualifies differs. taken.left x (running.linears.all x stands free qualifies) qualifies differs)
    (λ x h. running.linears.allowed x (taken.fewer x h)) in
    done_step task Linear old new event now is running (noted.events ∙ ap (λ es. es ++ event ∷ []) events) old.linears mid.linears running.linears taken

-- with no next step nothing changed but candidates that don't qualify
pub record IsOver (task : Task) (method : Method) (old new : Shrinking) : Type 0 where
  pub running : IsRunning task new
  pub same : now_of task old ≡ now_of task new
  pub none : (x : ℤ) → ¬ MayGo method task.forbidden.now (now_of task old) x

-- the state is that of the same events
same_now : (task : Task) (old mid : Shrinking) → mid.events.items ≡ old.events.items → now_of task old ≡ now_of task mid
same_now task old mid same = ap (state_of task.directed task.links.now) (sym same)

over_running : (task : Task) (old mid : Shrinking) → IsRunning task old → mid.events.items ≡ old.events.items → mid.ways ≡ old.ways
    → Covers DeadEnd task.barred (now_of task old) mid.dead_ends → Covers Linear task.barred (now_of task old) mid.linears → IsRunning task mid
over_running task old mid running events ways dead_ends linears =
    let now = same_now task old mid events in
    record {
      log = subst (λ es. IsLogFrom task.directed (first_state task.links.now) es) (sym events) running.log;
      ways = subst (λ (T : State). HoldsWays T.links mid.ways) now (subst (λ w. HoldsWays (now_of task old).links w) (sym ways) running.ways);
      low = subst AreLow (sym ways) running.low;
      dead_ends = subst (λ T. Covers DeadEnd task.barred T mid.dead_ends) now dead_ends;
      linears = subst (λ T. Covers Linear task.barred T mid.linears) now linears;
    }

-- candidates of which none qualifies
none_covers : (method : Method) (barred : BTreeSet ℤ) (S : State) (old new : BTreeSet ℤ) → Covers method barred S old
    → ((x : ℤ) → Among old x → ¬ Qualifies method (Contains S.links) x)
    → ((x : ℤ) → Among new x → Among old x) → Covers method barred S new
none_covers method barred S old new covers none fewer = record {
  all = λ x stands free qualifies. absurd (none x (covers.all x stands free qualifies) qualifies);
  allowed = λ x h. covers.allowed x (fewer x h);
}

-- there is no next step of a method
pub step_over : (task : Task) (method : Method) (old mid : Shrinking) → IsTask task → IsRunning task old → IsNextIn method old mid None → IsOver task method old mid
step_over task DeadEnd old mid is running next =
    let S = now_of task old in
    let found = next.1 S.links running.ways in
    let events : mid.events.items ≡ old.events.items = ap (λ (s : Shrinking). s.events.items) next.0 in
    let ways : mid.ways ≡ old.ways = ap (λ (s : Shrinking). s.ways) next.0 in
    let linears : mid.linears ≡ old.linears = ap (λ (s : Shrinking). s.linears) next.0 in
    record {
      running = over_running task old mid running events ways
          (none_covers DeadEnd task.barred S old.dead_ends mid.dead_ends running.dead_ends found.0 found.1)
          (subst (λ set. Covers Linear task.barred S set) (sym linears) running.linears);
      same = same_now task old mid events;
      none = none_may DeadEnd task.forbidden.now task.barred S old.dead_ends is.barred running.dead_ends found.0;
    }
step_over task Linear old mid is running next =
    let S = now_of task old in
    let found = next.1 S.links running.ways in
    let events : mid.events.items ≡ old.events.items = ap (λ (s : Shrinking). s.events.items) next.0 in
    let ways : mid.ways ≡ old.ways = ap (λ (s : Shrinking). s.ways) next.0 in
    let dead_ends : mid.dead_ends ≡ old.dead_ends = ap (λ (s : Shrinking). s.dead_ends) next.0 in
    record {
      running = over_running task old mid running events ways
          (subst (λ set. Covers DeadEnd task.barred S set) (sym dead_ends) running.dead_ends)
          (none_covers Linear task.barred S old.linears mid.linears running.linears found.0 found.1);
      same = same_now task old mid events;
      none = none_may Linear task.forbidden.now task.barred S old.linears is.barred running.linears found.0;
    }
