-- Start by start what is found is for the pairs so far, and the notes are those of the starts so far.
use Rattle.std.proofs.Common.{◌≡◌, ◌++◌, List, [], length, refl, sym, ap, subst, ◌∙◌, arith, append_assoc, take-append-drop}
use Rattle.std.specs.Prelude.{Contains}
use Rattle.std.proofs.lemmas.List.{take_all}
use Rattle.std.proofs.lemmas.List.Elements.{All-take, All-drop}
use Rattle.pgr_outside.specs.Lists.{IsStrictlyRising}
use Rattle.pgr_answer.specs.declared.pair.Pair.{Pair}
use Rattle.pgr_answer.specs.Notes.{BreaksEstimate}
use Rattle.pgr_answer.specs.Noting.{AreNotesOf}
use Rattle.pgr_answer.specs.Networks.{id_links, IsRouteBetween}
use Rattle.pgr_answer.specs.Finding.{IsPairAmong, start_cmp, AreFound}
use Rattle.pgr_answer.proofs.NoteLemmas.{no_notes, notes_gain, starts_before}
use Rattle.pgr_answer.proofs.FoundLemmas.{none_found, rises_front, all_done}
use Rattle.pgr_answer.proofs.GuidedLemmas.{rises_back, later_starts, none_left}
use Rattle.pgr_answer.proofs.guided.guided_routes.Goals as goal

pub loop-start-init : goal.loop-start-init
loop-start-init g c = record {
  done = [];
  order = refl;
  among = c.requires.among;
  started = c.requires.started;
  found = rw c.new-found.ensures.items (none_found _ _ _, λ i j d before inside. absurd (omega arith));
  notes = no_notes _ _ _ _ _ refl c.requires.none;
  room = c.in_ok-room.ensures ∙ c.size.ensures;
}

pub trusted_estimate-requires-clause-start : goal.trusted_estimate-requires-clause-start
trusted_estimate-requires-clause-start g c = c.requires.starts c.loop-start.start-index _ (omega arith)

pub find_from-requires-clause-one_start : goal.find_from-requires-clause-one_start
find_from-requires-clause-one_start g c = rw c.split_at.ensures.front c.count_of_start.ensures.here

pub find_from-requires-clause-among : goal.find_from-requires-clause-among
find_from-requires-clause-among g c = rw c.split_at.ensures.front (All-take (IsPairAmong (length c.args.network.now.names)) _ c.loop-start.rest.now c.loop-start.invariant.among)

pub loop-start-preserved : goal.loop-start-preserved
loop-start-preserved g c =
    let so_far = c.loop-start.invariant in
    let names = c.args.network.now.names in
    let i = c.loop-start.start-index in
    let front = c.split_at.result.0.now in
    let back = c.split_at.result.1.now in
    let parts : c.loop-start.rest.now ≡ front ++ back =
    rw (c.split_at.ensures.front, c.split_at.ensures.back) (sym (take-append-drop c.count_of_start.result c.loop-start.rest.now)) in
    let order : c.args.pairs.now ≡ (so_far.done ++ front) ++ back = so_far.order ∙ ap (λ rest. so_far.done ++ rest) parts ∙ sym (append_assoc so_far.done front back) in
    record {
      done = so_far.done ++ front;
      order = order;
      among = rw c.split_at.ensures.back (All-drop (IsPairAmong (length names)) _ c.loop-start.rest.now so_far.among);
      started = rw c.split_at.ensures.back (later_starts c.args.starts.now c.requires.rise i _ (omega arith) refl c.loop-start.rest.now c.count_of_start.result
          (rises_back start_cmp so_far.done c.loop-start.rest.now (subst (IsStrictlyRising start_cmp) so_far.order c.requires.by_start))
          so_far.started c.count_of_start.ensures.within c.count_of_start.ensures.beyond);
      found = c.in_ok-find_from.ensures.found so_far.done (rises_front start_cmp (so_far.done ++ front) back
          (subst (IsStrictlyRising start_cmp) order c.requires.by_start)) so_far.found;
      notes = notes_gain _ _ names c.args.starts.now i _ (omega arith) refl _ _ so_far.notes
          (starts_before names (λ m n. c.numbers_rise_with_ids.ensures.order names m n c.args.network.now.rise) c.args.starts.now c.requires.rise c.requires.starts
          i _ (omega arith) refl)
          c.in_ok-estimate.ensures.noted;
      room = c.in_ok-find_from.ensures.room ∙ so_far.room;
    }

pub returns-clause-notes : goal.returns-clause-notes
returns-clause-notes g c = subst (λ starts. AreNotesOf (Contains (id_links c.args.network.now))
    (BreaksEstimate c.args.edges.now c.args.command.now.heuristic c.args.command.now.factor)
    c.args.network.now.names starts c.loop-start.notes.items) (take_all c.loop-start.start-index c.args.starts.now (omega (arith, c.loop-start-test.false)))
    c.loop-start.invariant.notes

pub returns-clause-found : goal.returns-clause-found
returns-clause-found g c =
    let so_far = c.loop-start.invariant in
    let names = c.args.network.now.names in
    let links = id_links c.args.network.now in
    let none = none_left c.args.starts.now c.loop-start.start-index (omega (arith, c.loop-start-test.false)) c.loop-start.rest.now so_far.started in
    let done = all_done c.args.pairs.now so_far.done c.loop-start.rest.now so_far.order none in
    subst (λ (pairs : List Pair). AreFound (Contains links) (IsRouteBetween links names) names pairs c.loop-start.found.items) done so_far.found.0

pub returns-clause-found_rise : goal.returns-clause-found_rise
returns-clause-found_rise g c = c.loop-start.invariant.found.1
