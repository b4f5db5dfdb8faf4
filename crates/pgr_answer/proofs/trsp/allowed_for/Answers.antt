-- Group by group what is found is for the pairs so far; the sort moves it alone.
use Rattle.std.proofs.Common.{◌≡◌, ◌++◌, [], length, refl, sym, ap, subst, ◌∙◌, rules, arith, append_assoc, take-append-drop}
use Rattle.std.proofs.lemmas.Bool.Decides.{Decides-eqb}
use Rattle.std.proofs.lemmas.List.Elements.{All-take, All-drop}
use Rattle.std.proofs.lemmas.List.Sorted.{answers_always}
use Rattle.pgr_outside.specs.Lists.{IsStrictlyRising}
use Rattle.pgr_turns.specs.Seen.{restrictions_of}
use Rattle.pgr_answer.specs.Gathering.{pair_cmp}
use Rattle.pgr_answer.specs.AllowedRoutes.{IsAllowedRoute, allowed_over}
use Rattle.pgr_answer.specs.Finding.{IsPairAmong, AreFoundBy}
use Rattle.pgr_answer.proofs.FoundLemmas.{none_found, rises_front, found_moved, found_rises, all_done}
use Rattle.pgr_answer.specs.Networks.{id_links}
use Rattle.pgr_answer.proofs.trsp.allowed_for.Goals as goal

pub loop-rest-init : goal.loop-rest-init
loop-rest-init g c = record {
  done = [];
  order = refl;
  among = c.requires.among;
  found = rw c.new-found.ensures.items (none_found _ _ _, λ i j d before inside. absurd (omega arith));
  size = c.in_ok-room.ensures.size;
}

pub allow_group-requires-clause-among : goal.allow_group-requires-clause-among
allow_group-requires-clause-among g c = rw c.split_at.ensures.front (All-take (IsPairAmong (length c.args.network.now.names)) _ c.loop-rest.rest.now c.loop-rest.invariant.among)

pub allow_group-requires-clause-size : goal.allow_group-requires-clause-size
allow_group-requires-clause-size g c = c.loop-rest.invariant.size ∙ c.size-size.ensures

pub loop-rest-preserved : goal.loop-rest-preserved
loop-rest-preserved g c =
    let so_far = c.loop-rest.invariant in
    let front = c.split_at.result.0.now in
    let back = c.split_at.result.1.now in
    let parts : c.loop-rest.rest.now ≡ front ++ back = rw (c.split_at.ensures.front, c.split_at.ensures.back) (sym (take-append-drop c.count_of_end.result c.loop-rest.rest.now)) in
    let order : c.args.pairs.now ≡ (so_far.done ++ front) ++ back = so_far.order ∙ ap (λ rest. so_far.done ++ rest) parts ∙ sym (append_assoc so_far.done front back) in
    record {
      done = so_far.done ++ front;
      order = order;
      among = rw c.split_at.ensures.back (All-drop (IsPairAmong (length c.args.network.now.names)) _ c.loop-rest.rest.now so_far.among);
      found = c.in_ok-allow_group.ensures.found so_far.done (rises_front pair_cmp (so_far.done ++ front) back
          (subst (IsStrictlyRising pair_cmp) order c.requires.rise)) so_far.found;
      size = c.in_ok-allow_group.ensures.size ∙ sym c.size-size.ensures;
    }

pub returns-clause-found : goal.returns-clause-found
returns-clause-found g c =
    let so_far = c.loop-rest.invariant in
    let links = id_links c.args.network.now in
    let restrictions = restrictions_of c.args.turned.now in
    let none : length c.loop-rest.rest.now ≡ 0 = (Decides-eqb (length c.loop-rest.rest.now) 0).0 (sym c.is_empty.ensures ∙ c.loop-rest-test.false) in
    let done = all_done c.args.pairs.now so_far.done c.loop-rest.rest.now so_far.order none in
    let names = c.args.network.now.names in
    let are = subst (λ pairs. AreFoundBy (allowed_over links restrictions) (IsAllowedRoute links restrictions names) names pairs c.loop-rest.found.items)
    done so_far.found.0 in
    found_moved _ _ _ _ _ _ c.sort_unstable_by_key.ensures.permutation are

pub returns-clause-rise : goal.returns-clause-rise
returns-clause-rise g c =
    found_rises _ _ c.loop-rest.invariant.found.1 c.sort_unstable_by_key.ensures.permutation
    (c.sort_unstable_by_key.ensures.sorted (λ f. (f.start, f.end)) (answers_always _ _ _ (λ f a r g h. search rules)))
