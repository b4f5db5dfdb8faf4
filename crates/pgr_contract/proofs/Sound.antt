-- What holds of each state of a run.
use Rattle.std.proofs.Common.{◌≡◌, ◌⊎◌, inl, inr, ℕ, ◌+◌, ◌≤◌, ℤ, Bool, true, false, List, [], ◌∷◌, ◌++◌, length, Option, Some, refl, sym, subst, ap, arith}
use Rattle.std.specs.List.{Contains, slice_get}
use Rattle.std.proofs.lemmas.List.Elements.{Contains-append_left, Contains-append_right, Contains-append_cases}
use Rattle.pgr_outside.proofs.Lists.{Contains-flat_map, Contains-here, Contains-later}
use Rattle.pgr_walks.specs.declared.link.LinkOf.{LinkOf}
use Rattle.pgr_walks.specs.Reaches.{turned}
use Rattle.pgr_words.specs.declared.method.Method.{Method}
use Rattle.pgr_words.specs.declared.method.Method.TheVariants.{DeadEnd, Linear}
use Rattle.pgr_contract.specs.State.{Made, State, ends_of, first_state, left_of, without_links_at, without_vertex, link_of_made, links_of_made}
use Rattle.pgr_contract.specs.Steps.{IsNeighbour, HasTwo, IsWayCost, shortcut, shortcuts_between, after_dead_end, after_linear, IsStep}
use Rattle.pgr_contract.specs.Run.{Takes, IsRun}
use Rattle.pgr_contract.specs.Weight.{weight}
use Rattle.pgr_contract.specs.Given.{HaveOpposites}
use Rattle.pgr_contract.proofs.Ids.{without_links-from, without_links-keeps, without_vertex-from, without_vertex-keeps}
use Rattle.pgr_contract.proofs.MadeLinks.{IsMade, IsMade-from, links_of_made-there, links_of_made-back}
use Rattle.pgr_contract.proofs.Places.{get_first, get_second, get_either}
use Rattle.pgr_contract.proofs.StepKeeps.{step_keeps, shortcut-from, at_place}
use Rattle.pgr_contract.proofs.Weights.{linear_weight, without_weight}

-- the ends of its links stand, and a link that was given or made stands where both its ends do
pub record IsSound (directed : Bool) (given : List (LinkOf ℤ)) (S : State) : Type 0 where
  pub ends : (link : LinkOf ℤ) → Contains S.links link → Contains S.vertices link.from × Contains S.vertices link.to
  pub opposites : directed ≡ false → HaveOpposites S.links
  pub lighter : weight directed S.links ≤ weight directed given
  pub vertices : (x : ℤ) → Contains S.vertices x → Contains (ends_of given) x
  pub stand : (link : LinkOf ℤ) → Contains given link → Contains S.vertices link.from → Contains S.vertices link.to → Contains S.links link
  pub made_stand : (n : ℕ) (m : Made) → slice_get S.made n ≡ Some m → Contains S.vertices m.from → Contains S.vertices m.to → Contains S.links (link_of_made n m)
  pub made_back : directed ≡ false → (n : ℕ) (m : Made) → slice_get S.made n ≡ Some m → Contains S.vertices m.from → Contains S.vertices m.to
      → Contains S.links (turned (link_of_made n m))
  pub links_are : (link : LinkOf ℤ) → Contains S.links link → Contains given link ⊎ IsMade directed 0 S.made link

-- the ends of links
pub end_from : (links : List (LinkOf ℤ)) (link : LinkOf ℤ) → Contains links link → Contains (ends_of links) link.from
end_from links link h = Contains-flat_map (λ (l : LinkOf ℤ). l.from ∷ l.to ∷ []) links link link.from h (Contains-here link.from (link.to ∷ []))

pub end_to : (links : List (LinkOf ℤ)) (link : LinkOf ℤ) → Contains links link → Contains (ends_of links) link.to
end_to links link h = Contains-flat_map (λ (l : LinkOf ℤ). l.from ∷ l.to ∷ []) links link link.to h
    (Contains-later link.from (link.to ∷ []) link.to (Contains-here link.to []))

-- the first state
pub first_sound : (directed : Bool) (given : List (LinkOf ℤ)) → (directed ≡ false → HaveOpposites given) → IsSound directed given (first_state given)
first_sound directed given opposites = record {
  ends = λ link h. (end_from given link h, end_to given link h);
  opposites = opposites;
  lighter = omega arith;
  vertices = λ x h. h;
  stand = λ link h from to. h;
  made_stand = λ n m at from to. absurd (let e = at in cc);
  made_back = λ undirected n m at from to. absurd (let e = at in cc);
  links_are = λ link h. inl h;
}

-- after a dead end
dead_end_sound : (directed : Bool) (given : List (LinkOf ℤ)) (S : State) (v u : ℤ) → IsSound directed given S → (directed ≡ false → HaveOpposites (after_dead_end v u S).links)
    → IsSound directed given (after_dead_end v u S)
dead_end_sound directed given S v u sound opposites = record {
  ends = λ link h.
      let (old, (from, to)) = without_links-from v S.links link h in
      (without_vertex-keeps v S.vertices link.from (sound.ends link old).0 from, without_vertex-keeps v S.vertices link.to (sound.ends link old).1 to);
  opposites = opposites;
  lighter = omega (arith, sound.lighter, without_weight directed v S.links);
  vertices = λ x h. sound.vertices x (without_vertex-from v S.vertices x h).0;
  stand = λ link h from to.
      let (from_old, from_v) = without_vertex-from v S.vertices link.from from in
      let (to_old, to_v) = without_vertex-from v S.vertices link.to to in
      without_links-keeps v S.links link (sound.stand link h from_old to_old) from_v to_v;
  made_stand = λ n m at from to.
      let (from_old, from_v) = without_vertex-from v S.vertices m.from from in
      let (to_old, to_v) = without_vertex-from v S.vertices m.to to in
      without_links-keeps v S.links (link_of_made n m) (sound.made_stand n m at from_old to_old) from_v to_v;
  made_back = λ undirected n m at from to.
      let (from_old, from_v) = without_vertex-from v S.vertices m.from from in
      let (to_old, to_v) = without_vertex-from v S.vertices m.to to in
      without_links-keeps v S.links (turned (link_of_made n m)) (sound.made_back undirected n m at from_old to_old) to_v from_v;
  links_are = λ link h. sound.links_are link (without_links-from v S.links link h).0;
}

-- the two ends of a new shortcut are the two neighbours
pub new_ends : (directed : Bool) (low high : ℤ) (there back : Option ℕ) (inside : List ℤ) (m : Made) → Contains (shortcuts_between directed low high there back inside) m
    → ((m.from ≡ low) × (m.to ≡ high)) ⊎ ((m.from ≡ high) × (m.to ≡ low))
new_ends true low high there back inside m h =
    elim (Contains-append_cases (shortcut low high there inside) (shortcut high low back inside) m h) as (λ _. ((m.from ≡ low) × (m.to ≡ high))
    ⊎ ((m.from ≡ high) × (m.to ≡ low))) [
      | inl first ↦ let (c, (e, is)) = shortcut-from low high there inside m first in inl (ap (λ (x : Made). x.from) is, ap (λ (x : Made). x.to) is)
      | inr second ↦ let (c, (e, is)) = shortcut-from high low back inside m second in inr (ap (λ (x : Made). x.from) is, ap (λ (x : Made). x.to) is)
    ]
new_ends false low high there back inside m h =
    let (c, (e, is)) = shortcut-from low high there inside m h in inl (ap (λ (x : Made). x.from) is, ap (λ (x : Made). x.to) is)

-- a neighbour stands
pub neighbour_stands : (directed : Bool) (given : List (LinkOf ℤ)) (S : State) (v x : ℤ) → IsSound directed given S → IsNeighbour (Contains S.links) v x → Contains S.vertices x
neighbour_stands directed given S v x sound (differs, (link, (has, either))) = by either where
  by : ((link.from ≡ v) × (link.to ≡ x)) ⊎ ((link.from ≡ x) × (link.to ≡ v)) → Contains S.vertices x
  by (inl out) = subst (λ y. Contains S.vertices y) out.1 (sound.ends link has).1
  by (inr into) = subst (λ y. Contains S.vertices y) into.0 (sound.ends link has).0

-- a link of some of the shortcuts that were made is one of all of them
made_first : (directed : Bool) (made new : List Made) (link : LinkOf ℤ) → IsMade directed 0 made link → IsMade directed 0 (made ++ new) link
made_first directed made new link h = record { place = h.place; shown = h.shown; at = get_first made new h.place h.shown h.at; either = h.either }

made_second : (directed : Bool) (made new : List Made) (link : LinkOf ℤ) → IsMade directed (length made) new link → IsMade directed 0 (made ++ new) link
made_second directed made new link h =
    let same : length made + h.place ≡ 0 + (length made + h.place) = omega arith in
    record {
      place = length made + h.place;
      shown = h.shown;
      at = get_second made new h.place h.shown h.at;
      either = subst (λ k. (link ≡ link_of_made k h.shown) ⊎ ((directed ≡ false) × (link ≡ turned (link_of_made k h.shown)))) same h.either;
    }

-- the ends of a new shortcut's links stand
fresh_ends : (directed : Bool) (given : List (LinkOf ℤ)) (S : State) (v low high : ℤ) (there back : Option ℕ) → IsSound directed given S → HasTwo (Contains S.links) v low high
    → (link : LinkOf ℤ) → IsMade directed (length S.made) (shortcuts_between directed low high there back (left_of S v)) link
    → Contains (without_vertex v S.vertices) link.from × Contains (without_vertex v S.vertices) link.to
fresh_ends directed given S v low high there back sound two link made =
    by (new_ends directed low high there back (left_of S v) made.shown (at_place (shortcuts_between directed low high there back (left_of S v)) made.place made.shown made.at))
    made.either
  where
    low_stands : Contains (without_vertex v S.vertices) low
    low_stands = without_vertex-keeps v S.vertices low (neighbour_stands directed given S v low sound two.first) two.first.0

    high_stands : Contains (without_vertex v S.vertices) high
    high_stands = without_vertex-keeps v S.vertices high (neighbour_stands directed given S v high sound two.second) two.second.0

    both : (a b : ℤ) → (a ≡ low) × (b ≡ high) → Contains (without_vertex v S.vertices) a × Contains (without_vertex v S.vertices) b
    both a b (is_low, is_high) = (subst (Contains (without_vertex v S.vertices)) (sym is_low) low_stands, subst (Contains (without_vertex v S.vertices)) (sym is_high) high_stands)

    either : (a b : ℤ) → ((a ≡ low) × (b ≡ high)) ⊎ ((a ≡ high) × (b ≡ low)) → Contains (without_vertex v S.vertices) a × Contains (without_vertex v S.vertices) b
    either a b (inl h) = both a b h
    either a b (inr h) = let found = both b a (h.1, h.0) in (found.1, found.0)

    by : ((made.shown.from ≡ low) × (made.shown.to ≡ high)) ⊎ ((made.shown.from ≡ high) × (made.shown.to ≡ low))
        → (link ≡ link_of_made (length S.made + made.place) made.shown) ⊎ ((directed ≡ false) × (link ≡ turned (link_of_made (length S.made + made.place) made.shown)))
        → Contains (without_vertex v S.vertices) link.from × Contains (without_vertex v S.vertices) link.to
    by e (inl same) =
        subst (λ (l : LinkOf ℤ). Contains (without_vertex v S.vertices) l.from × Contains (without_vertex v S.vertices) l.to) (sym same) (either made.shown.from made.shown.to e)
    by e (inr back) =
        let found = either made.shown.from made.shown.to e in
        subst (λ (l : LinkOf ℤ). Contains (without_vertex v S.vertices) l.from × Contains (without_vertex v S.vertices) l.to) (sym back.1) (found.1, found.0)

-- in the undirected graph a new shortcut stands back too
fresh_back : (directed : Bool) → directed ≡ false → (n : ℕ) (new : List Made) (k : ℕ) (m : Made) → slice_get new k ≡ Some m
    → Contains (links_of_made directed n new) (turned (link_of_made (n + k) m))
fresh_back true e n new k m at = absurd (let f = e in cc)
fresh_back false e n new k m at = links_of_made-back n new k m at

-- after a linear vertex
linear_sound : (directed : Bool) (given : List (LinkOf ℤ)) (S : State) (v low high : ℤ) (there back : Option ℕ) → IsSound directed given S → HasTwo (Contains S.links) v low high
    → IsWayCost (Contains S.links) low v high there → IsWayCost (Contains S.links) high v low back
    → (directed ≡ false → HaveOpposites (after_linear directed v low high there back S).links) → IsSound directed given (after_linear directed v low high there back S)
linear_sound directed given S v low high there back sound two there_is back_is opposites =
    let new = shortcuts_between directed low high there back (left_of S v) in
    let old = without_links_at v S.links in
    let fresh = links_of_made directed (length S.made) new in
    record {
      ends = λ link h. elim (Contains-append_cases old fresh link h) as (λ _. Contains (without_vertex v S.vertices) link.from × Contains (without_vertex v S.vertices) link.to) [
        | inl kept ↦
            let (was, (from, to)) = without_links-from v S.links link kept in
            (without_vertex-keeps v S.vertices link.from (sound.ends link was).0 from, without_vertex-keeps v S.vertices link.to (sound.ends link was).1 to)
        | inr made ↦ fresh_ends directed given S v low high there back sound two link (IsMade-from directed (length S.made) new link made)
      ];
      opposites = opposites;
      lighter = omega (arith, sound.lighter, linear_weight directed S v low high there back sound.opposites two there_is back_is);
      vertices = λ x h. sound.vertices x (without_vertex-from v S.vertices x h).0;
      stand = λ link h from to.
          let (from_old, from_v) = without_vertex-from v S.vertices link.from from in
          let (to_old, to_v) = without_vertex-from v S.vertices link.to to in
          Contains-append_left old fresh link (without_links-keeps v S.links link (sound.stand link h from_old to_old) from_v to_v);
      made_stand = λ n m at from to. elim (get_either S.made new n m at) as (λ _. Contains (old ++ fresh) (link_of_made n m)) [
        | inl first ↦
            let (from_old, from_v) = without_vertex-from v S.vertices m.from from in
            let (to_old, to_v) = without_vertex-from v S.vertices m.to to in
            Contains-append_left old fresh (link_of_made n m) (without_links-keeps v S.links (link_of_made n m) (sound.made_stand n m first from_old to_old) from_v to_v)
        | inr second ↦ subst (λ k. Contains (old ++ fresh) (link_of_made k m)) (sym second.1.0)
            (Contains-append_right old fresh (link_of_made (length S.made + second.0) m) (links_of_made-there directed (length S.made) new second.0 m second.1.1))
      ];
      made_back = λ undirected n m at from to. elim (get_either S.made new n m at) as (λ _. Contains (old ++ fresh) (turned (link_of_made n m))) [
        | inl first ↦
            let (from_old, from_v) = without_vertex-from v S.vertices m.from from in
            let (to_old, to_v) = without_vertex-from v S.vertices m.to to in
            Contains-append_left old fresh (turned (link_of_made n m))
            (without_links-keeps v S.links (turned (link_of_made n m)) (sound.made_back undirected n m first from_old to_old) to_v from_v)
        | inr second ↦ subst (λ k. Contains (old ++ fresh) (turned (link_of_made k m))) (sym second.1.0)
            (Contains-append_right old fresh (turned (link_of_made (length S.made + second.0) m)) (fresh_back directed undirected (length S.made) new second.0 m second.1.1))
      ];
      links_are = λ link h. elim (Contains-append_cases old fresh link h) as (λ _. Contains given link ⊎ IsMade directed 0 (S.made ++ new) link) [
        | inl kept ↦ elim (sound.links_are link (without_links-from v S.links link kept).0) as (λ _. Contains given link ⊎ IsMade directed 0 (S.made ++ new) link) [
          | inl g ↦ inl g
          | inr m ↦ inr (made_first directed S.made new link m)
        ]
        | inr made ↦ inr (made_second directed S.made new link (IsMade-from directed (length S.made) new link made))
      ];
    }

-- after a step
pub step_sound : (directed : Bool) (given : List (LinkOf ℤ)) (method : Method) (v : ℤ) (S T : State) → IsSound directed given S → IsStep directed method v S T
    → IsSound directed given T
step_sound directed given DeadEnd v S T sound step =
    let kept = step_keeps directed DeadEnd v S (after_dead_end v step.neighbour S) sound.opposites (record { neighbour = step.neighbour; one = step.one; after = refl }) in
    subst (λ R. IsSound directed given R) (sym step.after) (dead_end_sound directed given S v step.neighbour sound kept.opposites)
step_sound directed given Linear v S T sound step =
    let kept = step_keeps directed Linear v S (after_linear directed v step.low step.high step.there step.back S) sound.opposites
    (record { low = step.low; high = step.high; there = step.there; back = step.back; two = step.two; there_is = step.there_is; back_is = step.back_is; after = refl }) in
    subst (λ R. IsSound directed given R) (sym step.after)
    (linear_sound directed given S v step.low step.high step.there step.back sound step.two step.there_is step.back_is kept.opposites)

takes_sound : (directed : Bool) (given : List (LinkOf ℤ)) (method : Method) (forbidden taken : List ℤ) (S T : State) → IsSound directed given S
    → Takes directed method forbidden taken S T → IsSound directed given T
takes_sound directed given method forbidden [] S T sound same = subst (λ R. IsSound directed given R) same sound
takes_sound directed given method forbidden (v ∷ more) S T sound (next, (R, (step, rest))) =
    takes_sound directed given method forbidden more R T (step_sound directed given method v S R sound step) rest

-- after a run
pub run_sound : (directed : Bool) (given : List (LinkOf ℤ)) (forbidden : List ℤ) (methods : List Method) (S T : State) → IsSound directed given S
    → IsRun directed forbidden methods S T → IsSound directed given T
run_sound directed given forbidden [] S T sound same = subst (λ R. IsSound directed given R) same sound
run_sound directed given forbidden (method ∷ methods) S T sound (R, (phase, rest)) =
    run_sound directed given forbidden methods R T (takes_sound directed given method forbidden phase.taken S R sound phase.takes) rest
