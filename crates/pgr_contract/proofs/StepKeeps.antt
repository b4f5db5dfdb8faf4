-- One step keeps every distance between the vertices that are left.
use Rattle.std.proofs.Common.{◌≡◌, ◌≢◌, ◌⊎◌, inl, inr, ℕ, zero, suc, ◌+◌, ◌≤◌, ℤ, Bool, true, false, List, [], ◌∷◌, ◌++◌, length, Option, Some, None, refl, sym, subst, ◌∙◌, ap, arith}
use Rattle.std.specs.List.{Contains, slice_get}
use Rattle.std.proofs.lemmas.List.Elements.{Contains-append_left, Contains-append_right, Contains-append_cases}
use Rattle.pgr_outside.proofs.Lists.{Contains-here, Contains-later, Contains-cons_cases, Contains-none}
use Rattle.pgr_walks.specs.declared.link.LinkOf.{LinkOf}
use Rattle.pgr_walks.specs.Walk.{IsWalk, cost_of}
use Rattle.pgr_walks.specs.Reaches.{turned}
use Rattle.pgr_words.specs.declared.method.Method.{Method}
use Rattle.pgr_words.specs.declared.method.Method.TheVariants.{DeadEnd, Linear}
use Rattle.pgr_contract.specs.State.{Made, State, left_of, without_links_at, link_of_made, links_of_made}
use Rattle.pgr_contract.specs.Steps.{IsNeighbour, HasOne, HasTwo, IsWayCost, shortcut, shortcuts_between, after_dead_end, after_linear, IsStep}
use Rattle.pgr_contract.specs.Given.{HaveOpposites}
use Rattle.pgr_contract.proofs.Ids.{same_id, without_links-from, without_links-keeps, without_vertex-from}
use Rattle.pgr_contract.proofs.MadeLinks.{IsMade, IsMade-from, links_of_made-there, links_of_made-back}
use Rattle.pgr_contract.proofs.Bypass.{WalkWithin, LinkWithin, led_past, spelled}

-- what T keeps of S: distances both ways between the vertices that it has, which S has too
pub record Keeps (directed : Bool) (S T : State) : Type 0 where
  pub onward : (s t : ℤ) (walk : List (LinkOf ℤ)) → Contains T.vertices s → Contains T.vertices t → IsWalk (Contains S.links) s walk t
      → WalkWithin (Contains T.links) s t (cost_of walk)
  pub back : (s t : ℤ) (walk : List (LinkOf ℤ)) → IsWalk (Contains T.links) s walk t → WalkWithin (Contains S.links) s t (cost_of walk)
  pub fewer : (x : ℤ) → Contains T.vertices x → Contains S.vertices x
  pub opposites : directed ≡ false → HaveOpposites T.links

-- a link that is there is a walk
pub alone : (Has : LinkOf ℤ → Type 0) (link : LinkOf ℤ) → Has link → WalkWithin Has link.from link.to link.cost
alone Has link has = record { walk = link ∷ []; is_walk = (has, refl, refl); within = omega arith }

-- where a link comes from on its way into v is a neighbour, and so is where one leads out of v
into_neighbour : (Has : LinkOf ℤ → Type 0) (v : ℤ) (into : LinkOf ℤ) → Has into → into.to ≡ v → into.from ≢ v → IsNeighbour Has v into.from
into_neighbour Has v into has at differs = (differs, (into, (has, inr (refl, at))))

out_neighbour : (Has : LinkOf ℤ → Type 0) (v : ℤ) (out : LinkOf ℤ) → Has out → out.from ≡ v → out.to ≢ v → IsNeighbour Has v out.to
out_neighbour Has v out has at differs = (differs, (out, (has, inl (at, refl))))

-- opposites without those that touch a vertex
pub opposites-without : (v : ℤ) (links : List (LinkOf ℤ)) → HaveOpposites links → HaveOpposites (without_links_at v links)
opposites-without v links opposites link h =
    let found = without_links-from v links link h in
    without_links-keeps v links (turned link) (opposites link found.0) found.1.1 found.1.0

-- a dead end: each walk that comes to it goes back where it came from
dead_end_keeps : (directed : Bool) (S : State) (v u : ℤ) → HasOne (Contains S.links) v u → (directed ≡ false → HaveOpposites S.links)
    → Keeps directed S (after_dead_end v u S)
dead_end_keeps directed S v u one opposites = record {
  onward = λ s t walk s_left t_left w. led_past same_id (Contains S.links) (Contains (without_links_at v S.links)) v
      (λ link has from to. without_links-keeps v S.links link has from to)
      (λ into out has_into has_out at_into at_out from to.
      inl (one.only into.from (into_neighbour (Contains S.links) v into has_into at_into from)
      ∙ sym (one.only out.to (out_neighbour (Contains S.links) v out has_out at_out to))))
      s t walk (without_vertex-from v S.vertices s s_left).1 (without_vertex-from v S.vertices t t_left).1 w;
  back = λ s t walk w. spelled (Contains S.links) (Contains (without_links_at v S.links))
      (λ link h. alone (Contains S.links) link (without_links-from v S.links link h).0) s t walk w;
  fewer = λ x h. (without_vertex-from v S.vertices x h).0;
  opposites = λ undirected. opposites-without v S.links (opposites undirected);
}

-- what a list has stands at a place
pub placed : {X : Type 0} (xs : List X) (x : X) → Contains xs x → (k : ℕ) × (slice_get xs k ≡ Some x)
placed [] x h = absurd (Contains-none x h)
placed (y ∷ ys) x h = by (Contains-cons_cases y ys x h) (λ rest. placed ys x rest) where
  by : (y ≡ x) ⊎ Contains ys x → (Contains ys x → (k : ℕ) × (slice_get ys k ≡ Some x)) → (k : ℕ) × (slice_get (y ∷ ys) k ≡ Some x)
  by (inl first) on = (0, ap (λ z. Some z) first)
  by (inr rest) on = let found = on rest in (suc found.0, found.1)

pub at_place : {X : Type 0} (xs : List X) (k : ℕ) (x : X) → slice_get xs k ≡ Some x → Contains xs x
at_place [] k x at = absurd (let e = at in cc)
at_place (y ∷ ys) zero x at = let is : y ≡ x = cc in subst (λ z. Contains (y ∷ ys) z) is (Contains-here y ys)
at_place (y ∷ ys) (suc k) x at = Contains-later y ys x (at_place ys k x at)

-- the shortcut, where there is a cost
pub shortcut-from : (a b : ℤ) (cost : Option ℕ) (inside : List ℤ) (m : Made) → Contains (shortcut a b cost inside) m
    → (c : ℕ) × ((cost ≡ Some c) × (m ≡ record { from = a; to = b; cost = c; inside = inside }))
shortcut-from a b None inside m h = absurd (Contains-none m h)
shortcut-from a b (Some c) inside m h = by (Contains-cons_cases (record { from = a; to = b; cost = c; inside = inside }) [] m h) where
  by : (record { from = a; to = b; cost = c; inside = inside } ≡ m) ⊎ Contains [] m → (d : ℕ) × ((Some c ≡ Some d) × (m ≡ record { from = a; to = b; cost = d; inside = inside }))
  by (inl same) = (c, (refl, sym same))
  by (inr none) = absurd (Contains-none m none)

pub shortcut-has : (a b : ℤ) (cost : Option ℕ) (inside : List ℤ) (c : ℕ) → cost ≡ Some c → Contains (shortcut a b cost inside)
    (record { from = a; to = b; cost = c; inside = inside })
shortcut-has a b None inside c e = absurd (let f = e in cc)
shortcut-has a b (Some d) inside c e =
    let is : d ≡ c = cc in
    subst (λ x. Contains (shortcut a b (Some d) inside) (record { from = a; to = b; cost = x; inside = inside })) is
    (Contains-here (record { from = a; to = b; cost = d; inside = inside }) [])

-- the two links of a way are a walk of its cost
way_walk : (Has : LinkOf ℤ → Type 0) (a v b : ℤ) (cost : ℕ) → IsWayCost Has a v b (Some cost) → WalkWithin Has a b cost
way_walk Has a v b cost (i, (o, (into, (out, is)))) = record {
  walk = into.link ∷ out.link ∷ [];
  is_walk = (into.has, into.from, (out.has, out.from ∙ sym into.to, out.to));
  within = omega (arith, into.cost_is, out.cost_is);
}

-- and turned they are one back
way_walk_back : (Has : LinkOf ℤ → Type 0) (a v b : ℤ) (cost : ℕ) → ((link : LinkOf ℤ) → Has link → Has (turned link)) → IsWayCost Has a v b (Some cost) → WalkWithin Has b a cost
way_walk_back Has a v b cost opposites (i, (o, (into, (out, is)))) = record {
  walk = turned out.link ∷ turned into.link ∷ [];
  is_walk = (opposites out.link out.has, out.to, (opposites into.link into.has, into.to ∙ sym out.from, into.from));
  within = omega (arith, into.cost_is, out.cost_is);
}

-- the cost of a way is at most that of any two links on it
record WayWithin (cost : Option ℕ) (most : ℕ) : Type 0 where
  at : ℕ
  is : cost ≡ Some at
  within : at ≤ most

way_within : (Has : LinkOf ℤ → Type 0) (a v b : ℤ) (cost : Option ℕ) (into out : LinkOf ℤ) → IsWayCost Has a v b cost → Has into → Has out → into.from ≡ a → into.to ≡ v
    → out.from ≡ v → out.to ≡ b → WayWithin cost (into.cost + out.cost)
way_within Has a v b None into out none has_into has_out from at_into at_out to = absurd (none ((into, (has_into, (from, at_into))), (out, (has_out, (at_out, to)))))
way_within Has a v b (Some c) into out (i, (o, (first, (second, is)))) has_into has_out from at_into at_out to = record {
  at = c;
  is = refl;
  within = omega (arith, is, first.least into has_into from at_into, second.least out has_out at_out to);
}

-- the shortcut that is made from a to b
made_link : (directed : Bool) (n : ℕ) (new : List Made) (m : Made) → Contains new m → LinkWithin (Contains (links_of_made directed n new)) m.from m.to m.cost
made_link directed n new m h =
    let found = placed new m h in
    record {
      link = link_of_made (n + found.0) m;
      has = links_of_made-there directed n new found.0 m found.1;
      from = refl;
      to = refl;
      within = omega arith;
    }

-- and back, in the undirected graph
made_link_back : (n : ℕ) (new : List Made) (m : Made) → Contains new m → LinkWithin (Contains (links_of_made false n new)) m.to m.from m.cost
made_link_back n new m h =
    let found = placed new m h in
    record {
      link = turned (link_of_made (n + found.0) m);
      has = links_of_made-back n new found.0 m found.1;
      from = refl;
      to = refl;
      within = omega arith;
    }

-- a link that is among more
among_more : (links more : List (LinkOf ℤ)) (a b : ℤ) (cost most : ℕ) → cost ≤ most → LinkWithin (Contains more) a b cost → LinkWithin (Contains (links ++ more)) a b most
among_more links more a b cost most le l = record {
  link = l.link;
  has = Contains-append_right links more l.link l.has;
  from = l.from;
  to = l.to;
  within = omega (arith, l.within);
}

-- between the same ends
ends_moved : (Kept : LinkOf ℤ → Type 0) (a b c d : ℤ) (cost : ℕ) → a ≡ c → b ≡ d → LinkWithin Kept c d cost → LinkWithin Kept a b cost
ends_moved Kept a b c d cost from to l = record { link = l.link; has = l.has; from = l.from ∙ sym from; to = l.to ∙ sym to; within = l.within }

-- the shortcut there
there_link : (directed : Bool) (n : ℕ) (low high : ℤ) (there back : Option ℕ) (inside : List ℤ) (most : ℕ) → WayWithin there most
    → LinkWithin (Contains (links_of_made directed n (shortcuts_between directed low high there back inside))) low high most
there_link true n low high there back inside most way =
    let m : Made = record { from = low; to = high; cost = way.at; inside = inside } in
    let new = shortcuts_between true low high there back inside in
    let l = made_link true n new m (Contains-append_left (shortcut low high there inside) (shortcut high low back inside) m (shortcut-has low high there inside way.at way.is)) in
    record { link = l.link; has = l.has; from = l.from; to = l.to; within = omega (arith, l.within, way.within) }
there_link false n low high there back inside most way =
    let m : Made = record { from = low; to = high; cost = way.at; inside = inside } in
    let l = made_link false n (shortcut low high there inside) m (shortcut-has low high there inside way.at way.is) in
    record { link = l.link; has = l.has; from = l.from; to = l.to; within = omega (arith, l.within, way.within) }

-- the shortcut back, in the directed graph
back_link : (n : ℕ) (low high : ℤ) (there back : Option ℕ) (inside : List ℤ) (most : ℕ) → WayWithin back most
    → LinkWithin (Contains (links_of_made true n (shortcuts_between true low high there back inside))) high low most
back_link n low high there back inside most way =
    let m : Made = record { from = high; to = low; cost = way.at; inside = inside } in
    let new = shortcuts_between true low high there back inside in
    let l = made_link true n new m (Contains-append_right (shortcut low high there inside) (shortcut high low back inside) m (shortcut-has high low back inside way.at way.is)) in
    record { link = l.link; has = l.has; from = l.from; to = l.to; within = omega (arith, l.within, way.within) }

-- the one shortcut of the undirected graph, back
turned_link : (n : ℕ) (low high : ℤ) (there back : Option ℕ) (inside : List ℤ) (most : ℕ) → WayWithin there most
    → LinkWithin (Contains (links_of_made false n (shortcuts_between false low high there back inside))) high low most
turned_link n low high there back inside most way =
    let m : Made = record { from = low; to = high; cost = way.at; inside = inside } in
    let l = made_link_back n (shortcut low high there inside) m (shortcut-has low high there inside way.at way.is) in
    record { link = l.link; has = l.has; from = l.from; to = l.to; within = omega (arith, l.within, way.within) }

-- what is a shortcut has a cost that is that of its way
way_of : (Has : LinkOf ℤ → Type 0) (a v b : ℤ) (cost : Option ℕ) (c : ℕ) → cost ≡ Some c → IsWayCost Has a v b cost → IsWayCost Has a v b (Some c)
way_of Has a v b cost c e way = subst (λ x. IsWayCost Has a v b x) e way

-- a link of a shortcut has a walk over the links before
spell_made : (directed : Bool) (S : State) (v low high : ℤ) (there back : Option ℕ) (inside : List ℤ) → (directed ≡ false → HaveOpposites S.links)
    → IsWayCost (Contains S.links) low v high there → IsWayCost (Contains S.links) high v low back → (link : LinkOf ℤ)
    → IsMade directed (length S.made) (shortcuts_between directed low high there back inside) link → WalkWithin (Contains S.links) link.from link.to link.cost
spell_made true S v low high there back inside opposites there_is back_is link made =
    by made.either (Contains-append_cases (shortcut low high there inside) (shortcut high low back inside) made.shown
    (at_place (shortcuts_between true low high there back inside) made.place made.shown made.at))
  where
    on : (a b : ℤ) (c : ℕ) → WalkWithin (Contains S.links) a b c → made.shown ≡ record { from = a; to = b; cost = c; inside = inside }
        → link ≡ link_of_made (length S.made + made.place) made.shown → WalkWithin (Contains S.links) link.from link.to link.cost
    on a b c walk is same =
        subst (λ (l : LinkOf ℤ). WalkWithin (Contains S.links) l.from l.to l.cost) (sym same)
        (subst (λ (m : Made). WalkWithin (Contains S.links) m.from m.to m.cost) (sym is) walk)

    which : link ≡ link_of_made (length S.made + made.place) made.shown → Contains (shortcut low high there inside) made.shown ⊎ Contains (shortcut high low back inside) made.shown
        → WalkWithin (Contains S.links) link.from link.to link.cost
    which same (inl first) =
        let (c, (e, is)) = shortcut-from low high there inside made.shown first in
        on low high c (way_walk (Contains S.links) low v high c (way_of (Contains S.links) low v high there c e there_is)) is same
    which same (inr second) =
        let (c, (e, is)) = shortcut-from high low back inside made.shown second in
        on high low c (way_walk (Contains S.links) high v low c (way_of (Contains S.links) high v low back c e back_is)) is same

    by : (link ≡ link_of_made (length S.made + made.place) made.shown) ⊎ ((true ≡ false) × (link ≡ turned (link_of_made (length S.made + made.place) made.shown)))
        → Contains (shortcut low high there inside) made.shown ⊎ Contains (shortcut high low back inside) made.shown → WalkWithin (Contains S.links) link.from link.to link.cost
    by (inl same) among = which same among
    by (inr both) among = absurd (let e = both.0 in cc)
spell_made false S v low high there back inside opposites there_is back_is link made =
    let (c, (e, is)) = shortcut-from low high there inside made.shown (at_place (shortcut low high there inside) made.place made.shown made.at) in
    by c e is made.either
  where
    by : (c : ℕ) → there ≡ Some c → made.shown ≡ record { from = low; to = high; cost = c; inside = inside }
        → (link ≡ link_of_made (length S.made + made.place) made.shown) ⊎ ((false ≡ false) × (link ≡ turned (link_of_made (length S.made + made.place) made.shown)))
        → WalkWithin (Contains S.links) link.from link.to link.cost
    by c e is (inl same) =
        subst (λ (l : LinkOf ℤ). WalkWithin (Contains S.links) l.from l.to l.cost) (sym same)
        (subst (λ (m : Made). WalkWithin (Contains S.links) m.from m.to m.cost) (sym is)
        (way_walk (Contains S.links) low v high c (way_of (Contains S.links) low v high there c e there_is)))
    by c e is (inr both) =
        subst (λ (l : LinkOf ℤ). WalkWithin (Contains S.links) l.from l.to l.cost) (sym both.1)
        (subst (λ (m : Made). WalkWithin (Contains S.links) m.to m.from m.cost) (sym is)
        (way_walk_back (Contains S.links) low v high c (opposites refl) (way_of (Contains S.links) low v high there c e there_is)))

-- two links over v: back to where the first came from, or as a shortcut leads
over_linear : (directed : Bool) (S : State) (v low high : ℤ) (there back : Option ℕ) → (directed ≡ false → HaveOpposites S.links) → HasTwo (Contains S.links) v low high
    → IsWayCost (Contains S.links) low v high there → IsWayCost (Contains S.links) high v low back
    → (into out : LinkOf ℤ) → Contains S.links into → Contains S.links out → into.to ≡ v → out.from ≡ v → into.from ≢ v → out.to ≢ v
    → (into.from ≡ out.to) ⊎ LinkWithin (Contains (after_linear directed v low high there back S).links) into.from out.to (into.cost + out.cost)
over_linear directed S v low high there back opposites two there_is back_is into out has_into has_out at_into at_out from to =
    by (two.only into.from (into_neighbour (Contains S.links) v into has_into at_into from)) (two.only out.to (out_neighbour (Contains S.links) v out has_out at_out to))
  where
    among : (a b : ℤ) → into.from ≡ a → out.to ≡ b
        → LinkWithin (Contains (links_of_made directed (length S.made) (shortcuts_between directed low high there back (left_of S v)))) a b (into.cost + out.cost)
        → LinkWithin (Contains (after_linear directed v low high there back S).links) into.from out.to (into.cost + out.cost)
    among a b is_a is_b l =
        ends_moved (Contains (after_linear directed v low high there back S).links) into.from out.to a b (into.cost + out.cost) is_a is_b
        (among_more (without_links_at v S.links) (links_of_made directed (length S.made) (shortcuts_between directed low high there back (left_of S v))) a b
        (into.cost + out.cost) (into.cost + out.cost) (omega arith) l)

    down : (d : Bool) → (d ≡ false → HaveOpposites S.links) → into.from ≡ high → out.to ≡ low
        → LinkWithin (Contains (links_of_made d (length S.made) (shortcuts_between d low high there back (left_of S v)))) high low (into.cost + out.cost)
    down true given is_high is_low =
        back_link (length S.made) low high there back (left_of S v) (into.cost + out.cost)
        (way_within (Contains S.links) high v low back into out back_is has_into has_out is_high at_into at_out is_low)
    down false given is_high is_low =
        let way = way_within (Contains S.links) low v high there (turned out) (turned into) there_is (given refl out has_out) (given refl into has_into) is_low at_out at_into
        is_high in
        turned_link (length S.made) low high there back (left_of S v) (into.cost + out.cost) (record { at = way.at; is = way.is; within = omega (arith, way.within) })

    by : (into.from ≡ low) ⊎ (into.from ≡ high) → (out.to ≡ low) ⊎ (out.to ≡ high)
        → (into.from ≡ out.to) ⊎ LinkWithin (Contains (after_linear directed v low high there back S).links) into.from out.to (into.cost + out.cost)
    by (inl a) (inl b) = inl (a ∙ sym b)
    by (inr a) (inr b) = inl (a ∙ sym b)
    by (inl a) (inr b) = inr (among low high a b (there_link directed (length S.made) low high there back (left_of S v) (into.cost + out.cost)
        (way_within (Contains S.links) low v high there into out there_is has_into has_out a at_into at_out b)))
    by (inr a) (inl b) = inr (among high low a b (down directed opposites a b))

-- the links of shortcuts stand both ways in the undirected graph
opposites-made : (n : ℕ) (made : List Made) → HaveOpposites (links_of_made false n made)
opposites-made n made link h = by (IsMade-from false n made link h) where
  by : IsMade false n made link → Contains (links_of_made false n made) (turned link)
  by m = elim m.either as (λ _. Contains (links_of_made false n made) (turned link)) [
    | inl same ↦ subst (λ l. Contains (links_of_made false n made) (turned l)) (sym same) (links_of_made-back n made m.place m.shown m.at)
    | inr both ↦ subst (λ l. Contains (links_of_made false n made) (turned l)) (sym both.1) (links_of_made-there false n made m.place m.shown m.at)
  ]

opposites-append : (xs ys : List (LinkOf ℤ)) → HaveOpposites xs → HaveOpposites ys → HaveOpposites (xs ++ ys)
opposites-append xs ys first second link h = elim (Contains-append_cases xs ys link h) as (λ _. Contains (xs ++ ys) (turned link)) [
  | inl a ↦ Contains-append_left xs ys (turned link) (first link a)
  | inr b ↦ Contains-append_right xs ys (turned link) (second link b)
]

opposites-linear : (directed : Bool) (S : State) (v low high : ℤ) (there back : Option ℕ) → (directed ≡ false → HaveOpposites S.links) → directed ≡ false
    → HaveOpposites (after_linear directed v low high there back S).links
opposites-linear true S v low high there back opposites e = absurd (let f = e in cc)
opposites-linear false S v low high there back opposites e =
    opposites-append (without_links_at v S.links) (links_of_made false (length S.made) (shortcuts_between false low high there back (left_of S v)))
    (opposites-without v S.links (opposites e)) (opposites-made (length S.made) (shortcuts_between false low high there back (left_of S v)))

-- a linear vertex: each walk over it goes back, or over a shortcut
linear_keeps : (directed : Bool) (S : State) (v low high : ℤ) (there back : Option ℕ) → (directed ≡ false → HaveOpposites S.links) → HasTwo (Contains S.links) v low high
    → IsWayCost (Contains S.links) low v high there → IsWayCost (Contains S.links) high v low back → Keeps directed S (after_linear directed v low high there back S)
linear_keeps directed S v low high there back opposites two there_is back_is = record {
  onward = λ s t walk s_left t_left w. led_past same_id (Contains S.links) (Contains (after_linear directed v low high there back S).links) v
      (λ link has from to. Contains-append_left (without_links_at v S.links)
      (links_of_made directed (length S.made) (shortcuts_between directed low high there back (left_of S v))) link
      (without_links-keeps v S.links link has from to))
      (over_linear directed S v low high there back opposites two there_is back_is)
      s t walk (without_vertex-from v S.vertices s s_left).1 (without_vertex-from v S.vertices t t_left).1 w;
  back = λ s t walk w. spelled (Contains S.links) (Contains (after_linear directed v low high there back S).links)
      (λ link h. elim (Contains-append_cases (without_links_at v S.links) (links_of_made directed (length S.made) (shortcuts_between directed low high there back (left_of S v)))
      link h)
      as (λ _. WalkWithin (Contains S.links) link.from link.to link.cost) [
        | inl old ↦ alone (Contains S.links) link (without_links-from v S.links link old).0
        | inr new ↦ spell_made directed S v low high there back (left_of S v) opposites there_is back_is link
            (IsMade-from directed (length S.made) (shortcuts_between directed low high there back (left_of S v)) link new)
      ]) s t walk w;
  fewer = λ x h. (without_vertex-from v S.vertices x h).0;
  opposites = opposites-linear directed S v low high there back opposites;
}

-- each step keeps distances
pub step_keeps : (directed : Bool) (method : Method) (v : ℤ) (S T : State) → (directed ≡ false → HaveOpposites S.links) → IsStep directed method v S T → Keeps directed S T
step_keeps directed DeadEnd v S T opposites step = subst (λ R. Keeps directed S R) (sym step.after) (dead_end_keeps directed S v step.neighbour step.one opposites)
step_keeps directed Linear v S T opposites step =
    subst (λ R. Keeps directed S R) (sym step.after) (linear_keeps directed S v step.low step.high step.there step.back opposites step.two step.there_is step.back_is)
