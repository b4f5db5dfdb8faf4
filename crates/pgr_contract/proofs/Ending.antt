-- What is shown of the end of a run keeps distances, says what is held, and fits.
use Rattle.std.proofs.Common.{◌≡◌, ◌⊎◌, inl, inr, ℕ, suc, ◌+◌, ◌≤◌, ℤ, pos, Bool, true, false, ◌&&◌, List, [], ◌∷◌, map, refl, sym, subst, ◌∙◌, ap, arith}
use Rattle.std.specs.Prelude.{◌↔◌}
use Rattle.std.specs.List.{Contains}
use Rattle.std.proofs.lemmas.Bool.{and_parts, and_from}
use Rattle.pgr_outside.proofs.Lists.{Contains-here, Contains-later, Contains-cons_cases, Contains-none, Contains-filter, Contains-from_filter, Contains-map, Contains-from_map}
use Rattle.pgr_walks.specs.declared.link.LinkOf.{LinkOf}
use Rattle.pgr_words.specs.declared.method.Method.{Method}
use Rattle.pgr_contract.specs.Run.{IsRun}
use Rattle.pgr_walks.specs.Walk.{IsVertex, IsWalk, IsWithoutRepeats, cost_of, vertices_of}
use Rattle.pgr_walks.specs.Graph.{Fits, greatest}
use Rattle.pgr_walks.specs.Reaches.{turned}
use Rattle.pgr_contract.specs.declared.contracted.Kept.{Kept}
use Rattle.pgr_contract.specs.declared.contracted.Shortcut.{Shortcut}
use Rattle.pgr_contract.specs.Given.{AreGiven, HaveOpposites}
use Rattle.pgr_contract.specs.State.{Made, State, ends_of, first_state, link_of_made}
use Rattle.pgr_contract.specs.Weight.{weight}
use Rattle.pgr_contract.specs.Distances.{KeepsDistances}
use Rattle.pgr_contract.specs.Survivors.{IsHeldIn}
use Rattle.pgr_contract.specs.Shown.{nodes_of, has_id, surviving, Shows, ShowEach, link_of_shortcut, StandsFor, IsShortcutLink, IsPrinted, IsShown, IsHeld}
use Rattle.pgr_contract.proofs.MadeLinks.{IsMade}
use Rattle.pgr_contract.proofs.Bypass.{WalkWithin}
use Rattle.pgr_contract.proofs.StepKeeps.{Keeps, placed, at_place}
use Rattle.pgr_contract.proofs.RunKeeps.{carried, run_keeps}
use Rattle.pgr_contract.proofs.Sound.{IsSound, first_sound, run_sound, end_from, end_to}
use Rattle.pgr_contract.proofs.RunLogs.{run_survivors}
use Rattle.pgr_contract.proofs.RunFits.{links_fit}
use Rattle.pgr_contract.proofs.Showing.{has_id-true, true-has_id}

-- a link of the set with the same ends and cost
record LinkLike (Has : LinkOf ℤ → Type 0) (link : LinkOf ℤ) : Type 0 where
  other : LinkOf ℤ
  has : Has other
  from : other.from ≡ link.from
  to : other.to ≡ link.to
  cost : other.cost ≡ link.cost

-- a walk over the set that comes to the same vertices at the same cost
record WalkLike (Has : LinkOf ℤ → Type 0) (s t : ℤ) (walk : List (LinkOf ℤ)) : Type 0 where
  other : List (LinkOf ℤ)
  is_walk : IsWalk Has s other t
  cost : cost_of other ≡ cost_of walk
  vertices : vertices_of s other ≡ vertices_of s walk

walk_like : (Has Other : LinkOf ℤ → Type 0) → ((link : LinkOf ℤ) → Has link → LinkLike Other link) → (s t : ℤ) (walk : List (LinkOf ℤ)) → IsWalk Has s walk t
    → WalkLike Other s t walk
walk_like Has Other like s t [] w = record { other = []; is_walk = w; cost = refl; vertices = refl }
walk_like Has Other like s t (link ∷ rest) w =
    let first = like link w.0 in
    let second = walk_like Has Other like link.to t rest w.2 in
    record {
      other = first.other ∷ second.other;
      is_walk = (first.has, first.from ∙ w.1, subst (λ x. IsWalk Other x second.other t) (sym first.to) second.is_walk);
      cost = omega (arith, first.cost, second.cost);
      vertices = ap (λ x. s ∷ x ∷ map (λ (l : LinkOf ℤ). l.to) second.other) first.to ∙ ap (λ xs. s ∷ xs) second.vertices;
    }

-- distances are kept where walks lead over each set that cost no more than those over the other
kept_by : (Stands : ℤ → Type 0) (Has Kept : LinkOf ℤ → Type 0)
    → ((s t : ℤ) (walk : List (LinkOf ℤ)) → Stands s → Stands t → IsWalk Has s walk t → WalkWithin Kept s t (cost_of walk))
    → ((s t : ℤ) (walk : List (LinkOf ℤ)) → IsWalk Kept s walk t → WalkWithin Has s t (cost_of walk)) → KeepsDistances Stands Has Kept
kept_by Stands Has Kept onward back = record {
  costs = λ s t cost a b. (
    carried Has Kept s t cost (λ walk w. onward s t walk a b w) (λ walk w. back s t walk w),
    carried Kept Has s t cost (λ walk w. back s t walk w) (λ walk w. onward s t walk a b w),
  );
  walks = λ s t a b. (
    (λ reaches. let w = onward s t reaches.0 a b reaches.1 in (w.walk, w.is_walk)),
    (λ reaches. let w = back s t reaches.0 reaches.1 in (w.walk, w.is_walk)),
  );
}

-- each shortcut that is left is shown, and each that is shown is left
each_shown : (n : ℕ) (shown : List Shortcut) (made : List Made) → ShowEach n shown made → (m : Made) → Contains made m
    → (k : ℕ) × ((s : Shortcut) × (Contains shown s × Shows k s m))
each_shown n [] [] show m h = absurd (Contains-none m h)
each_shown n [] (x ∷ made) show m h = absurd show
each_shown n (s ∷ shown) [] show m h = absurd show
each_shown n (s ∷ shown) (x ∷ made) show m h = by (Contains-cons_cases x made m h) (λ rest. each_shown (suc n) shown made show.1 m rest) where
  by : (x ≡ m) ⊎ Contains made m → (Contains made m → (k : ℕ) × ((r : Shortcut) × (Contains shown r × Shows k r m)))
      → (k : ℕ) × ((r : Shortcut) × (Contains (s ∷ shown) r × Shows k r m))
  by (inl same) on = (n, (s, (Contains-here s shown, subst (λ y. Shows n s y) same show.0)))
  by (inr rest) on = let (k, (r, (has, is))) = on rest in (k, (r, (Contains-later s shown r has, is)))

shown_each : (n : ℕ) (shown : List Shortcut) (made : List Made) → ShowEach n shown made → (s : Shortcut) → Contains shown s
    → (k : ℕ) × ((m : Made) × (Contains made m × Shows k s m))
shown_each n [] [] show s h = absurd (Contains-none s h)
shown_each n [] (x ∷ made) show s h = absurd show
shown_each n (r ∷ shown) [] show s h = absurd show
shown_each n (r ∷ shown) (x ∷ made) show s h = by (Contains-cons_cases r shown s h) (λ rest. shown_each (suc n) shown made show.1 s rest) where
  by : (r ≡ s) ⊎ Contains shown s → (Contains shown s → (k : ℕ) × ((m : Made) × (Contains made m × Shows k s m)))
      → (k : ℕ) × ((m : Made) × (Contains (x ∷ made) m × Shows k s m))
  by (inl same) on = (n, (x, (Contains-here x made, subst (λ y. Shows n y x) same show.0)))
  by (inr rest) on = let (k, (m, (has, is))) = on rest in (k, (m, (Contains-later x made m has, is)))

stands_there : (directed : Bool) (s : Shortcut) → StandsFor directed s (link_of_shortcut s)
stands_there true s = refl
stands_there false s = inl refl

stands_back : (directed : Bool) → directed ≡ false → (s : Shortcut) → StandsFor directed s (turned (link_of_shortcut s))
stands_back true e s = absurd (let f = e in cc)
stands_back false e s = inr refl

which_way : (directed : Bool) (s : Shortcut) (link : LinkOf ℤ) → StandsFor directed s link
    → (link ≡ link_of_shortcut s) ⊎ ((directed ≡ false) × (link ≡ turned (link_of_shortcut s)))
which_way true s link same = inl same
which_way false s link (inl same) = inl same
which_way false s link (inr same) = inr (refl, same)

module _ (directed : Bool) (given : List (LinkOf ℤ)) (are_given : AreGiven given) (S : State) (sound : IsSound directed given S) (vertices : List Kept) (shortcuts : List Shortcut)
    (links : List (LinkOf ℤ)) (shown : IsShown directed S vertices shortcuts links) where
  survives : (m : Made) → Contains (surviving S) m → Contains S.made m × (Contains S.vertices m.from × Contains S.vertices m.to)
  survives m h =
      let (made, test) = Contains-from_filter (λ x. has_id S.vertices x.from && has_id S.vertices x.to) S.made m h in
      let (a, b) = and_parts (has_id S.vertices m.from) (has_id S.vertices m.to) test in
      (made, (has_id-true S.vertices m.from a, has_id-true S.vertices m.to b))

  left_too : (m : Made) → Contains S.made m → Contains S.vertices m.from → Contains S.vertices m.to → Contains (surviving S) m
  left_too m made from to = Contains-filter (λ x. has_id S.vertices x.from && has_id S.vertices x.to) S.made m made
      (and_from (has_id S.vertices m.from) (has_id S.vertices m.to) (true-has_id S.vertices m.from from) (true-has_id S.vertices m.to to))

  -- each link of the state is shown by one like it
  link_shown : (link : LinkOf ℤ) → Contains S.links link → LinkLike (Contains links) link
  link_shown link has = by (sound.links_are link has) where
    of_made : (made : IsMade directed 0 S.made link) → (link ≡ link_of_made (0 + made.place) made.shown)
        ⊎ ((directed ≡ false) × (link ≡ turned (link_of_made (0 + made.place) made.shown))) → LinkLike (Contains links) link
    of_made made (inl same) =
        let from : made.shown.from ≡ link.from = sym (ap (λ (l : LinkOf ℤ). l.from) same) in
        let to : made.shown.to ≡ link.to = sym (ap (λ (l : LinkOf ℤ). l.to) same) in
        let cost : made.shown.cost ≡ link.cost = sym (ap (λ (l : LinkOf ℤ). l.cost) same) in
        let left = left_too made.shown (at_place S.made made.place made.shown made.at) (subst (Contains S.vertices) (sym from) (sound.ends link has).0)
        (subst (Contains S.vertices) (sym to) (sound.ends link has).1) in
        let (k, (s, (among, is))) = each_shown 0 shortcuts (surviving S) shown.shortcuts_are made.shown left in
        record {
          other = link_of_shortcut s;
          has = (shown.links_are (link_of_shortcut s)).1 (inr (s, (among, stands_there directed s)));
          from = is.from ∙ from;
          to = is.to ∙ to;
          cost = is.cost ∙ cost;
        }
    of_made made (inr (undirected, same)) =
        let from : made.shown.to ≡ link.from = sym (ap (λ (l : LinkOf ℤ). l.from) same) in
        let to : made.shown.from ≡ link.to = sym (ap (λ (l : LinkOf ℤ). l.to) same) in
        let cost : made.shown.cost ≡ link.cost = sym (ap (λ (l : LinkOf ℤ). l.cost) same) in
        let left = left_too made.shown (at_place S.made made.place made.shown made.at) (subst (Contains S.vertices) (sym to) (sound.ends link has).1)
        (subst (Contains S.vertices) (sym from) (sound.ends link has).0) in
        let (k, (s, (among, is))) = each_shown 0 shortcuts (surviving S) shown.shortcuts_are made.shown left in
        record {
          other = turned (link_of_shortcut s);
          has = (shown.links_are (turned (link_of_shortcut s))).1 (inr (s, (among, stands_back directed undirected s)));
          from = is.to ∙ from;
          to = is.from ∙ to;
          cost = is.cost ∙ cost;
        }

    by : Contains given link ⊎ IsMade directed 0 S.made link → LinkLike (Contains links) link
    by (inl is_given) = record { other = link; has = (shown.links_are link).1 (inl (has, are_given link is_given)); from = refl; to = refl; cost = refl }
    by (inr made) = of_made made made.either

  -- and each that is shown is like one of the state
  shown_link : (link : LinkOf ℤ) → Contains links link → LinkLike (Contains S.links) link
  shown_link link h = by ((shown.links_are link).0 h) where
    of_shown : (s : Shortcut) (k : ℕ) (m : Made) → Contains (surviving S) m → Shows k s m
        → (link ≡ link_of_shortcut s) ⊎ ((directed ≡ false) × (link ≡ turned (link_of_shortcut s)))
        → LinkLike (Contains S.links) link
    of_shown s k m left is (inl same) =
        let (made, (from, to)) = survives m left in
        let (n, at) = placed S.made m made in
        record {
          other = link_of_made n m;
          has = sound.made_stand n m at from to;
          from = sym is.from ∙ sym (ap (λ (l : LinkOf ℤ). l.from) same);
          to = sym is.to ∙ sym (ap (λ (l : LinkOf ℤ). l.to) same);
          cost = sym is.cost ∙ sym (ap (λ (l : LinkOf ℤ). l.cost) same);
        }
    of_shown s k m left is (inr (undirected, same)) =
        let (made, (from, to)) = survives m left in
        let (n, at) = placed S.made m made in
        record {
          other = turned (link_of_made n m);
          has = sound.made_back undirected n m at from to;
          from = sym is.to ∙ sym (ap (λ (l : LinkOf ℤ). l.from) same);
          to = sym is.from ∙ sym (ap (λ (l : LinkOf ℤ). l.to) same);
          cost = sym is.cost ∙ sym (ap (λ (l : LinkOf ℤ). l.cost) same);
        }

    by : (Contains S.links link × ((n : ℕ) × (link.edge ≡ pos n))) ⊎ IsShortcutLink directed shortcuts link → LinkLike (Contains S.links) link
    by (inl (has, edge)) = record { other = link; has = has; from = refl; to = refl; cost = refl }
    by (inr (s, (among, stands))) =
        let (k, (m, (left, is))) = shown_each 0 shortcuts (surviving S) shown.shortcuts_are s among in
        of_shown s k m left is (which_way directed s link stands)

  -- what is printed is what is listed
  printed : (link : LinkOf ℤ) → IsPrinted directed given vertices shortcuts link → LinkLike (Contains links) link
  printed link (inl (is_given, (from, to))) = record {
    other = link;
    has = (shown.links_are link).1 (inl (sound.stand link is_given ((shown.nodes.members link.from).0 from) ((shown.nodes.members link.to).0 to), are_given link is_given));
    from = refl;
    to = refl;
    cost = refl;
  }
  printed link (inr shortcut) = record { other = link; has = (shown.links_are link).1 (inr shortcut); from = refl; to = refl; cost = refl }

  no_made : (link : LinkOf ℤ) → ((n : ℕ) × (link.edge ≡ pos n)) → Contains given link ⊎ IsMade directed 0 S.made link → Contains given link
  no_made link edge (inl is) = is
  no_made link (n, edge) (inr made) = absurd (elim made.either as (λ _. ⊥) [
    | inl same ↦ (let e = sym edge ∙ ap (λ (l : LinkOf ℤ). l.edge) same in cc)
    | inr both ↦ (let e = sym edge ∙ ap (λ (l : LinkOf ℤ). l.edge) both.1 in cc)
  ])

  listed : (link : LinkOf ℤ) → Contains links link → LinkLike (IsPrinted directed given vertices shortcuts) link
  listed link h = by ((shown.links_are link).0 h) where
    by : (Contains S.links link × ((n : ℕ) × (link.edge ≡ pos n))) ⊎ IsShortcutLink directed shortcuts link → LinkLike (IsPrinted directed given vertices shortcuts) link
    by (inl (has, edge)) = record {
      other = link;
      has = inl (
        no_made link edge (sound.links_are link has),
        ((shown.nodes.members link.from).1 (sound.ends link has).0, (shown.nodes.members link.to).1 (sound.ends link has).1),
      );
      from = refl;
      to = refl;
      cost = refl;
    }
    by (inr shortcut) = record { other = link; has = inr shortcut; from = refl; to = refl; cost = refl }

  module _ (first : State) (first_links : first.links ≡ given) (keeps : Keeps directed first S) where
    over_links : (s t : ℤ) (walk : List (LinkOf ℤ)) → Contains (nodes_of vertices) s → Contains (nodes_of vertices) t → IsWalk (Contains given) s walk t
        → WalkWithin (Contains links) s t (cost_of walk)
    over_links s t walk a b w =
        let one = keeps.onward s t walk ((shown.nodes.members s).0 a) ((shown.nodes.members t).0 b) (subst (λ ls. IsWalk (Contains ls) s walk t) (sym first_links) w) in
        let two = walk_like (Contains S.links) (Contains links) link_shown s t one.walk one.is_walk in
        record { walk = two.other; is_walk = two.is_walk; within = omega (arith, two.cost, one.within) }

    over_given : (s t : ℤ) (walk : List (LinkOf ℤ)) → IsWalk (Contains links) s walk t → WalkWithin (Contains given) s t (cost_of walk)
    over_given s t walk w =
        let one = walk_like (Contains links) (Contains S.links) shown_link s t walk w in
        let two = keeps.back s t one.other one.is_walk in
        record {
          walk = two.walk;
          is_walk = subst (λ ls. IsWalk (Contains ls) s two.walk t) first_links two.is_walk;
          within = omega (arith, one.cost, two.within);
        }

    -- distances over what is listed
    pub distances_listed : KeepsDistances (Contains (nodes_of vertices)) (Contains given) (Contains links)
    distances_listed = kept_by (Contains (nodes_of vertices)) (Contains given) (Contains links) over_links over_given

    -- and over what is printed
    pub distances_printed : KeepsDistances (Contains (nodes_of vertices)) (Contains given) (IsPrinted directed given vertices shortcuts)
    distances_printed = kept_by (Contains (nodes_of vertices)) (Contains given) (IsPrinted directed given vertices shortcuts)
        (λ s t walk a b w.
        let one = over_links s t walk a b w in
        let two = walk_like (Contains links) (IsPrinted directed given vertices shortcuts) listed s t one.walk one.is_walk in
        record { walk = two.other; is_walk = two.is_walk; within = omega (arith, two.cost, one.within) })
        (λ s t walk w.
        let one = walk_like (IsPrinted directed given vertices shortcuts) (Contains links) printed s t walk w in
        let two = over_given s t one.other one.is_walk in
        record { walk = two.walk; is_walk = two.is_walk; within = omega (arith, one.cost, two.within) })

  -- what is listed fits
  pub fits_listed : weight directed given ≤ greatest → Fits (Contains links)
  fits_listed light =
      let fits = links_fit directed S.links sound.opposites (omega (arith, sound.lighter, light)) in
      record {
        links = λ link h. (let like = shown_link link h in omega (arith, like.cost, fits.links like.other like.has));
        routes = λ s t walk route.
            let like = walk_like (Contains links) (Contains S.links) shown_link s t walk route.is_walk in
            omega (
              arith,
              like.cost,
              fits.routes s t like.other (record {
                is_walk = like.is_walk;
                ends_differ = route.ends_differ;
                loopless = subst IsWithoutRepeats (sym like.vertices) route.loopless;
              }),
            );
      }

  -- what is held is held in the state
  held_in : (x : ℤ) → IsHeld vertices shortcuts x → IsHeldIn S x
  held_in x (inl (kept, (among, inside))) =
      let stands = (shown.nodes.members kept.node).0 (Contains-map (λ (k : Kept). k.node) vertices kept among) in
      inl (kept.node, (stands, ((shown.holds kept among).members x).0 inside))
  held_in x (inr (s, (among, inside))) =
      let (k, (m, (left, is))) = shown_each 0 shortcuts (surviving S) shown.shortcuts_are s among in
      let (made, (from, to)) = survives m left in
      inr (m, (made, (from, (to, (is.inside.members x).0 inside))))

  held_listed : (x : ℤ) → IsHeldIn S x → IsHeld vertices shortcuts x
  held_listed x (inl (z, (stands, inside))) =
      let (kept, among, same) = Contains-from_map (λ (k : Kept). k.node) vertices z ((shown.nodes.members z).1 stands) in
      inl (kept, (among, ((shown.holds kept among).members x).1 (subst (λ y. Contains (S.inside y) x) same inside)))
  held_listed x (inr (m, (made, (from, (to, inside))))) =
      let (k, (s, (among, is))) = each_shown 0 shortcuts (surviving S) shown.shortcuts_are m (left_too m made from to) in
      inr (s, (among, (is.inside.members x).1 inside))

  -- a vertex is listed exactly where nothing that is listed holds it
  pub left_listed : ((x : ℤ) → Contains (ends_of given) x → Contains S.vertices x ↔ ¬ IsHeldIn S x) → (x : ℤ) → Contains (ends_of given) x
      → Contains (nodes_of vertices) x ↔ ¬ IsHeld vertices shortcuts x
  left_listed law x is_end = (
    (λ h held. (law x is_end).0 ((shown.nodes.members x).0 h) (held_in x held)),
    (λ not. (shown.nodes.members x).1 ((law x is_end).1 (λ held. not (held_listed x held)))),
  )

-- everything that is said of the end of a run, as it is listed
pub record IsContraction (directed : Bool) (forbidden : List ℤ) (methods : List Method) (given : List (LinkOf ℤ)) (vertices : List Kept) (shortcuts : List Shortcut)
    (links : List (LinkOf ℤ)) : Type 0 where
  pub run : (end : State) × (IsRun directed forbidden methods (first_state given) end × IsShown directed end vertices shortcuts links)
  pub distances : KeepsDistances (Contains (nodes_of vertices)) (Contains given) (Contains links)
  pub printed : KeepsDistances (Contains (nodes_of vertices)) (Contains given) (IsPrinted directed given vertices shortcuts)
  pub held : (v : ℤ) → IsVertex (Contains given) v → Contains (nodes_of vertices) v ↔ ¬ IsHeld vertices shortcuts v
  pub fits : Fits (Contains links)

pub ends_vertex : (given : List (LinkOf ℤ)) (v : ℤ) → IsVertex (Contains given) v → Contains (ends_of given) v
ends_vertex given v (l, has, inl from) = subst (Contains (ends_of given)) (sym from) (end_from given l has)
ends_vertex given v (l, has, inr to) = subst (Contains (ends_of given)) (sym to) (end_to given l has)

pub contraction_by : (directed : Bool) (forbidden : List ℤ) (methods : List Method) (given : List (LinkOf ℤ)) → AreGiven given → (directed ≡ false → HaveOpposites given)
    → weight directed given ≤ greatest → (end : State) → IsRun directed forbidden methods (first_state given) end → (vertices : List Kept) (shortcuts : List Shortcut)
    (links : List (LinkOf ℤ)) → IsShown directed end vertices shortcuts links → IsContraction directed forbidden methods given vertices shortcuts links
contraction_by directed forbidden methods given are_given opposites light end run vertices shortcuts links shown =
    let start = first_sound directed given opposites in
    let sound : IsSound directed given end = run_sound directed given forbidden methods (first_state given) end start run in
    let keeps : Keeps directed (first_state given) end = run_keeps directed forbidden methods (first_state given) end opposites run in
    record {
      run = (end, (run, shown));
      distances = distances_listed directed given are_given end sound vertices shortcuts links shown (first_state given) refl keeps;
      printed = distances_printed directed given are_given end sound vertices shortcuts links shown (first_state given) refl keeps;
      held = λ v is. left_listed directed given are_given end sound vertices shortcuts links shown
          (run_survivors directed forbidden methods given end are_given opposites run) v (ends_vertex given v is);
      fits = fits_listed directed given are_given end sound vertices shortcuts links shown light;
    }
