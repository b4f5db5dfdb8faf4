use Rattle.std.proofs.Common.{◌≡◌, ◌+◌, ◌<◌, ℕ, Bool, List, [], ◌∷◌, ◌++◌, length, get_or, refl, sym, ap, subst, ◌∙◌, arith, rules, heap_items}
use Rattle.std.specs.declared.cmp.Reverse.{Reverse}
use Rattle.std.specs.Ordering.{nat_cmp}
use Rattle.std.specs.BinaryHeap.{IsHeap}
use Rattle.std.specs.List.Sorted.{IsPermutation}
use Rattle.std.proofs.lemmas.Bool.{true≢false}
use Rattle.std.proofs.lemmas.List.{get_or_default}
use Rattle.pgr_walks.specs.declared.link.LinkOf.{LinkOf}
use Rattle.pgr_walks.specs.LinksOf.{LinksOf}
use Rattle.pgr_walks.specs.RouteOrder.{IsLeast}
use Rattle.pgr_route.specs.Chain.{IsChain, walk_chain}
use Rattle.pgr_ksp.specs.declared.class.Class.{Class}
use Rattle.pgr_ksp.specs.Routes.{IsLeft}
use Rattle.pgr_ksp.specs.Classes.{later_cmp}
use Rattle.pgr_ksp.specs.Sound.{IsSound}
use Rattle.pgr_ksp.proofs.Costs.{can_again, written_length}
use Rattle.pgr_ksp.proofs.Stepping.{first_item, least_of_first, sound_after, not_all, none_is_left}
use Rattle.pgr_ksp.proofs.paths.Paths.next.Goals as goal

pub returns-in_default-clause-none : goal.returns-in_default-clause-none
returns-in_default-clause-none g c =
    let inside = c.self.inside in
    let all = none_is_left (LinksOf g.G.Graph inside.graph.now) inside.s inside.t inside.given.items (heap_items inside.classes) c.self.invariant.1 (search rules) in
    ((λ e. rw (← c.self.view_is) all), λ h. refl)

pub of-requires-clause-chain : goal.of-requires-clause-chain
of-requires-clause-chain g c =
    let inside = c.self.inside in
    let Has : LinkOf ℕ → Type 0 = LinksOf g.G.Graph inside.graph.now in
    let items : List (Reverse Class) = heap_items inside.classes in
    let top : Reverse Class = c.in-Some.first.now in
    let sound = c.self.invariant.1 in
    let some : 0 < length items = search rules in
    let there = first_item items top some c.in-Some.ensures.lookup in
    let upper = c.in-Some.ensures.greatest sound.heap in
    let least = least_of_first Has inside.s inside.t inside.given.items items sound top there upper in
    let copied : c.in_ok-copy.copy.items ≡ top.0.links.items = c.in_ok-copy.ensures.items ∙ c.as_slice.ensures.value in
    subst (λ (ls : List (LinkOf ℕ)). IsChain ls) (sym copied) (walk_chain Has inside.s top.0.links.items inside.t least.belongs.is_route.is_walk)

pub invariant_of-self-2 : goal.invariant_of-self-2
invariant_of-self-2 g c =
    let inside = c.self.inside in
    let Has : LinkOf ℕ → Type 0 = LinksOf g.G.Graph inside.graph.now in
    let items : List (Reverse Class) = heap_items inside.classes in
    let top : Reverse Class = c.in-Some.first.now in
    let sound = c.self.invariant.1 in
    let some : 0 < length items = search rules in
    let there = first_item items top some c.in-Some.ensures.lookup in
    let upper = c.in-Some.ensures.greatest sound.heap in
    let popped : Reverse Class = c.in-Some-pop.field-0 in
    let same : popped ≡ top = (c.in-Some-pop.ensures.top ∙ ap (λ (xs : List (Reverse Class)). get_or xs 0 popped) c.reserve-2.ensures.items) ∙
    (get_or_default items 0 popped top some ∙ sym c.in-Some.ensures.lookup) in
    let rest : List (Reverse Class) = heap_items c.pop.new.self in
    let parts : List (Reverse Class) = heap_items c.in_ok-parts.parts in
    let new : List (Reverse Class) = heap_items c.append.new.self in
    let taken : IsPermutation items (popped ∷ rest) = subst (λ (xs : List (Reverse Class)). IsPermutation xs (popped ∷ rest)) c.reserve-2.ensures.items
    c.in-Some-pop.ensures.permutation in
    let first : IsPermutation items (top ∷ rest) = subst (λ (x : Reverse Class). IsPermutation items (x ∷ rest)) same taken in
    let before = subst (λ (xs : List (Reverse Class)). IsHeap later_cmp xs) (sym c.reserve-2.ensures.items) sound.heap in
    let heap = c.in-Ok.ensures.heap_order (c.in-Some-pop.ensures.heap_order before).0 in
    let after = sound_after Has inside.s inside.t inside.given.items items sound rest parts new top there upper first c.in-Ok.ensures.permutation heap
    c.in_ok-parts.ensures.classes c.in_ok-parts.ensures.parts in
    let route : c.of.result ≡ top.0.links.items = c.of.ensures ∙ (c.in_ok-copy.ensures.items ∙ c.as_slice.ensures.value) in
    let given : c.push.new.self.items ≡ inside.given.items ++ top.0.links.items ∷ [] = c.in-Ok-push.ensures.items ∙ (λ i. c.reserve.ensures.items i ++ route i ∷ []) in
    let marks = ap (λ (bs : List Bool). length bs) c.as_mut_slice.ensures.value in
    let P : List (List (LinkOf ℕ)) → Type 0 = λ xs. IsSound Has inside.s inside.t xs new in (
      can_again (g.G.Graph.count inside.graph.now) Has inside.s inside.t inside.gone.items _ inside.costs inside.room c.split.new.room c.self.invariant.0
          (written_length inside.gone.len c.split.new.gone inside.gone.items (sym c.as_mut_slice.ensures.len ∙ marks) (c.split.ensures.marks ∙ marks)) c.split.ensures.room,
      subst P (sym given) after,
    )

pub returns-clause-least : goal.returns-clause-least
returns-clause-least g c =
    let inside = c.self.inside in
    let Has : LinkOf ℕ → Type 0 = LinksOf g.G.Graph inside.graph.now in
    let items : List (Reverse Class) = heap_items inside.classes in
    let top : Reverse Class = c.in-Some.first.now in
    let sound = c.self.invariant.1 in
    let some : 0 < length items = search rules in
    let there = first_item items top some c.in-Some.ensures.lookup in
    let upper = c.in-Some.ensures.greatest sound.heap in
    let least = least_of_first Has inside.s inside.t inside.given.items items sound top there upper in
    let popped : Reverse Class = c.in-Some-pop.field-0 in
    let same : popped ≡ top = (c.in-Some-pop.ensures.top ∙ ap (λ (xs : List (Reverse Class)). get_or xs 0 popped) c.reserve-2.ensures.items) ∙
    (get_or_default items 0 popped top some ∙ sym c.in-Some.ensures.lookup) in
    let result : c.of-2.result ≡ top.0.links.items = c.of-2.ensures ∙ ap (λ (x : Reverse Class). x.0.links.items) same in
    let P : List (LinkOf ℕ) → Type 0 = λ ls. IsLeast nat_cmp (IsLeft Has inside.s inside.t inside.given.items) ls in
    rw (← c.self.view_is) (subst P (sym result) least)

pub returns-clause-none : goal.returns-clause-none
returns-clause-none g c =
    let inside = c.self.inside in
    let Has : LinkOf ℕ → Type 0 = LinksOf g.G.Graph inside.graph.now in
    let items : List (Reverse Class) = heap_items inside.classes in
    let top : Reverse Class = c.in-Some.first.now in
    let sound = c.self.invariant.1 in
    let some : 0 < length items = search rules in
    let there = first_item items top some c.in-Some.ensures.lookup in
    let upper = c.in-Some.ensures.greatest sound.heap in
    let least = least_of_first Has inside.s inside.t inside.given.items items sound top there upper in
    ((λ e. absurd (true≢false e)), λ all. absurd (not_all Has inside.s inside.t inside.given.items top.0.links.items least (rw (← c.self.view_is) at all)))
