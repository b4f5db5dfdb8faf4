use Rattle.std.proofs.Common.{◌≡◌, ◌+◌, ℕ, Bool, cond, List, [], ◌∷◌, take, refl, sym, ap, subst, ◌∙◌, arith, heap_items}
use Rattle.std.specs.declared.cmp.Reverse.{Reverse}
use Rattle.std.proofs.lemmas.List.Elements.{All-cons}
use Rattle.std.proofs.lemmas.List.Sorted.{All-permutation, sum_by-IsPermutation}
use Rattle.pgr_walks.specs.declared.link.LinkOf.{LinkOf}
use Rattle.pgr_walks.specs.LinksOf.{LinksOf}
use Rattle.pgr_ksp.specs.declared.class.Class.{Class}
use Rattle.pgr_ksp.specs.Classes.{IsClass, has, goes_on, one}
use Rattle.pgr_ksp.proofs.Sums.{count_cons}
use Rattle.pgr_ksp.proofs.split.add_class.Goals as goal

pub returns-in_ok-push-in-Some-clause-classes : goal.returns-in_ok-push-in-Some-clause-classes
returns-in_ok-push-in-Some-clause-classes g c =
    let P : Reverse Class → Type 0 = λ item. IsClass (LinksOf g.G.Graph c.args.ends.now.graph.now) c.args.ends.now.s c.args.ends.now.t item.0 in
    let of_class = rw c.in-Some.is at c.in_ok-class_of.ensures.class in
    All-permutation P _ _ c.in_ok-push-in-Some.ensures.permutation (All-cons P _ _ of_class c.requires.classes)

pub returns-in_ok-push-in-Some-clause-more : goal.returns-in_ok-push-in-Some-clause-more
returns-in_ok-push-in-Some-clause-more g c = λ route is_route.
    let item : Reverse Class = record { 0 = c.in-Some.class } in
    let p : Reverse Class → ℕ = λ x. cond (has route x) 1 0 in
    let after = sum_by-IsPermutation p _ _ c.in_ok-push-in-Some.ensures.permutation in
    let head = count_cons (has route) item (heap_items c.args.classes.now) in
    let kept = rw c.in-Some.is at c.in_ok-class_of.ensures.kept in
    let taboo = rw c.in-Some.is at c.in_ok-class_of.ensures.taboo in
    let same : one (has route item) ≡ one (goes_on c.args.front.now.links.now c.args.taboo.items route) = λ i. one (goes_on (kept i) (taboo i) route) in
    omega (arith, after, head, same)
