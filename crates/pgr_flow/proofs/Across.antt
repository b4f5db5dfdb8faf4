-- No flow exceeds a cut: across each cut the same flows as out of the sources, and no arc carries more than its capacity.
use Rattle.std.proofs.Common.{◌≡◌, ℕ, ◌+◌, ◌≤◌, Bool, true, false, cond, not, ◌&&◌, List, [], ◌∷◌, nat_eq, refl, arith, All}
use Rattle.std.proofs.lemmas.List.Sums.{sum_by-cons}
use Rattle.pgr_walks.specs.declared.link.LinkOf.{LinkOf}
use Rattle.pgr_walks.specs.ListGraph.{HasEndsBelow}
use Rattle.pgr_flow.specs.Flow.{sum_where, leaving, entering, AreWithin, IsFlow}
use Rattle.pgr_flow.specs.Cut.{IsCut, leads_out, capacity_of}
use Rattle.pgr_flow.proofs.Sums.{sum_where-split}
use Rattle.pgr_flow.proofs.KeptSets.{kept_set}

split_at : (c s : Bool) (m : ℕ) → (s ≡ true → c ≡ true) → cond c m 0 ≡ cond s m 0 + cond (c && not s) m 0
split_at true true m h = omega arith
split_at true false m h = omega arith
split_at false true m h = absurd (let e : false ≡ true = h refl in cc)
split_at false false m h = omega arith

both : (c s : Bool) → (c && not s) ≡ true → (c ≡ true) × (s ≡ false)
both true true h = absurd (cc)
both true false h = (refl, refl)
both false s h = absurd (cc)

sink_off : (t c : Bool) → (t ≡ true → c ≡ false) → c ≡ true → t ≡ false
sink_off true c h is = absurd (let e = h refl in cc)
sink_off false c h is = refl

-- what leaves the sources and comes into a cut is what leaves the cut and comes into the sources
pub across : (size : ℕ) (arcs : List (LinkOf ℕ)) (source sink inside : ℕ → Bool) (flows : List ℕ) → All (HasEndsBelow size) arcs → IsFlow nat_eq arcs source sink flows
    → IsCut source sink inside
    → leaving source arcs flows + entering inside arcs flows ≡ leaving inside arcs flows + entering source arcs flows
across size arcs source sink inside flows below flow cut =
    let kept : leaving (λ x. inside x && not (source x)) arcs flows ≡ entering (λ x. inside x && not (source x)) arcs flows =
    kept_set arcs flows (λ x. inside x && not (source x)) (λ v is. let h = both (inside v) (source v) is in flow.kept v h.1 (sink_off (sink v) (inside v)
    (cut.sinks v) h.0)) size below in
    omega (
      arith,
      kept,
      sum_where-split (λ (a : LinkOf ℕ). inside a.from) (λ a. source a.from) (λ a. inside a.from && not (source a.from)) (λ a m. split_at (inside a.from) (source a.from) m
          (cut.sources a.from)) arcs flows,
      sum_where-split (λ (a : LinkOf ℕ). inside a.to) (λ a. source a.to) (λ a. inside a.to && not (source a.to)) (λ a m. split_at (inside a.to) (source a.to) m
          (cut.sources a.to)) arcs flows,
    )

-- what an arc carries out of a set is at most what it may, and what it carries in
pub carried : (f t : Bool) (n c : ℕ) → n ≤ c → cond f n 0 ≤ cond (f && not t) c 0 + cond t n 0
carried true true n c h = omega arith
carried true false n c h = omega arith
carried false true n c h = omega arith
carried false false n c h = omega arith

-- what leaves a set is at most its capacity and what comes into it
pub leaving-le : {V : Type 0} (inside : V → Bool) (arcs : List (LinkOf V)) (flows : List ℕ) → AreWithin arcs flows
    → leaving inside arcs flows ≤ capacity_of inside arcs + entering inside arcs flows
unfolding sum_where
leaving-le inside [] flows h = omega arith
leaving-le inside (a ∷ arcs) [] h = absurd h
leaving-le {V} inside (a ∷ arcs) (n ∷ flows) h =
    omega (arith, carried (inside a.from) (inside a.to) n a.cost h.0, leaving-le inside arcs flows h.1, sum_by-cons (λ (x : LinkOf V). cond (leads_out inside x) x.cost 0) a arcs)

-- the value of a flow is at most the capacity of a cut
pub weak_duality : (size : ℕ) (arcs : List (LinkOf ℕ)) (source sink inside : ℕ → Bool) (flows : List ℕ) → All (HasEndsBelow size) arcs → IsFlow nat_eq arcs source sink flows
    → IsCut source sink inside
    → leaving source arcs flows ≤ capacity_of inside arcs + entering source arcs flows
weak_duality size arcs source sink inside flows below flow cut = omega (arith, across size arcs source sink inside flows below flow cut, leaving-le inside arcs flows flow.within)
