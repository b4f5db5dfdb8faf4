-- The laws of a graph whose links are turned round, from those of the graph.
use Rattle.std.proofs.Common.{◌≡◌, ℕ, ◌<◌, ◌↔◌, List, length, refl, sym, ap, ◌∙◌, arith, Ordering, map}
use Rattle.std.specs.Ordering.{nat_cmp}
use Rattle.std.specs.List.{Contains}
use Rattle.std.proofs.lemmas.List.{length-map}
use Rattle.std.proofs.Math.ListN.{get_or-map}
use Rattle.pgr_walks.specs.declared.link.LinkOf.{LinkOf}
use Rattle.pgr_walks.specs.Link.{step_cmp, entry_cmp}
use Rattle.pgr_walks.specs.Graph.{IsStrictlyRising, IsLawful, IsLinkOf}
use Rattle.pgr_walks.specs.Reversed.{turned}

-- a link stands among turned links exactly where it stands turned among the links
pub Contains-turned : (xs : List (LinkOf ℕ)) (link : LinkOf ℕ) → Contains (map turned xs) link → Contains xs (turned link)
Contains-turned xs link h = (h.0, omega (arith, h.1, length-map xs (turned {V = ℕ})), ap turned (sym (get_or-map turned xs h.0 (turned link)) ∙ h.2))

pub turned-Contains : (xs : List (LinkOf ℕ)) (link : LinkOf ℕ) → Contains xs (turned link) → Contains (map turned xs) link
turned-Contains xs link h = (h.0, omega (arith, h.1, length-map xs (turned {V = ℕ})), get_or-map turned xs h.0 (turned link) ∙ ap turned h.2)

-- turned links rise where the links do
turned_rise : (cmp next : LinkOf ℕ → LinkOf ℕ → Ordering) → ((a b : LinkOf ℕ) → next (turned a) (turned b) ≡ cmp a b) → (xs : List (LinkOf ℕ)) → IsStrictlyRising cmp xs
    → IsStrictlyRising next (map turned xs)
turned_rise cmp next same xs rise i j d before inside =
    let a = get_or-map turned xs i (turned d) in
    let b = get_or-map turned xs j (turned d) in
    let within : j < length xs = omega (arith, inside, length-map xs (turned {V = ℕ})) in
    rw (a, b) (same _ _ ∙ rise i j (turned d) before within)

module _ (size : ℕ) (outs ins : ℕ → List (LinkOf ℕ)) (law : IsLawful size outs ins) where
  -- the laws
  pub reversed_lawful : IsLawful size (λ v. map turned (ins v)) (λ v. map turned (outs v))
  reversed_lawful = record {
    at = λ v below. record {
      out_ends = λ link h. (law.at v below).in_ends (turned link) (Contains-turned (ins v) link h);
      in_ends = λ link h. (law.at v below).out_ends (turned link) (Contains-turned (outs v) link h);
      outs_rise = turned_rise (entry_cmp nat_cmp) (step_cmp nat_cmp) (λ a b. refl) (ins v) (law.at v below).ins_rise;
      ins_rise = turned_rise (step_cmp nat_cmp) (entry_cmp nat_cmp) (λ a b. refl) (outs v) (law.at v below).outs_rise;
    };
    both = λ link from_below to_below.
        let same = law.both (turned link) to_below from_below in (
          λ h. turned-Contains (outs link.to) link (same.1 (Contains-turned (ins link.from) link h)),
          λ h. turned-Contains (ins link.from) link
              (same.0 (Contains-turned (outs link.to) link h)),
        );
  }

  -- its links are those of the graph, turned
  pub reversed_links : (link : LinkOf ℕ) → IsLinkOf size (λ v. map turned (outs v)) link ↔ IsLinkOf size ins (turned link)
  reversed_links link = (there, back)
    where
      there : IsLinkOf size (λ v. map turned (outs v)) link → IsLinkOf size ins (turned link)
      there h =
          let out = Contains-turned (outs link.to) link h.1 in
          let below : link.from < size = ((law.at link.to h.0).out_ends (turned link) out).1 in
          (below, (law.both (turned link) h.0 below).0 out)

      back : IsLinkOf size ins (turned link) → IsLinkOf size (λ v. map turned (outs v)) link
      back h =
          let below : link.to < size = ((law.at link.from h.0).in_ends (turned link) h.1).1 in
          (below, turned-Contains (outs link.to) link ((law.both (turned link) below h.0).1 h.1))
