-- The laws of a graph without some of its links, from those of the graph.
use Rattle.std.proofs.Common.{◌≡◌, ℕ, ◌↔◌, List, Bool, true}
use Rattle.std.specs.Ordering.{nat_cmp}
use Rattle.std.specs.List.{filter}
use Rattle.std.proofs.lemmas.List.Kept.{AllPairs-filter}
use Rattle.pgr_walks.specs.declared.link.LinkOf.{LinkOf}
use Rattle.pgr_walks.specs.Link.{step_cmp, entry_cmp}
use Rattle.pgr_walks.specs.Graph.{IsLawful, IsLinkOf}
use Rattle.pgr_walks.specs.ListGraphLaws.{filter_gives, filter_keeps}
use Rattle.std.specs.declared.cmp.Ordering.TheVariants.{Less}

module _ (size : ℕ) (outs ins : ℕ → List (LinkOf ℕ)) (law : IsLawful size outs ins) (keeps : LinkOf ℕ → Bool) where
  -- the laws
  pub filtered_lawful : IsLawful size (λ v. filter keeps (outs v)) (λ v. filter keeps (ins v))
  filtered_lawful = record {
    at = λ v below. record {
      out_ends = λ link h. (law.at v below).out_ends link (filter_gives keeps (outs v) link h).0;
      in_ends = λ link h. (law.at v below).in_ends link (filter_gives keeps (ins v) link h).0;
      outs_rise = λ i j d before inside. AllPairs-filter (λ x y. step_cmp nat_cmp x y ≡ Less) keeps (outs v) (law.at v below).outs_rise i j d before inside;
      ins_rise = λ i j d before inside. AllPairs-filter (λ x y. entry_cmp nat_cmp x y ≡ Less) keeps (ins v) (law.at v below).ins_rise i j d before inside;
    };
    both = λ link from_below to_below.
        let same = law.both link from_below to_below in (
          λ h. let given = filter_gives keeps (outs link.from) link h in filter_keeps keeps (ins link.to) link (same.0 given.0) given.1,
          λ h. let given = filter_gives keeps
              (ins link.to) link h in filter_keeps keeps (outs link.from) link (same.1 given.0) given.1,
        );
  }

-- its links are those of the graph that are kept
pub filtered_links : (size : ℕ) (ins : ℕ → List (LinkOf ℕ)) (keeps : LinkOf ℕ → Bool) (link : LinkOf ℕ)
    → IsLinkOf size (λ v. filter keeps (ins v)) link ↔ (IsLinkOf size ins link × (keeps link ≡ true))
filtered_links size ins keeps link = (
  λ h. let given = filter_gives keeps (ins link.to) link h.1 in ((h.0, given.0), given.1),
  λ h. (h.0.0, filter_keeps keeps (ins link.to) link h.0.1 h.1),
)
