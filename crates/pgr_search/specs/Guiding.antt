-- How keys, costs and estimates together, are lowered along links.
use Rattle.std.specs.Prelude.{◌≡◌, ℕ, ◌+◌, ◌-◌, ◌<◌, ◌^◌, List, [], ◌∷◌, Option, Some, Contains, length, if◌then◌else◌}
use Rattle.std.specs.Borrow.{GName}
use Rattle.std.specs.Option.{is_some}
use Rattle.std.specs.declared.cmp.Ordering.{Ordering}
use Rattle.std.specs.Ordering.{nat_cmp, ordering_then}
use Rattle.pgr_walks.specs.declared.link.LinkOf.{LinkOf}
use Rattle.pgr_walks.specs.declared.label.Label.{Label}
use Rattle.pgr_search.specs.declared.guiding.Key.{Key}
use Rattle.pgr_search.specs.FinalLabels.{label_at}
use Rattle.pgr_search.specs.Heap.{key_at, lowered}

-- the order of keys: by cost and estimate, then by hops
abbrev pub key_cmp : Key → Key → Ordering
key_cmp a b = ordering_then (nat_cmp a.cost b.cost) (nat_cmp a.hops b.hops)

-- the label that a vertex of this key has
abbrev pub label_of_key : (ℕ → ℕ) → ℕ → Key → Label
label_of_key values v key = record { cost = key.cost - values v; hops = key.hops }

-- the key of where a link begins, for a walk that goes on, where the link leads, with one of this label
abbrev pub key_beyond : (ℕ → ℕ) → Label → LinkOf ℕ → Key
key_beyond values label link = record { cost = label.cost + link.cost + values link.from; hops = label.hops + 1 }

-- the keys after a link was relaxed that leads to a vertex of this label; a settled vertex waits no more
abbrev pub guided : (ℕ → ℕ) → List (Option Label) → List (Option Key) → Label → LinkOf ℕ → List (Option Key)
guided values settled keys label link = if is_some (label_at settled link.from) then keys else lowered key_cmp keys link.from (key_beyond values label link)

-- the keys after each of some links was
abbrev pub all_guided : (ℕ → ℕ) → List (Option Label) → List (Option Key) → Label → List (LinkOf ℕ) → List (Option Key)
all_guided values settled keys label [] = keys
all_guided values settled keys label (link ∷ links) = all_guided values settled (guided values settled keys label link) label links

-- what a visitor that relaxes links with estimates means
pub record Guidance : Type 0 where
  pub reference : GName
  pub settled : List (Option Label)
  pub keys : List (Option Key)
  pub size : ℕ
  pub values : ℕ → ℕ
  pub label : Label

-- that meaning after a link was relaxed
abbrev pub guidance_after : Guidance → LinkOf ℕ → Guidance
guidance_after guidance link = record guidance { keys = guided guidance.values guidance.settled guidance.keys guidance.label link }

-- a link may be relaxed among so many vertices: it begins at one of them, and the sums fit
pub record CanGuide (size : ℕ) (values : ℕ → ℕ) (label : Label) (link : LinkOf ℕ) : Type 0 where
  pub from_below : link.from < size
  pub cost_fits : label.cost + link.cost < 2 ^ 64
  pub hops_fit : label.hops + 1 < 2 ^ 32
  pub value_fits : values link.from < 2 ^ 127

-- a link that the visitor may be shown
pub record IsGuided (guidance : Guidance) (link : LinkOf ℕ) : Type 0 where
  pub can : CanGuide guidance.size guidance.values guidance.label link
  pub settled : length guidance.settled ≡ guidance.size
  pub keys : length guidance.keys ≡ guidance.size

-- each target has the key of the walk without links, and no other vertex has one
pub record StartsGuided (values : ℕ → ℕ) (targets : List ℕ) (keys : List (Option Key)) : Type 0 where
  pub marked : (t : ℕ) → Contains targets t → key_at keys t ≡ Some (record { cost = values t; hops = 0 })
  pub others : (v : ℕ) (key : Key) → key_at keys v ≡ Some key → Contains targets v × (key ≡ record { cost = values v; hops = 0 })
