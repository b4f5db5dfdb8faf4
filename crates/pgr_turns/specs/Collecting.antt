-- The links out of a vertex in a list.
use Rattle.std.specs.Prelude.{◌≡◌, ℕ, ◌+◌, ◌-◌, ◌≤◌, List, length, min, take, slice_set, if◌then◌else◌, nat_lt, ◌^◌}
use Rattle.std.specs.Borrow.{GName}
use Rattle.pgr_walks.specs.declared.link.LinkOf.{LinkOf}

-- the links stand in front, as far as there are places, and the last is the place behind them, counted up to the greatest
pub record HaveCollected (links before after : List (LinkOf ℕ)) (last : ℕ) : Type 0 where
  pub last_is : last ≡ min (length links) (2 ^ 64 - 1)
  pub size_is : length after ≡ length before
  pub noted : length links ≤ length before → length links ≤ 2 ^ 64 - 1 → take (length links) after ≡ links

-- what a visitor that collects links means: the reference that it holds, the places behind it, and the place of the next
pub record Collection : Type 0 where
  pub reference : GName
  pub places : List (LinkOf ℕ)
  pub next : ℕ

-- after a link it stands at the next place, where there is one; places are counted up to the greatest
abbrev pub collection_after : Collection → LinkOf ℕ → Collection
collection_after m link = record m {
  places = if nat_lt m.next (length m.places) then slice_set m.places m.next link else m.places;
  next = min (m.next + 1) (2 ^ 64 - 1);
}
