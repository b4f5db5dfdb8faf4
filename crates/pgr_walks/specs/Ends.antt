-- The vertices at the other ends of a vertex's links, and lists of vertices in one list.
use Rattle.std.specs.Prelude.{◌≡◌, ℕ, ◌+◌, ◌-◌, ◌<◌, ◌≤◌, ◌++◌, List, [], map, length, min, take, drop, slice_index, slice_index_or, slice_set, if◌then◌else◌, nat_lt, ◌^◌}
use Rattle.std.specs.List.{range_with_len}
use Rattle.std.specs.Borrow.{GName}
use Rattle.pgr_walks.specs.declared.link.LinkOf.{LinkOf}
use Rattle.pgr_walks.specs.declared.ends.End.{End}
use Rattle.pgr_walks.specs.declared.ends.End.TheVariants.{Head, Tail}

-- where links lead, in their order
abbrev pub heads_of : List (LinkOf ℕ) → List ℕ
heads_of links = map (λ link. link.to) links

-- where links begin, in their order
abbrev pub tails_of : List (LinkOf ℕ) → List ℕ
tails_of links = map (λ link. link.from) links

-- the end of a link
abbrev pub end_of : End → LinkOf ℕ → ℕ
end_of Head link = link.to
end_of Tail link = link.from

-- the far ends of a vertex's links: where those out of it lead, or where those into it begin
abbrev pub ends_at : End → (ℕ → List (LinkOf ℕ)) → (ℕ → List (LinkOf ℕ)) → ℕ → List ℕ
ends_at Head outs ins v = heads_of (outs v)
ends_at Tail outs ins v = tails_of (ins v)

-- there is a list for each vertex below the size, and it is the one that the function gives
pub record AreListsOf (size : ℕ) (of : ℕ → List ℕ) (lists : List (List ℕ)) : Type 0 where
  pub size_is : length lists ≡ size
  pub each : (v : ℕ) → v < size → slice_index_or lists v [] ≡ of v

-- the part of a list from one place up to the next
abbrev pub piece : List ℕ → List ℕ → ℕ → List ℕ
piece starts items k = take (slice_index starts (k + 1) - slice_index starts k) (drop (slice_index starts k) items)

-- the parts of a list from each place up to the next
abbrev pub pieces : List ℕ → List ℕ → List (List ℕ)
pieces starts items = map (piece starts items) (range_with_len 0 (length starts - 1))

-- the places rise within the list, and there are at most 2^32 of them, one at least
pub record ArePlaces (starts items : List ℕ) : Type 0 where
  pub some : 0 < length starts
  pub few : length starts ≤ 2 ^ 32
  pub rise : (k : ℕ) → k + 1 < length starts → slice_index starts k ≤ slice_index starts (k + 1)
  pub inside : (k : ℕ) → k + 1 < length starts → slice_index starts (k + 1) ≤ length items

-- the ends stand from a place on, as far as there are places, and the last is the place behind them, counted up to the greatest
pub record HaveNoted (at : ℕ) (ends before after : List ℕ) (last : ℕ) : Type 0 where
  pub last_is : last ≡ min (at + length ends) (2 ^ 64 - 1)
  pub size_is : length after ≡ length before
  pub front : take at after ≡ take at before
  pub noted : at + length ends ≤ length before → at + length ends ≤ 2 ^ 64 - 1 → take (at + length ends) after ≡ take at before ++ ends

-- what a visitor that notes ends means: the reference that it holds, the places behind it, the place of the next, and the end that it notes
pub record Notes : Type 0 where
  pub reference : GName
  pub places : List ℕ
  pub next : ℕ
  pub end : End

-- after a link its end stands at the next place, where there is one; places are counted up to the greatest
abbrev pub notes_after : Notes → LinkOf ℕ → Notes
notes_after m link = record m {
  places = if nat_lt m.next (length m.places) then slice_set m.places m.next (end_of m.end link) else m.places;
  next = min (m.next + 1) (2 ^ 64 - 1);
}
