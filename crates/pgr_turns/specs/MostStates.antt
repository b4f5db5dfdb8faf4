-- How many states a graph and some restrictions have at most.
use Rattle.std.specs.Prelude.{◌≡◌, ◌⊎◌, ℕ, ℤ, ◌+◌, ◌||◌, List, Bool, filter, length}
use Rattle.std.specs.Ordering.{int_eq}
use Rattle.std.specs.List.{list_any, range_with_len, sum_by}
use Rattle.pgr_walks.specs.declared.link.LinkOf.{LinkOf}

-- whether a link with the edge begins at the vertex or leads to it
abbrev pub is_end : (ℕ → List (LinkOf ℕ)) → (ℕ → List (LinkOf ℕ)) → ℤ → ℕ → Bool
is_end outs ins edge v = list_any (λ link. int_eq link.edge edge) (outs v) || list_any (λ link. int_eq link.edge edge) (ins v)

-- the ends of the links with the edge, each once
abbrev pub ends_of : ℕ → (ℕ → List (LinkOf ℕ)) → (ℕ → List (LinkOf ℕ)) → ℤ → List ℕ
ends_of count outs ins edge = filter (is_end outs ins edge) (range_with_len 0 count)

-- a state for each vertex, and for each id of each restriction one for each end of the links with that edge
abbrev pub most_states : ℕ → (ℕ → List (LinkOf ℕ)) → (ℕ → List (LinkOf ℕ)) → List (List ℤ) → ℕ
most_states count outs ins restrictions = count + sum_by (λ ids. sum_by (λ edge. length (ends_of count outs ins edge)) ids) restrictions

-- two links have the same two ends, in one order or the other
abbrev pub HasSameEnds : {V : Type 0} → LinkOf V → LinkOf V → Type 0
HasSameEnds link other = ((other.from ≡ link.from) × (other.to ≡ link.to)) ⊎ ((other.from ≡ link.to) × (other.to ≡ link.from))
