-- What is asked of the links that a contraction is given.
use Rattle.std.specs.Prelude.{◌≡◌, ℕ, ℤ, pos, List, Contains}
use Rattle.pgr_walks.specs.declared.link.LinkOf.{LinkOf}
use Rattle.pgr_walks.specs.Reaches.{turned}

-- no edge is negative, so the ids of shortcuts are free
abbrev pub AreGiven : List (LinkOf ℤ) → Type 0
AreGiven links = (link : LinkOf ℤ) → Contains links link → (n : ℕ) × (link.edge ≡ pos n)

-- the opposite of each link stands among them
abbrev pub HaveOpposites : List (LinkOf ℤ) → Type 0
HaveOpposites links = (link : LinkOf ℤ) → Contains links link → Contains links (turned link)
