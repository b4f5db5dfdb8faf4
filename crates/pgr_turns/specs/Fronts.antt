-- What of some restrictions has been met so far. Edge ids stand here from the last one back to the first.
use Rattle.std.specs.Prelude.{◌≡◌, ◌≢◌, ℤ, List, [], ◌∷◌, ◌++◌, length, take, reverse, Contains}

-- the edge ids begin with these
abbrev pub Begins : List ℤ → List ℤ → Type 0
Begins ids edges = take (length ids) edges ≡ ids

-- a front of a restriction: some of its ids from the first one on, read backwards
pub record IsFront (restrictions : List (List ℤ)) (ids : List ℤ) : Type 0 where
  pub of : List ℤ
  pub among : Contains restrictions of
  pub rest : List ℤ
  pub whole : reverse of ≡ rest ++ ids

-- a restriction is met by the last edges
pub record Completes (restrictions : List (List ℤ)) (edges : List ℤ) : Type 0 where
  pub ids : List ℤ
  pub among : Contains restrictions ids
  pub some : ids ≢ []
  pub begins : Begins (reverse ids) edges

-- the edges begin with the ids, and these with each front of a restriction that the edges begin with
pub record IsLongest (restrictions : List (List ℤ)) (edges ids : List ℤ) : Type 0 where
  pub begins : Begins ids edges
  pub longest : (other : List ℤ) → IsFront restrictions other → Begins other edges → Begins other ids

-- no restriction is met by any further edge, in order, after the edges before
abbrev pub Avoids : List (List ℤ) → List ℤ → List ℤ → Type 0
Avoids restrictions before [] = Unit {0}
Avoids restrictions before (edge ∷ edges) = (Completes restrictions (edge ∷ before) → ⊥) × Avoids restrictions (edge ∷ before) edges
