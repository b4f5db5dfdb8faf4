-- Vertices with the names of their classes, by their numbers: by vertex, and sorted by class.
use Rattle.std.specs.Prelude.{◌≡◌, ℕ, ◌<◌, ℤ, List, length, slice_index, slice_index_or, All, Contains}
use Rattle.std.specs.declared.cmp.Ordering.{Ordering}
use Rattle.std.specs.Ordering.{nat_cmp, ordering_then}
use Rattle.pgr_outside.specs.Lists.{IsStrictlyRising}
use Rattle.pgr_numbers.specs.Names.{id_at}
use Rattle.pgr_answer.specs.declared.components.NumberedMember.{NumberedMember}
use Rattle.pgr_answer.specs.Components.{Member}

-- the order by class, then by vertex
abbrev pub numbered_cmp : NumberedMember → NumberedMember → Ordering
numbered_cmp a b = ordering_then (nat_cmp a.component b.component) (nat_cmp a.node b.node)

-- the vertex with this number, and the name of its class
abbrev pub member_at : List ℕ → ℕ → NumberedMember
member_at classes v = record { component = slice_index classes v; node = v }

-- each vertex below the size, in order
pub record AreByVertex (classes : List ℕ) (size : ℕ) (members : List NumberedMember) : Type 0 where
  pub size_is : length members ≡ size
  pub each : (v : ℕ) (d : NumberedMember) → v < size → slice_index_or members v d ≡ member_at classes v

-- each vertex that has a class, by rising class and then by rising vertex
pub record AreByClass (classes : List ℕ) (members : List NumberedMember) : Type 0 where
  pub below : All (λ m. m.node < length classes) members
  pub classed : All (λ m. m.component ≡ slice_index classes m.node) members
  pub every : (v : ℕ) → v < length classes → Contains members (member_at classes v)
  pub rise : IsStrictlyRising numbered_cmp members

-- both numbers are below this one
abbrev pub IsMemberAmong : ℕ → NumberedMember → Type 0
IsMemberAmong size m = (m.component < size) × (m.node < size)

-- the ids that the two numbers stand for
abbrev pub by_ids : List ℤ → NumberedMember → Member
by_ids names m = record { component = id_at names m.component; node = id_at names m.node }
