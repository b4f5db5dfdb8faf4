use Rattle.std.proofs.Common.{◌≡◌, ◌==◌, ℕ, length, take, get_or, false}
use Rattle.std.specs.List.{list_any}
use Rattle.pgr_turns.proofs.automaton.marks_of.Given as goal

-- the marks of the nodes so far
abbrev pub invariant-loop-last : goal.invariant-loop-last
invariant-loop-last l = record {
  size_is : length l.marks.items ≡ l.count;
  marks_are : (x : ℕ) → get_or l.marks.items x false ≡ list_any (λ last. last == x) (take l.last-index l.lasts);
}
