-- A text of six parts, between two others.
use Rattle.std.proofs.Common.{◌≡◌, ℕ, List, [], ◌∷◌, ◌++◌, get_or, length, append_assoc, arith}
use Rattle.pgr_outside.specs.declared.part.Part.{Part}
use Rattle.pgr_outside.specs.Parts.{part_text, parts_text}

-- the parts one by one, between a text before and one behind
abbrev pub one_by_one : List Part → Part → List ℕ → List ℕ → List ℕ
one_by_one parts x front back =
    front ++ (part_text (get_or parts 0 x) ++ (part_text (get_or parts 1 x) ++ (part_text (get_or parts 2 x)
    ++ (part_text (get_or parts 3 x) ++ (part_text (get_or parts 4 x) ++ (part_text (get_or parts 5 x) ++ back))))))

-- six parts one by one are their text
pub six_parts : (parts : List Part) (x : Part) (front back : List ℕ) → length parts ≡ 6 → one_by_one parts x front back ≡ front ++ parts_text parts ++ back
six_parts [] x front back six = absurd (omega (arith, six))
six_parts (a ∷ []) x front back six = absurd (omega (arith, six))
six_parts (a ∷ b ∷ []) x front back six = absurd (omega (arith, six))
six_parts (a ∷ b ∷ c ∷ []) x front back six = absurd (omega (arith, six))
six_parts (a ∷ b ∷ c ∷ d ∷ []) x front back six = absurd (omega (arith, six))
six_parts (a ∷ b ∷ c ∷ d ∷ e ∷ []) x front back six = absurd (omega (arith, six))
six_parts (a ∷ b ∷ c ∷ d ∷ e ∷ f ∷ []) x front back six = simp append_assoc
six_parts (a ∷ b ∷ c ∷ d ∷ e ∷ f ∷ g ∷ rest) x front back six = absurd (omega (arith, six))
