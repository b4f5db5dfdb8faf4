-- Worked examples of the definitions.
use Rattle.std.proofs.Common.{◌≡◌, ◌-◌, ◌^◌, [], ◌∷◌, Some, None, arith, refl, lit≤}
use Rattle.pgr_outside.specs.Faults.{HasRisen}
use Rattle.pgr_outside.specs.Sink.{AddsPrefix, with_added}
use Rattle.pgr_outside.specs.Files.{content_of}
use Rattle.pgr_outside.specs.Calls.{raised}
use Rattle.pgr_outside.specs.Store.{ReadsAt}

-- a count rose from 0 to 1
pub rises : HasRisen 0 1
rises = lit≤ tt

-- it didn't rise from 0 to 0
pub stays : ¬ (HasRisen 0 0)
stays = λ risen. omega (arith, risen)

-- at the last value of its type it stays, and counts as risen
pub rises_at_the_end : HasRisen (2 ^ 64 - 1) (2 ^ 64 - 1)
rises_at_the_end = lit≤ tt

-- two of three bytes were added behind one
pub adds_two : AddsPrefix (Some (1 ∷ [])) (Some (1 ∷ 2 ∷ 3 ∷ [])) (2 ∷ 3 ∷ 4 ∷ [])
adds_two = (2 ∷ 3 ∷ [], 4 ∷ [], refl, refl)

-- no byte was added
pub adds_none : AddsPrefix (Some (1 ∷ [])) (Some (1 ∷ [])) (2 ∷ [])
adds_none = ([], 2 ∷ [], refl, refl)

-- a sink that tells nothing tells nothing afterwards
pub untold_stays_untold : with_added None (1 ∷ []) ≡ None
untold_stays_untold = refl

-- two bytes were read from the place 1 on
pub reads_two : ReadsAt (7 ∷ 8 ∷ 9 ∷ []) 1 (8 ∷ 9 ∷ 0 ∷ []) 2
reads_two = record { within = lit≤ tt; bytes = refl; ended = λ none _. cc }

-- a file is found under its name, and no other is
pub finds_the_file : content_of ((97 ∷ [], 1 ∷ []) ∷ (98 ∷ [], 2 ∷ []) ∷ []) (98 ∷ []) ≡ Some (2 ∷ [])
finds_the_file = refl

pub finds_no_file : content_of ((97 ∷ [], 1 ∷ []) ∷ []) (98 ∷ []) ≡ None
finds_no_file = refl

-- the first call has the number 1, and a call past the last number has that number
pub first_number : raised 0 ≡ 1
first_number = refl

pub last_number : raised (2 ^ 64 - 1) ≡ 2 ^ 64 - 1
last_number = refl
