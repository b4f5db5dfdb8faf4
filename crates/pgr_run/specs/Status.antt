-- The statuses of a run.
use Rattle.std.specs.Prelude.{ℕ}
use Rattle.pgr_run.specs.declared.status.Status.{Status}
use Rattle.pgr_run.specs.declared.status.Status.TheVariants.{Done, Outside, Words, Table, Limit, Memory}

-- the exit status of the program
abbrev pub number_of : Status → ℕ
number_of Done = 0
number_of Outside = 1
number_of Words = 2
number_of Table = 3
number_of Limit = 4
number_of Memory = 5
