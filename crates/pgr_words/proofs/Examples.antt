-- Some words, and their command or their first fault.
use Rattle.std.proofs.Common.{◌≡◌, [], ◌∷◌, Some, None, Ok, Err, true, false, pos, negsuc, codes, refl}
use Rattle.pgr_outside.specs.declared.side.Side.TheVariants.{B}
use Rattle.pgr_words.specs.declared.function.Function.TheVariants.{Dijkstra, DijkstraCostMatrix}
use Rattle.pgr_words.specs.declared.option.OptionName.TheVariants.{Edges, Start, End, Directed, Distance, Heuristic, Factor}
use Rattle.pgr_words.specs.declared.estimate.Heuristic.TheVariants.{H5}
use Rattle.pgr_words.specs.declared.fault.WordFault.TheVariants.{NoFunction, UnknownFunction, BadWord, UnknownOption, RepeatedOption, BadValue, MissingOption}
use Rattle.pgr_words.specs.Forms.{factor}
use Rattle.pgr_words.specs.Commands.{command_of}

-- the first word names the function
pub no_words : command_of [] ≡ Err NoFunction
no_words = refl

pub another_function : command_of (codes "pgr_tsp" ∷ []) ≡ Err UnknownFunction
another_function = refl

-- a front of a name, a longer one, and other letters are other names
pub front_of_a_name : command_of (codes "pgr_dijkstr" ∷ []) ≡ Err UnknownFunction
front_of_a_name = refl

pub longer_name : command_of (codes "pgr_dijkstraCosts" ∷ []) ≡ Err UnknownFunction
longer_name = refl

pub other_letters : command_of (codes "pgr_Dijkstra" ∷ []) ≡ Err UnknownFunction
other_letters = refl

-- a word without two hyphens in front, or without an equals sign, is bad
pub one_hyphen : command_of (codes "pgr_dijkstra" ∷ codes "-v" ∷ []) ≡ Err (BadWord 2)
one_hyphen = refl

pub no_equals_sign : command_of (codes "pgr_dijkstra" ∷ codes "--edges=a" ∷ codes "--start" ∷ []) ≡ Err (BadWord 3)
no_equals_sign = refl

pub equals_sign_before_the_hyphens : command_of (codes "pgr_dijkstra" ∷ codes "=--start" ∷ []) ≡ Err (BadWord 2)
equals_sign_before_the_hyphens = refl

pub nothing_behind_the_hyphens : command_of (codes "pgr_dijkstra" ∷ codes "--" ∷ []) ≡ Err (BadWord 2)
nothing_behind_the_hyphens = refl

pub a_hyphen_alone : command_of (codes "pgr_dijkstra" ∷ codes "-" ∷ []) ≡ Err (BadWord 2)
a_hyphen_alone = refl

pub no_bytes : command_of (codes "pgr_dijkstra" ∷ [] ∷ []) ≡ Err (BadWord 2)
no_bytes = refl

-- a dash is no hyphen: its bytes are others
pub a_dash : command_of (codes "pgr_dijkstra" ∷ (226 ∷ 128 ∷ 147 ∷ codes "edges=a.csv") ∷ []) ≡ Err (BadWord 2)
a_dash = refl

-- an option that the function doesn't have is unknown, the empty name and one with a third hyphen too
pub no_such_option : command_of (codes "pgr_dijkstra" ∷ codes "--K=2" ∷ []) ≡ Err (UnknownOption 2)
no_such_option = refl

pub option_of_another_function : command_of (codes "pgr_dijkstra" ∷ codes "--vids=2" ∷ []) ≡ Err (UnknownOption 2)
option_of_another_function = refl

pub empty_name : command_of (codes "pgr_dijkstra" ∷ codes "--=x" ∷ []) ≡ Err (UnknownOption 2)
empty_name = refl

pub third_hyphen : command_of (codes "pgr_dijkstra" ∷ codes "---start=1" ∷ []) ≡ Err (UnknownOption 2)
third_hyphen = refl

-- an option that stood before is repeated, whatever its value
pub repeated : command_of (codes "pgr_dijkstra" ∷ codes "--edges=a.csv" ∷ codes "--start=1" ∷ codes "--start=2" ∷ []) ≡ Err (RepeatedOption Start)
repeated = refl

pub repeated_with_a_bad_value : command_of (codes "pgr_dijkstra" ∷ codes "--start=1" ∷ codes "--start=x" ∷ []) ≡ Err (RepeatedOption Start)
repeated_with_a_bad_value = refl

-- the first word that breaks a rule is the fault
pub bad_value_first : command_of (codes "pgr_dijkstra" ∷ codes "--start=1,x" ∷ codes "--bogus=1" ∷ []) ≡ Err (BadValue Start)
bad_value_first = refl

pub no_value : command_of (codes "pgr_dijkstra" ∷ codes "--end=" ∷ []) ≡ Err (BadValue End)
no_value = refl

pub comma_at_the_end : command_of (codes "pgr_dijkstra" ∷ codes "--end=1," ∷ []) ≡ Err (BadValue End)
comma_at_the_end = refl

pub no_file_name : command_of (codes "pgr_dijkstra" ∷ codes "--edges=" ∷ []) ≡ Err (BadValue Edges)
no_file_name = refl

-- a flag is written in small letters
pub great_letters : command_of (codes "pgr_dijkstra" ∷ codes "--directed=TRUE" ∷ []) ≡ Err (BadValue Directed)
great_letters = refl

pub digit_for_a_flag : command_of (codes "pgr_dijkstra" ∷ codes "--directed=1" ∷ []) ≡ Err (BadValue Directed)
digit_for_a_flag = refl

-- combinations don't lift the forms of other options
pub bad_start_beside_combinations : command_of (codes "pgr_dijkstra" ∷ codes "--edges=a" ∷ codes "--combinations=c" ∷ codes "--start=x" ∷ []) ≡ Err (BadValue Start)
bad_start_beside_combinations = refl

-- the first needed option in the table's order is missing
pub end_missing : command_of (codes "pgr_dijkstra" ∷ codes "--edges=a.csv" ∷ codes "--start=1" ∷ []) ≡ Err (MissingOption End)
end_missing = refl

pub edges_missing : command_of (codes "pgr_dijkstra" ∷ codes "--combinations=c.csv" ∷ []) ≡ Err (MissingOption Edges)
edges_missing = refl

-- where combinations are given, starts and ends may be absent
pub combinations_alone : command_of (codes "pgr_dijkstra" ∷ codes "--combinations=c" ∷ codes "--edges=a=b" ∷ []) ≡ Ok (record {
  function = Dijkstra;
  edges = codes "a=b";
  points = None;
  restrictions = None;
  combinations = Some (codes "c");
  starts = [];
  ends = [];
  vids = [];
  forbidden = [];
  directed = true;
  details = false;
  equicost = false;
  driving_side = B;
  heuristic = H5;
  factor = record { over = 1; under = 1 };
  k = 0;
  max_cycles = 1;
  distance = 0;
  order = [];
})
combinations_alone = refl

-- a list rises, and each of its numbers stands once
pub rising_list : command_of (codes "pgr_dijkstraCostMatrix" ∷ codes "--edges=a" ∷ codes "--vids=7,-2,7,007,-0" ∷ codes "--directed=false" ∷ []) ≡ Ok (record {
  function = DijkstraCostMatrix;
  edges = codes "a";
  points = None;
  restrictions = None;
  combinations = None;
  starts = [];
  ends = [];
  vids = negsuc 1 ∷ pos 0 ∷ pos 7 ∷ [];
  forbidden = [];
  directed = false;
  details = false;
  equicost = false;
  driving_side = B;
  heuristic = H5;
  factor = record { over = 1; under = 1 };
  k = 0;
  max_cycles = 1;
  distance = 0;
  order = [];
})
rising_list = refl

-- a distance is digits alone, and driving distance needs it and takes no combinations
pub negative_distance : command_of (codes "pgr_drivingDistance" ∷ codes "--distance=-1" ∷ []) ≡ Err (BadValue Distance)
negative_distance = refl

pub no_distance : command_of (codes "pgr_drivingDistance" ∷ codes "--start=1" ∷ codes "--edges=a" ∷ []) ≡ Err (MissingOption Distance)
no_distance = refl

pub driving_combinations : command_of (codes "pgr_drivingDistance" ∷ codes "--combinations=p" ∷ []) ≡ Err (UnknownOption 2)
driving_combinations = refl

-- a heuristic is one digit from 0 to 5, without a zero in front
pub two_digits : command_of (codes "pgr_aStar" ∷ codes "--heuristic=05" ∷ []) ≡ Err (BadValue Heuristic)
two_digits = refl

pub no_such_heuristic : command_of (codes "pgr_aStar" ∷ codes "--heuristic=6" ∷ []) ≡ Err (BadValue Heuristic)
no_such_heuristic = refl

-- a factor has parts from 1 on, and a slash has a part on either side
pub factor_of_nothing : command_of (codes "pgr_aStar" ∷ codes "--factor=0" ∷ []) ≡ Err (BadValue Factor)
factor_of_nothing = refl

pub no_denominator : command_of (codes "pgr_aStar" ∷ codes "--factor=1/" ∷ []) ≡ Err (BadValue Factor)
no_denominator = refl

pub too_great_a_factor : command_of (codes "pgr_aStar" ∷ codes "--factor=1000001" ∷ []) ≡ Err (BadValue Factor)
too_great_a_factor = refl

pub three_halves : factor (codes "3/002") ≡ Some (record { over = 3; under = 2 })
three_halves = refl

pub whole_factor : factor (codes "1000000") ≡ Some (record { over = 1000000; under = 1 })
whole_factor = refl
