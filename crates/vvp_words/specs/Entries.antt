-- What the words of the command line say.
use Rattle.std.specs.Prelude.{ℕ, Bool, true, not, ◌||◌, List, codes, is_some, option_map, option_and_then, if◌then◌else◌, Option, Some, None}
use Rattle.std.specs.Str.{bytes_eq}
use Rattle.vvp_words.specs.Command.{Given, given}
use Rattle.vvp_words.specs.Decimal.{decimal_of}

-- what is to be done
pub data Work : Type 0 where
  -- the run of the file of a name
  File : List ℕ → Work
  -- the run of the workload of a size
  Workload : ℕ → Work
  -- the report on the dump of a name: how often its variables rise and fall
  Toggles : List ℕ → Work
  -- the run of the file of a name, for the report on its own dump
  Activity : List ℕ → Work

-- what is to be done, for how many steps at most, in which order, and whether the counts of the run are wanted; where nothing is run
-- these are the usual ones
pub record Entries : Type 0 where
  pub work : Work
  pub budget : ℕ
  pub order : ℕ
  pub stats : Bool

-- the work of an operand in a mode other than the usual one: in the mode `workload` the operand is a number from 1 to 2,000
abbrev pub work_in : List ℕ → List ℕ → Option Work
work_in mode operand =
    if bytes_eq mode (codes "run") then Some (File operand)
    else if bytes_eq mode (codes "workload") then option_map Workload (decimal_of 4 1 2000 operand)
    else if bytes_eq mode (codes "toggles") then Some (Toggles operand)
    else if bytes_eq mode (codes "activity") then Some (Activity operand)
    else None

-- by default the operand is a file
unfoldable pub work_of : Option (List ℕ) → List ℕ → Option Work
work_of None operand = Some (File operand)
work_of (Some mode) operand = work_in mode operand

-- whether an option that speaks of a run was given, be it with its usual value
abbrev pub speaks_of_run : Given → Bool
speaks_of_run given = is_some given.events || is_some given.order || given.stats

-- whether a work takes the options that were given: the report on a dump takes none that speaks of a run, and the report on the dump of a
-- run no counts
abbrev pub takes : Given → Work → Bool
takes given (File name) = true
takes given (Workload size) = true
takes given (Toggles name) = not (speaks_of_run given)
takes given (Activity name) = not given.stats

-- the work that the words say, where it takes their options
unfoldable pub work_given : Given → Option Work
work_given given = option_and_then (λ (work : Work). if takes given work then Some work else None) (work_of given.mode given.operand)

-- the number of an option, of ten digits at most and below 2^32, or the usual one
unfoldable pub number_or : Option (List ℕ) → ℕ → Option ℕ
number_or None usual = Some usual
number_or (Some text) usual = decimal_of 10 0 4294967295 text

-- what the words say by the values of the options: a budget of 10,000,000 steps and order 0, unless they say another
unfoldable pub entries_of : Given → Option Entries
entries_of given =
    option_and_then (λ (work : Work).
    option_and_then (λ (budget : ℕ).
    option_map (λ (order : ℕ). record { work = work; budget = budget; order = order; stats = given.stats })
    (number_or given.order 0))
    (number_or given.events 10000000))
    (work_given given)

-- what the words say, if they are those of the command
unfoldable pub entries : List (List ℕ) → Option Entries
entries words = option_and_then entries_of (given words)
