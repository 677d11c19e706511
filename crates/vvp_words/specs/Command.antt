-- The command of the command line, and what its words say before their values are read.
use Rattle.std.specs.Prelude.{Bool, true, false, List, [], ◌∷◌, codes, option_map}
use Rattle.std.specs.Str.{bytes_eq}
use Rattle.std.specs.declared.option.Option.{Option}
use Rattle.std.specs.declared.option.Option.TheVariants.{Some, None}
use Rattle.clap.specs.Words.{App, Row, Rule, Text, fault_of, first_of, matches_of, new_app, new_rule, with_rule, Kinds}
use Rattle.clap.specs.Simple.{on_top}
use Rattle.clap.specs.declared.builder.action.ArgAction.TheVariants.{Set, SetTrue}

-- ---- the command

abbrev pub operand_rule : Rule
operand_rule = record (new_rule (codes "file")) { required = true; action = Some Set }

-- an option that takes a value
abbrev pub option_rule : Text → Rule
option_rule name = record (new_rule name) { long = Some name; action = Some Set }

abbrev pub stats_rule : Rule
stats_rule = record (new_rule (codes "stats")) { long = Some (codes "stats"); action = Some SetTrue }

-- no word stands for the program, and neither help nor a version is offered
abbrev pub bare : App
bare = on_top (λ s. record s { no_binary_name = true; disable_help_flag = true; disable_version_flag = true }) (new_app (codes "vvp"))

-- one required operand, `--events`, `--mode`, `--order` and `--stats`
unfoldable pub simple_command : App
simple_command = with_rule (with_rule (with_rule (with_rule (with_rule bare operand_rule) (option_rule (codes "events"))) (option_rule (codes "mode"))) (option_rule (codes "order"))) stats_rule

-- ---- what it says

-- as the command line has it, before its values are read
pub record Given : Type 0 where
  pub operand : Text
  pub events : Option Text
  pub mode : Option Text
  pub order : Option Text
  pub stats : Bool

abbrev pub is_true : Option Text → Bool
is_true None = false
is_true (Some text) = bytes_eq text (codes "true")

-- by the first values of the operand and of the options
abbrev pub given_from : Option Text → Option Text → Option Text → Option Text → Option Text → Option Given
given_from file events mode order stats =
    option_map (λ (operand : Text). record { operand = operand; events = events; mode = mode; order = order; stats = is_true stats }) file

-- what the entries of a parse say
abbrev pub given_by : List Row → Option Given
given_by rows = given_from (first_of (codes "file") rows) (first_of (codes "events") rows) (first_of (codes "mode") rows) (first_of (codes "order") rows) (first_of (codes "stats") rows)

abbrev pub given_unless : Kinds → List Row → Option Given
given_unless [] rows = given_by rows
given_unless (kind ∷ kinds) rows = None

-- what the words say, where the command takes them
unfoldable pub given : List Text → Option Given
given words = given_unless (fault_of simple_command words) (matches_of simple_command words)
