-- A run whose output is left out, and whose dump stays with the engine.
use Rattle.std.specs.Prelude.{◌≡◌, ℕ, List, [], Option, Some, None}
use Rattle.sim_core.specs.Engine.{Shown, in_turn_of_machine, with_sent}
use Rattle.sim_core.specs.Machine.{Machine}
use Rattle.vcd_read.specs.declared.types.Trace.{Trace}
use Rattle.vcd_read.specs.Grammar.{IsVcd}
use Rattle.vvp_top.specs.declared.activity.Own.{Own}
use Rattle.vvp_top.specs.declared.activity.Own.TheVariants as own
use Rattle.vvp_top.specs.declared.outcome.Outcome.{Outcome}
use Rattle.vvp_top.specs.declared.outcome.Outcome.TheVariants.{Memory, Refused}
use Rattle.vvp_top.specs.declared.refusal.Why.TheVariants as why
use Rattle.vvp_top.specs.Whole.{Dump}

-- the engine shows the machine, put in order, with its whole dump, and with its output but for a front of it
pub record KeepsDump (machine : Machine) (shown : Shown) : Type 0 where
  pub printed : List ℕ
  pub shows : in_turn_of_machine machine ≡ with_sent (record { out = printed; dump = [] }) shown.machine

-- a call does f to the machine whose dump the engine keeps
pub record Moves (f : Machine → Machine) (old new : Shown) : Type 0 where
  pub moved : (machine : Machine) → KeepsDump machine old → KeepsDump (f machine) new
  pub program : new.program ≡ old.program
  pub order : new.order ≡ old.order

-- a dump, if there is one, is in the reader's grammar
abbrev pub IsReadable : Option Dump → Type 0
IsReadable None = Unit {0}
IsReadable (Some dump) = (trace : Trace) × IsVcd dump.bytes trace

-- a trace of a dump: there is one exactly where there is a dump, and the dump spells it in the reader's grammar
abbrev pub IsTraceOf : Option Dump → Option Trace → Type 0
IsTraceOf None None = Unit {0}
IsTraceOf None (Some trace) = ⊥
IsTraceOf (Some dump) None = ⊥
IsTraceOf (Some dump) (Some trace) = IsVcd dump.bytes trace

-- the outcome of a call that has no dump to report on
abbrev pub own_outcome : Own → Outcome
own_outcome own.TooLarge = Refused 0 why.TooLarge
own_outcome own.Memory = Memory
