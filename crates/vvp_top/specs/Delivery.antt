-- A run whose output is handed over while it goes on: what was handed over and what the engine still has are together what the
-- machine has put out.
use Rattle.std.specs.Prelude.{◌≡◌, ℕ, ◌≤◌, Bool, true, false, IsTrue, List, [], option_map, Option, Some, None, Result, OnOk, OnErr, IfOk, IfErr}
use Rattle.std.specs.FinMap.{insert}
use Rattle.std.specs.Io.KnownBytes.{append_known}
use Rattle.sys_tasks.specs.Phase.{dump_name}
use Rattle.sim_core.specs.Machine.{Machine}
use Rattle.sim_core.specs.Engine.{Sent, Shown, in_turn_of_machine, with_sent}
use Rattle.sim_core.specs.Step.{after}
use Rattle.sym_link.specs.declared.program.Program.{Program}
use Rattle.vvp_edge.specs.Bytes.{TellsAtMost}
use Rattle.vvp_edge.specs.Causes.{Rose}
use Rattle.vvp_edge.specs.Files.{Files}
use Rattle.vvp_top.specs.declared.fault.Fault.{Fault}
use Rattle.vvp_top.specs.declared.fault.Fault.TheVariants as fault
use Rattle.vvp_top.specs.Whole.{dump_of}
use Rattle.vvp_top.specs.Ends.{CutFiles, CutShort, HandedOver, LeavesFiles}

-- A moment of a run: whether the dump's file is made, what the engine shows, what out holds, the files, the name of the one that is
-- written and whether there is one, and how often out and the store have failed.
pub record Moment : Type 0 where
  pub made : Bool
  pub shown : Shown
  pub held : Option (List ℕ)
  pub out_faults : ℕ
  pub files : Option Files
  pub target : Option (List ℕ)
  pub writing : Bool
  pub store_faults : ℕ

abbrev pub moment : Bool → Shown → Option (List ℕ) → ℕ → Option Files → Option (List ℕ) → Bool → ℕ → Moment
moment made shown held out_faults files target writing store_faults = record {
  made = made;
  shown = shown;
  held = held;
  out_faults = out_faults;
  files = files;
  target = target;
  writing = writing;
  store_faults = store_faults;
}

-- what out held and what the files were before the run
pub record Before : Type 0 where
  pub held : Option (List ℕ)
  pub files : Option Files

-- the file of this name is the one that is written, and has these bytes
pub record IsMade (name front : List ℕ) (before now : Option Files) (target : Option (List ℕ)) : Type 0 where
  pub holds : TellsAtMost now (option_map (λ files. insert files name front) before)
  pub written : TellsAtMost target (Some name)

-- These bytes of the dump were handed over, where it has this name: to its file, once that is made. Until then they are none.
abbrev pub DumpStands : Bool → Option (List ℕ) → List ℕ → Option Files → Option Files → Option (List ℕ) → Type 0
DumpStands false name front before now target = (now ≡ before) × (front ≡ [])
DumpStands true None front before now target = ⊥
DumpStands true (Some name) front before now target = IsMade name front before now target

-- with what was handed over the engine shows the machine, put in order
pub record Stands (machine : Machine) (before : Before) (m : Moment) : Type 0 where
  pub sent : Sent
  pub shows : in_turn_of_machine machine ≡ with_sent sent m.shown.machine
  pub given : m.held ≡ append_known before.held sent.out
  pub dump : DumpStands m.made (dump_name m.shown.machine.tasks.state) sent.dump before.files m.files m.target

-- what was handed over begins what the machine has put out
pub record CutAt (machine : Machine) (before : Before) (m : Moment) : Type 0 where
  pub output : CutShort machine.tasks.out before.held m.held
  pub dump : CutFiles (dump_of machine) before.files m.files

-- all that the machine has put out was handed over
pub record DoneAt (machine : Machine) (before : Before) (m : Moment) : Type 0 where
  pub output : HandedOver machine.tasks.out before.held m.held
  pub dump : LeavesFiles (dump_of machine) before.files m.files

-- what has failed, where a run is stopped
abbrev pub StopsBy : Fault → Moment → Moment → Type 0
StopsBy fault.Store old new = Rose old.store_faults new.store_faults
StopsBy fault.Output old new = Rose old.out_faults new.out_faults
StopsBy fault.Memory old new = Unit {0}

-- where the dump's file is made a file is written
abbrev pub IsReady : Moment → Type 0
IsReady m = m.made ≡ true → IsTrue m.writing

-- a call does f to the machine, or is stopped in it
pub record Goes {T : Type 0} (f : Machine → Machine) (result : Result T Fault) (old new : Moment) : Type 0 where
  pub moved : OnOk result ((machine : Machine) (before : Before) → Stands machine before old → Stands (f machine) before new)
  pub cut : OnErr result ((machine : Machine) (before : Before) → Stands machine before old → CutAt (f machine) before new)
  pub ready : OnOk result (IsReady new)
  pub program : OnOk result (new.shown.program ≡ old.shown.program)
  pub order : OnOk result (new.shown.order ≡ old.shown.order)
  pub store_later : old.store_faults ≤ new.store_faults
  pub out_later : old.out_faults ≤ new.out_faults
  pub stop : IfErr result (λ why. StopsBy why old new)

-- a call does some steps, at most so many, or is stopped in them; where it isn't, it answers how many it did
pub record Turns {T : Type 0} (program : Program) (order most : ℕ) (result : Result (ℕ × T) Fault) (old new : Moment) : Type 0 where
  pub count : ℕ
  pub some : 1 ≤ count
  pub within : count ≤ most
  pub told : IfOk result (λ turned. turned.0 ≡ count)
  pub goes : Goes (after program order count) result old new

-- the machine stays
abbrev pub same_machine : Machine → Machine
same_machine machine = machine

-- the output is taken away
abbrev pub without_out : Shown → Shown
without_out shown = record shown { machine = record shown.machine { tasks = record shown.machine.tasks { out = [] } } }

-- the bytes of the dump are taken away
abbrev pub without_dump : Shown → Shown
without_dump shown = record shown { machine = record shown.machine { tasks = record shown.machine.tasks { dump = [] } } }

abbrev pub dump_taken : Option (List ℕ) → Shown → Shown
dump_taken None shown = shown
dump_taken (Some name) shown = without_dump shown

-- the bytes of a dump that has a name are taken away
abbrev pub after_dump : Shown → Shown
after_dump shown = dump_taken (dump_name shown.machine.tasks.state) shown

abbrev pub given_by : Option (List ℕ) → List ℕ → List ℕ
given_by None bytes = []
given_by (Some name) bytes = bytes

-- the bytes that are handed over of a dump: all of them, where it has a name
abbrev pub dump_given : Shown → List ℕ
dump_given shown = given_by (dump_name shown.machine.tasks.state) shown.machine.tasks.dump

-- All that a machine has put out was handed over after what out held and to the files before, and the engine shows its time, its counts and
-- its ending.
pub record IsDone (machine : Machine) (held : Option (List ℕ)) (files : Option Files) (shown : Shown) (held' : Option (List ℕ)) (files' : Option Files) : Type 0 where
  pub output : HandedOver machine.tasks.out held held'
  pub dump : LeavesFiles (dump_of machine) files files'
  pub time : machine.state.pending.now ≡ shown.machine.state.pending.now
  pub steps : machine.steps ≡ shown.machine.steps
  pub peak : machine.peak ≡ shown.machine.peak
  pub ending : machine.ending ≡ shown.machine.ending

-- what was handed over begins what a machine has put out
pub record IsCut (machine : Machine) (held : Option (List ℕ)) (files : Option Files) (held' : Option (List ℕ)) (files' : Option Files) : Type 0 where
  pub output : CutShort machine.tasks.out held held'
  pub dump : CutFiles (dump_of machine) files files'
