-- What the program does, told by its words and its files alone.
use Rattle.std.specs.Prelude.{ℕ, ◌^◌, Bool, true, false, nat_lt, List, [], length, if◌then◌else◌, Option, Some, None, Result, Ok, Err}
use Rattle.std.specs.FinMap.{get, insert}
use Rattle.sym_link.specs.declared.program.Program.{Program}
use Rattle.sym_link.specs.Verdict as verdict
use Rattle.sys_tasks.specs.Phase.{dump_name}
use Rattle.sim_core.specs.declared.ending.Ending.{Ending}
use Rattle.sim_core.specs.declared.ending.Ending.TheVariants as run
use Rattle.sim_core.specs.Machine.{Machine}
use Rattle.sim_core.specs.Start.{run as run_of}
use Rattle.dump_law.specs.Plain.{plain_names}
use Rattle.vcd_read.specs.Reading.{Fault, reading}
use Rattle.vcd_read.specs.declared.types.Trace.{Trace}
use Rattle.vvp_edge.specs.Files.{Files}
use Rattle.vvp_words.specs.Entries.{Entries, Work, entries}
use Rattle.vvp_words.specs.Entries as words
use Rattle.work_gen.specs.Workload.{workload_text}
use Rattle.vvp_top.specs.declared.refusal.Why.{Why}
use Rattle.vvp_top.specs.declared.refusal.Why.TheVariants as why
use Rattle.vvp_top.specs.declared.outcome.Outcome.{Outcome}
use Rattle.vvp_top.specs.declared.outcome.Outcome.TheVariants.{Finish, Stop, Idle, Reported, BadWords, Refused, Spent, Trap, NoFile}
use Rattle.vvp_top.specs.declared.report.Counts.{Counts}
use Rattle.vvp_top.specs.declared.report.Report.{Report}
use Rattle.vvp_top.specs.Toggles.{own_text, toggle_text}

-- a dump: the name of its file, and its bytes
pub record Dump : Type 0 where
  pub name : List ℕ
  pub bytes : List ℕ

-- what a call says, what it puts out, and its dump, if it has one
pub record Whole : Type 0 where
  pub report : Report
  pub output : List ℕ
  pub dump : Option Dump

-- the files after a call: those before, with the dump's bytes under its name
abbrev pub files_after : Option Dump → Files → Files
files_after None files = files
files_after (Some dump) files = insert files dump.name dump.bytes

-- nothing is run
abbrev pub silent : Outcome → Whole
silent outcome = record { report = record { outcome = outcome; counts = None }; output = []; dump = None }

-- ---- a run

-- how a run has ended; without an ending its budget is spent
abbrev pub ended : Option Ending → Outcome
ended None = Spent
ended (Some run.Finish) = Finish
ended (Some run.Stop) = Stop
ended (Some run.Idle) = Idle
ended (Some (run.Trap kind address)) = Trap kind address

-- the dump of a name, and of no name none
abbrev pub dump_by : Option (List ℕ) → List ℕ → Option Dump
dump_by None bytes = None
dump_by (Some name) bytes = Some (record { name = name; bytes = bytes })

-- the dump of a machine, if it has one
abbrev pub dump_of : Machine → Option Dump
dump_of machine = dump_by (dump_name machine.tasks.state) machine.tasks.dump

-- its counts, where they are wanted
abbrev pub counts_of : Bool → Machine → Option Counts
counts_of false machine = None
counts_of true machine = Some (record { time = machine.state.pending.now; steps = machine.steps; peak = machine.peak })

-- a run that has come to its end, or to that of its budget
abbrev pub whole_of_machine : Bool → Machine → Whole
whole_of_machine stats machine = record {
  report = record { outcome = ended machine.ending; counts = counts_of stats machine };
  output = machine.tasks.out;
  dump = dump_of machine;
}

-- ---- the run of a file

-- why a file has no program
abbrev pub why_of : verdict.Why → Why
why_of verdict.TooLarge = why.TooLarge
why_of (verdict.Unlexed refusal) = why.Lexical refusal.1
why_of (verdict.Unspelled refusal) = why.Form refusal.1
why_of (verdict.Unlinked refusal) = why.Link refusal.1

-- a file that has no program
abbrev pub refused : verdict.Why → Outcome
refused w = Refused (verdict.line_of w) (why_of w)

-- the run of a program, for the budget and in the order that the words say
unfoldable pub whole_of_program : Entries → Program → Whole
whole_of_program e program = whole_of_machine e.stats (run_of program e.order e.budget)

-- the run of the program that a file has, if it has one
abbrev pub whole_of_verdict : Entries → Result Program verdict.Why → Whole
whole_of_verdict e (Ok program) = whole_of_program e program
whole_of_verdict e (Err w) = silent (refused w)

-- the same, for a file of these bytes
abbrev pub whole_of_run : Entries → List ℕ → Whole
whole_of_run e bytes = whole_of_verdict e (verdict.verdict bytes)

-- ---- a report

-- this is put out, and no file is made
abbrev pub reported : Outcome → List ℕ → Whole
reported outcome text = record { report = record { outcome = outcome; counts = None }; output = text; dump = None }

-- the report on what a dump says, or the first fault of a file that is no dump
abbrev pub whole_of_reading : Result Trace Fault → Whole
whole_of_reading (Ok trace) = reported Reported (toggle_text trace)
whole_of_reading (Err fault) = silent (Refused fault.line (why.Dump fault.kind))

-- the report on a dump of these bytes, if they are one
unfoldable pub whole_of_dump : List ℕ → Whole
whole_of_dump bytes = if nat_lt (2 ^ 26) (length bytes) then silent (Refused 0 why.TooLarge) else whole_of_reading (reading bytes)

-- ---- the report on the dump of a run

-- what a reading gives
abbrev pub trace_in : Result Trace Fault → Option Trace
trace_in (Ok trace) = Some trace
trace_in (Err fault) = None

-- the trace of a dump, if there is a dump. That of a run of a program with plain names has one: it is in the reader's grammar (a clause of `own_trace`)
abbrev pub trace_of : Option Dump → Option Trace
trace_of None = None
trace_of (Some dump) = trace_in (reading dump.bytes)

-- whether there is a dump, and it has more bytes than these
abbrev pub is_larger : ℕ → Option Dump → Bool
is_larger most None = false
is_larger most (Some dump) = nat_lt most (length dump.bytes)

-- the report on a dump, if there is one, and this outcome
unfoldable pub whole_of_own : Outcome → Option Dump → Whole
whole_of_own outcome dump = if is_larger (2 ^ 26) dump then silent (Refused 0 why.TooLarge) else reported outcome (own_text (trace_of dump))

-- the report on the dump of a run that has come to its end, or to that of its budget
abbrev pub activity_of_machine : Machine → Whole
activity_of_machine machine = whole_of_own (ended machine.ending) (dump_of machine)

-- the same of a program, for the budget and in the order that the words say, if a dump can hold its names
unfoldable pub activity_of_program : Entries → Program → Whole
activity_of_program e program = if plain_names program then activity_of_machine (run_of program e.order e.budget) else silent (Refused 0 why.BadName)

-- the same of the program that a file has, if it has one
abbrev pub activity_of_verdict : Entries → Result Program verdict.Why → Whole
activity_of_verdict e (Ok program) = activity_of_program e program
activity_of_verdict e (Err w) = silent (refused w)

-- the same, for a file of these bytes
abbrev pub whole_of_activity : Entries → List ℕ → Whole
whole_of_activity e bytes = activity_of_verdict e (verdict.verdict bytes)

-- ---- what the words say

-- the source of a work: the bytes that stand under a name, if any do, or the text of a workload
abbrev pub source_of : Work → Files → Option (List ℕ)
source_of (words.File name) files = get files name
source_of (words.Workload size) files = Some (workload_text size)
source_of (words.Toggles name) files = get files name
source_of (words.Activity name) files = get files name

-- what is done with a source of these bytes
abbrev pub whole_of_work : Work → Entries → List ℕ → Whole
whole_of_work (words.File name) e bytes = whole_of_run e bytes
whole_of_work (words.Workload size) e bytes = whole_of_run e bytes
whole_of_work (words.Toggles name) e bytes = whole_of_dump bytes
whole_of_work (words.Activity name) e bytes = whole_of_activity e bytes

-- the same, as the words say
abbrev pub whole_of_source : Entries → List ℕ → Whole
whole_of_source e bytes = whole_of_work e.work e bytes

-- the same, if there is a source
abbrev pub whole_of_found : Entries → Option (List ℕ) → Whole
whole_of_found e None = silent NoFile
whole_of_found e (Some bytes) = whole_of_source e bytes

-- for words that say this
abbrev pub whole_of_entries : Option Entries → Files → Whole
whole_of_entries None files = silent BadWords
whole_of_entries (Some e) files = whole_of_found e (source_of e.work files)

-- what the call does on these words and files
abbrev pub whole : List (List ℕ) → Files → Whole
whole words files = whole_of_entries (entries words) files
