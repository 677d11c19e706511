-- What a call leaves, against what words and files say.
use Rattle.std.specs.Prelude.{◌≡◌, ◌⊎◌, ℕ, List, option_map, Option, Some, None, Result, Ok, Err}
use Rattle.std.specs.FinMap.{insert}
use Rattle.std.specs.Io.KnownBytes.{append_known}
use Rattle.vvp_edge.specs.Bytes.{IsPrefix, TellsAtMost}
use Rattle.vvp_edge.specs.Causes.{Rose}
use Rattle.vvp_edge.specs.Files.{Files}
use Rattle.vvp_top.specs.declared.fault.Fault.{Fault}
use Rattle.vvp_top.specs.declared.fault.Fault.TheVariants as fault
use Rattle.vvp_top.specs.declared.outcome.Outcome.{Outcome}
use Rattle.vvp_top.specs.declared.outcome.Outcome.TheVariants.{StoreFault, OutputFault, Memory}
use Rattle.vvp_top.specs.Whole.{Dump, files_after}

-- all of the output is held
abbrev pub HandedOver : List ℕ → Option (List ℕ) → Option (List ℕ) → Type 0
HandedOver output held held' = held' ≡ append_known held output

-- a front of the output is held
abbrev pub CutShort : List ℕ → Option (List ℕ) → Option (List ℕ) → Type 0
CutShort output held held' = (front : List ℕ) × IsPrefix front output × (held' ≡ append_known held front)

-- the files, where they are told, are those before with all of the dump under its name
abbrev pub LeavesFiles : Option Dump → Option Files → Option Files → Type 0
LeavesFiles dump files files' = TellsAtMost files' (option_map (files_after dump) files)

-- the files, where they are told, are those before with a front of the dump under its name
abbrev pub DumpCut : Option Dump → Option Files → Option Files → Type 0
DumpCut None files files' = ⊥
DumpCut (Some dump) files files' = (front : List ℕ) × IsPrefix front dump.bytes × TellsAtMost files' (option_map (λ m. insert m dump.name front) files)

-- the files, where they are told, are those before, or those with a front of the dump
abbrev pub CutFiles : Option Dump → Option Files → Option Files → Type 0
CutFiles dump files files' = TellsAtMost files' files ⊎ DumpCut dump files files'

-- a text was said, or a front of it where the sink has failed
abbrev pub Says : List ℕ → Option (List ℕ) → Option (List ℕ) → ℕ → ℕ → Type 0
Says text held held' before now =
    (front : List ℕ) × IsPrefix front text × (held' ≡ append_known held front) × (Rose before now ⊎ (front ≡ text))

-- the same, as a call answers it
abbrev pub SaysOrFails : {T E : Type 0} → Result T E → List ℕ → Option (List ℕ) → Option (List ℕ) → ℕ → ℕ → Type 0
SaysOrFails (Ok x) text held held' before now = held' ≡ append_known held text
SaysOrFails (Err e) text held held' before now = (front : List ℕ) × IsPrefix front text × (held' ≡ append_known held front) × Rose before now

-- the outcome of a call that is stopped
abbrev pub outcome_of : Fault → Outcome
outcome_of fault.Store = StoreFault
outcome_of fault.Output = OutputFault
outcome_of fault.Memory = Memory
