-- The tasks before a run.
use Rattle.std.proofs.Common.{◌≡◌, ℕ, true, List, [], map, refl, sym, ap, ◌∙◌, subst, arith}
use Rattle.std.specs.Prelude.{None, Some, ℤ}
use Rattle.std.specs.List.{list_all}
use Rattle.std.specs.Option.{option_map_or}
use Rattle.sym_link.specs.declared.program.Item.{Item}
use Rattle.sym_link.specs.declared.program.Program.{Program}
use Rattle.sym_link.specs.declared.program.ScopeRow.{ScopeRow}
use Rattle.sym_link.specs.Sound.{IsProgram}
use Rattle.sys_tasks.specs.declared.place.Here.{Here}
use Rattle.sys_tasks.specs.declared.design.Entry.{Entry}
use Rattle.sys_tasks.specs.declared.state.TaskState.{TaskState}
use Rattle.sys_tasks.specs.Design.{design_of, entry_of}
use Rattle.sys_tasks.specs.Sound.{AreChosen, CanDump, HasScales, IsSound, MayWrite, fits_call}
use Rattle.sys_tasks.specs.Tasks.{TasksNow, first_state, first_tasks}
use Rattle.sys_tasks.specs.Writer.{state_with}
use Rattle.sys_tasks.proofs.DumpLemmas.{program-dumps, program-scales}

first-strobes : (entries : List Entry) (scopes : List ScopeRow) → list_all (fits_call entries scopes) first_state.strobes ≡ true
unfolding first_state
first-strobes entries scopes = refl

first-monitor : (entries : List Entry) (scopes : List ScopeRow) → option_map_or (fits_call entries scopes) first_state.monitor true ≡ true
unfolding first_state
first-monitor entries scopes = refl

first-chosen : (entries : List Entry) → AreChosen entries first_state.chosen
unfolding first_state
first-chosen entries = record { few = omega arith; each = refl }

first-writing : (entries : List Entry) → MayWrite entries first_state None
unfolding first_state
first-writing entries = omega arith

start-scales : (program : Program) (scopes : List ScopeRow) → IsProgram program → scopes ≡ program.scopes → HasScales scopes
start-scales program scopes h is = subst HasScales (sym is) (program-scales program h)

nowhere-there : (here : Here) (scope : ℕ) → here.scope ≡ None → here.scope ≡ Some scope → ⊥
nowhere-there here scope none some = cc

pub start-sound : (program : Program) (named : List Item) (entries : List Entry) (listed copied : List ScopeRow) (here : Here) (state : TaskState) (precision : ℤ) → precision ≡ program.precision → IsProgram program
    → named ≡ program.items → entries ≡ map entry_of named → listed ≡ program.scopes → copied ≡ listed → here.scope ≡ None → state ≡ first_state → IsSound entries copied precision here state None
start-sound program named entries listed copied here state precision power sound n e l c h f =
    let Q : List Entry → Type 0 = λ x. CanDump x program.scopes program.precision in
    let R : List ScopeRow → Type 0 = λ x. CanDump entries x program.precision in
    let Z : ℤ → Type 0 = λ x. CanDump entries copied x in
    let S : TaskState → Type 0 = λ x. AreChosen entries x.chosen in
    let W : TaskState → Type 0 = λ x. MayWrite entries x None in
    record {
      here = record { at = λ scope is. absurd (nowhere-there here scope h is) };
      scales = start-scales program copied sound (c ∙ l);
      can_dump = subst Z (sym power) (subst R (sym (c ∙ l)) (subst Q (sym (e ∙ ap (map entry_of) n)) (program-dumps program sound)));
      strobes = ap (λ (x : TaskState). list_all (fits_call entries copied) x.strobes) f ∙ first-strobes entries copied;
      monitor = ap (λ (x : TaskState). option_map_or (fits_call entries copied) x.monitor true) f ∙ first-monitor entries copied;
      chosen = subst S (sym f) (first-chosen entries);
      writing = subst W (sym f) (first-writing entries);
    }

abbrev pub tasks_of : List Entry → List ScopeRow → ℤ → TaskState → List ℕ → List ℕ → TasksNow
tasks_of entries scopes precision state out dump = record { design = record { entries = entries; scopes = scopes; precision = precision }; state = state; out = out; dump = dump }

start-view : (program : Program) → tasks_of (map entry_of program.items) program.scopes program.precision (state_with first_state None) [] [] ≡ first_tasks (design_of program)
unfolding first_tasks first_state design_of
start-view program = refl

pub start-is : (program : Program) (named : List Item) (entries : List Entry) (listed copied : List ScopeRow) (precision : ℤ) (state : TaskState) (out dump : List ℕ)
    → named ≡ program.items → entries ≡ map entry_of named → listed ≡ program.scopes → copied ≡ listed → precision ≡ program.precision → state ≡ first_state → out ≡ [] → dump ≡ []
    → tasks_of entries copied precision (state_with state None) out dump ≡ first_tasks (design_of program)
start-is program named entries listed copied precision state out dump n e l c p s o d =
    ap (λ (x : List Entry). tasks_of x copied precision (state_with state None) out dump) (e ∙ ap (map entry_of) n)
    ∙ ap (λ (x : List ScopeRow). tasks_of (map entry_of program.items) x precision (state_with state None) out dump) (c ∙ l)
    ∙ ap (λ (x : ℤ). tasks_of (map entry_of program.items) program.scopes x (state_with state None) out dump) p
    ∙ ap (λ (x : TaskState). tasks_of (map entry_of program.items) program.scopes program.precision (state_with x None) out dump) s
    ∙ ap (λ (x : List ℕ). tasks_of (map entry_of program.items) program.scopes program.precision (state_with first_state None) x dump) o
    ∙ ap (λ (x : List ℕ). tasks_of (map entry_of program.items) program.scopes program.precision (state_with first_state None) [] x) d
    ∙ start-view program
