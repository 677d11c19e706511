-- What disabling threads owes, by what the calls on an engine's parts answer for.
use Rattle.std.proofs.Common.{◌≡◌, ◌⊎◌, inl, inr, ℕ, ◌<◌, true, Option, Some, None, is_some, option_map, IfSome, List, length, refl, sym, ap, subst, ◌∙◌, arith}
use Rattle.std.specs.Prelude.{slice_index}
use Rattle.std.specs.List.{slice_get}
use Rattle.std.proofs.lemmas.List.{length-map}
use Rattle.std.proofs.lemmas.Option.{get_or_from_slice_get, slice_get-get_or}
use Rattle.event_pool.specs.Schedule.{Schedule}
use Rattle.vvp_threads.specs.declared.thread.Thread.{Thread}
use Rattle.vvp_threads.specs.Table.{emptied, joiners_of, slot_at, thread_of, without}
use Rattle.vvp_threads.specs.Keyed.{IsKeyOf, KeyedTable, with_runs}
use Rattle.vvp_threads.specs.Disable.{AreScopes, disabled_serials}
use Rattle.vvp_threads.specs.Runs.{HasRuns}
use Rattle.sym_link.specs.declared.program.Program.{Program}
use Rattle.sym_link.specs.declared.program.ScopeRow.{ScopeRow}
use Rattle.sym_link.specs.declared.program.TheConstants.{NONE}
use Rattle.sym_link.specs.Sound.{IsProgram}
use Rattle.sim_core.specs.declared.engine.Running.{Running}
use Rattle.sim_core.specs.Machine.{at_next}
use Rattle.sim_core.specs.Engine.{Shown}
use Rattle.sim_core.specs.Kept.{Held, IsSound}
use Rattle.sim_core.specs.Effects.{disabled, parents_of}
use Rattle.sim_core.specs.Parts.{ShownFollows}
use Rattle.sim_core.proofs.EffectLemmas.{disable-shown, disable-sound}
use Rattle.sim_core.proofs.FitLemmas.{get-map}
use Rattle.sim_core.proofs.WholeLemmas.{At, Whole, shown_of}

-- the scopes of a program that was linked
pub scopes-tree : (program : Program) → IsProgram program → AreScopes (parents_of program)
scopes-tree program linked k within other = go (slice_get program.scopes k) refl
  where
    parent-at : (row : ScopeRow) → slice_get program.scopes k ≡ Some row → slice_index (parents_of program) k ≡ row.parent
    parent-at row at = get_or_from_slice_get (parents_of program) k row.parent 0 (get-map (λ (r : ScopeRow). r.parent) program.scopes k ∙ ap (option_map (λ (r : ScopeRow). r.parent)) at)

    by_row : (row : ScopeRow) → slice_get program.scopes k ≡ Some row → (row.parent ≡ NONE) ⊎ (row.parent < k) → slice_index (parents_of program) k < k
    by_row row at (inl none) = absurd (other (parent-at row at ∙ none))
    by_row row at (inr lower) = (let same = parent-at row at in omega (arith, same, lower))

    go : (slot : Option ScopeRow) → slice_get program.scopes k ≡ slot → slice_index (parents_of program) k < k
    go None at = absurd (let there : slice_get (parents_of program) k ≡ Some (slice_index (parents_of program) k) = slice_get-get_or (parents_of program) k 0 within in
        let none : slice_get (parents_of program) k ≡ None = get-map (λ (r : ScopeRow). r.parent) program.scopes k ∙ ap (option_map (λ (r : ScopeRow). r.parent)) at in (let no_row : ⊥ = cc in no_row))
    go (Some row) at = by_row row at (linked.each_scope k row at).lower

pub tree-as : (h : Held) (parents : List ℕ) → IsSound h → parents ≡ h.scope_parents → AreScopes parents
tree-as h parents s is = subst AreScopes (sym (is ∙ s.parents)) (scopes-tree h.program s.linked)

pub scope-as : (h : Held) (parents : List ℕ) (scope : ℕ) → IsSound h → parents ≡ h.scope_parents → scope < length h.program.scopes → scope < length parents
scope-as h parents scope s is within = subst (λ (n : ℕ). scope < n) (sym (ap length (is ∙ s.parents) ∙ length-map h.program.scopes (λ (r : ScopeRow). r.parent))) within

-- the threads and the agenda after these have ended
abbrev ended_in : KeyedTable → List ℕ → KeyedTable
ended_in threads members = record { table = without threads.table members; keys = emptied members threads.keys }

abbrev runs_in : KeyedTable → Schedule → List ℕ → Schedule
runs_in threads schedule members = with_runs schedule threads.keys (joiners_of threads.table.threads members)

pub disable-kept : (w : Whole) (parents : List ℕ) (serial scope : ℕ) (thread : Thread) (r : Running) (threads : KeyedTable) (schedule : Schedule) (now : Option Running) → parents ≡ w.held.scope_parents → At w serial thread r → w.held.running ≡ Some r
    → ((s : ℕ) → IsKeyOf w.held.threads s r.key → threads ≡ ended_in w.held.threads (disabled_serials w.held.threads.table s parents scope))
    → ((s : ℕ) → IsKeyOf w.held.threads s r.key → schedule ≡ runs_in w.held.threads w.held.schedule (disabled_serials w.held.threads.table s parents scope))
    → ((besides : ℕ) → HasRuns w.held.threads besides w.held.schedule → HasRuns threads besides schedule)
    → IfSome now (λ (q : Running). q ≡ r) → IfSome now (λ (q : Running). is_some (slot_at threads.keys r.serial) ≡ true)
    → IsSound (record w.held { threads = threads; schedule = schedule; running = now })
disable-kept w parents serial scope thread r threads schedule now same a is goes puts runs live kept =
    disable-sound w serial scope thread r threads schedule now a is
    (subst (λ (ps : List ℕ). (s : ℕ) → IsKeyOf w.held.threads s r.key → threads ≡ ended_in w.held.threads (disabled_serials w.held.threads.table s ps scope)) same goes)
    (subst (λ (ps : List ℕ). (s : ℕ) → IsKeyOf w.held.threads s r.key → schedule ≡ runs_in w.held.threads w.held.schedule (disabled_serials w.held.threads.table s ps scope)) same puts) runs live kept

pub disable-follows : (w : Whole) (parents : List ℕ) (old mid : Shown) (serial scope : ℕ) (thread moved : Thread) (r : Running) (threads : KeyedTable) (schedule : Schedule) (now : Option Running) → parents ≡ w.held.scope_parents → shown_of w ≡ mid
    → mid ≡ record old { machine = at_next serial thread.frame old.machine } → At w serial moved r
    → ((s : ℕ) → IsKeyOf w.held.threads s r.key → threads ≡ ended_in w.held.threads (disabled_serials w.held.threads.table s parents scope))
    → ((s : ℕ) → IsKeyOf w.held.threads s r.key → schedule ≡ runs_in w.held.threads w.held.schedule (disabled_serials w.held.threads.table s parents scope))
    → IfSome now (λ (q : Running). q ≡ r) → is_some now ≡ is_some (thread_of threads.table r.serial)
    → ShownFollows (disabled old.program scope serial thread.frame) old (shown_of (record w { held = record w.held { threads = threads; schedule = schedule; running = now } }))
disable-follows w parents old mid serial scope thread moved r threads schedule now same view goes a table puts live is =
    disable-shown w old mid serial scope thread.frame moved r threads schedule now view goes a
    (subst (λ (ps : List ℕ). threads ≡ ended_in w.held.threads (disabled_serials w.held.threads.table serial ps scope)) same (table serial a.key))
    (subst (λ (ps : List ℕ). schedule ≡ runs_in w.held.threads w.held.schedule (disabled_serials w.held.threads.table serial ps scope)) same (puts serial a.key)) live is
