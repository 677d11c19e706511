-- A frame that was put back may be put back again: what an opcode's effect does with the frame that the opcode left is the same
-- where the thread has that frame already.
use Rattle.std.proofs.Common.{◌≡◌, ℕ, zero, suc, ◌+◌, nat_lt, Bool, cond, Option, Some, None, is_some, option_map, List, [], ◌∷◌, length, set, refl, sym, ap, ◌∙◌, arith}
use Rattle.std.specs.List.{count_by}
use Rattle.event_pool.proofs.CountLemmas.{count-cons}
use Rattle.std.proofs.lemmas.List.{length-set, set-set}
use Rattle.event_pool.specs.declared.agenda.Act.TheVariants.{Update}
use Rattle.event_pool.specs.declared.agenda.Region.TheVariants.{Active, Nonblocking}
use Rattle.event_pool.specs.Pending.{run_of}
use Rattle.vvp_threads.specs.declared.thread.Frame.{Frame}
use Rattle.vvp_threads.specs.declared.thread.Thread.{Thread}
use Rattle.vvp_threads.specs.Table.{Table, joins_on, live_count, slot_at, spawned, thread_of, waits_on, with_frame}
use Rattle.vvp_threads.specs.Disable.{disabled_serials}
use Rattle.vvp_threads.proofs.SlotLemmas.{changed_at-some, slot_at-set_same, slot_at-within}
use Rattle.vvp_ops.specs.declared.op.Op.{Op}
use Rattle.op_exec.specs.declared.effect.TrapKind.TheVariants.{TimeOver, ThreadsOver}
use Rattle.op_exec.specs.declared.effect.Effect.{Effect}
use Rattle.op_exec.specs.declared.effect.Effect.TheVariants.{Next, Goto, Set, Assign, Delay, Wait, Fork, Join, Disable, Trigger, Task as CallsTask, Func, Force, Release, End, Trap}
use Rattle.net_engine.specs.State.{with_threads}
use Rattle.sym_link.specs.declared.program.Program.{Program}
use Rattle.sym_link.specs.Roots.{nodes_of}
use Rattle.net_engine.specs.Delivery.{force, release, trigger, write}
use Rattle.sys_tasks.specs.Tasks.{said_of}
use Rattle.sim_core.specs.declared.ending.Ending.TheVariants as Ends
use Rattle.sim_core.specs.Machine.{Machine, at_next, ended_as, framed, is_live, now_of, on_state, on_threads, put_due, with_running}
use Rattle.sim_core.specs.Effects.{affect, child_started, delay_region, ended, is_in_time, parents_of, runs_on, threads_ended, told, value_now, with_call, with_item, without_items}

-- a live thread's frame, put back
pub framed-is : (serial : ℕ) (frame : Frame) (table : Table) (thread : Thread) → thread_of table serial ≡ Some thread
    → framed serial frame table ≡ record table { threads = set table.threads serial (Some (with_frame frame thread)) }
framed-is serial frame table thread live = ap (λ (xs : List (Option Thread)). record table { threads = xs }) (changed_at-some table.threads serial thread (with_frame frame) live)

pub framed-live : (serial : ℕ) (frame : Frame) (table : Table) (thread : Thread) → thread_of table serial ≡ Some thread → thread_of (framed serial frame table) serial ≡ Some (with_frame frame thread)
framed-live serial frame table thread live =
    ap (λ (t : Table). thread_of t serial) (framed-is serial frame table thread live)
    ∙ slot_at-set_same table.threads serial (Some (with_frame frame thread)) (slot_at-within table.threads serial thread live)

-- the last frame counts
pub framed-twice : (serial : ℕ) (last first : Frame) (table : Table) (thread : Thread) → thread_of table serial ≡ Some thread → framed serial last (framed serial first table) ≡ framed serial last table
framed-twice serial last first table thread live =
    framed-is serial last (framed serial first table) (with_frame first thread) (framed-live serial first table thread live)
    ∙ ap (λ (t : Table). record table { threads = set t.threads serial (Some (with_frame last thread)) }) (framed-is serial first table thread live)
    ∙ ap (λ (xs : List (Option Thread)). record table { threads = xs }) (set-set table.threads serial (Some (with_frame first thread)) (Some (with_frame last thread)))
    ∙ sym (framed-is serial last table thread live)

set-same : {X : Type 0} (slots : List (Option X)) (k : ℕ) (x : X) → slot_at slots k ≡ Some x → set slots k (Some x) ≡ slots
set-same {X = X} [] k x e = refl
set-same {X = X} (slot ∷ slots) zero x e = ap (λ (s : Option X). s ∷ slots) (sym e)
set-same {X = X} (slot ∷ slots) (suc k) x e = ap (λ (rest : List (Option X)). slot ∷ rest) (set-same slots k x e)

-- the frame that a thread has
pub framed-same : (serial : ℕ) (table : Table) (thread : Thread) → thread_of table serial ≡ Some thread → framed serial thread.frame table ≡ table
framed-same serial table thread live =
    framed-is serial thread.frame table thread live ∙ ap (λ (xs : List (Option Thread)). record table { threads = xs }) (set-same table.threads serial thread live)

-- as many threads are live
pub framed-count : (serial : ℕ) (frame : Frame) (table : Table) (thread : Thread) → thread_of table serial ≡ Some thread → live_count (framed serial frame table) ≡ live_count table
framed-count serial frame table thread live = ap live_count (framed-is serial frame table thread live) ∙ go table.threads serial live where
  go : (threads : List (Option Thread)) (k : ℕ) → slot_at threads k ≡ Some thread → count_by is_some (set threads k (Some (with_frame frame thread))) ≡ count_by is_some threads
  go [] k e = refl
  go (slot ∷ threads) zero e = ap (λ (s : Option Thread). count_by is_some (s ∷ threads)) (sym e)
  go (slot ∷ threads) (suc k) e = omega (arith, count-cons is_some slot (set threads k (Some (with_frame frame thread))), count-cons is_some slot threads, go threads k e)

-- the same threads are live
pub framed-lives : (serial child : ℕ) (frame : Frame) (table : Table) (thread : Thread) → thread_of table serial ≡ Some thread → is_some (thread_of (framed serial frame table) child) ≡ is_some (thread_of table child)
framed-lives serial child frame table thread live = ap (λ (t : Table). is_some (thread_of t child)) (framed-is serial frame table thread live) ∙ go table.threads serial child live where
  go : (threads : List (Option Thread)) (k j : ℕ) → slot_at threads k ≡ Some thread → is_some (slot_at (set threads k (Some (with_frame frame thread))) j) ≡ is_some (slot_at threads j)
  go [] k j e = refl
  go (slot ∷ threads) zero zero e = ap is_some (sym e)
  go (slot ∷ threads) zero (suc j) e = refl
  go (slot ∷ threads) (suc k) zero e = refl
  go (slot ∷ threads) (suc k) (suc j) e = go threads k j e

-- ---- effects

-- the machine with this table of threads
abbrev at_table : Machine → Table → Machine
at_table machine table = record machine { state = with_threads table machine.state }

-- where an effect begins by putting a frame back, the frame that was put back before is no matter
once : (serial : ℕ) (first frame : Frame) (machine : Machine) (thread : Thread) → thread_of machine.state.threads serial ≡ Some thread → (f : Machine → Machine)
    → f (on_threads (framed serial first) (on_threads (framed serial frame) machine)) ≡ f (on_threads (framed serial first) machine)
once serial first frame machine thread live f = ap (λ (table : Table). f (at_table machine table)) (framed-twice serial first frame machine.state.threads thread live)

either-once : (a b : Bool) (x y z w : Machine) → a ≡ b → x ≡ z → y ≡ w → cond a x y ≡ cond b z w
either-once a b x y z w e f g = ap (λ (c : Bool). cond c x y) e ∙ ap (λ (m : Machine). cond b m y) f ∙ ap (λ (m : Machine). cond b z m) g

-- a child gets the next serial, whatever frames there are
child-once : (code scope serial : ℕ) (frame : Frame) (machine : Machine) (thread : Thread) → thread_of machine.state.threads serial ≡ Some thread
    → child_started code scope serial frame (on_threads (framed serial frame) machine) ≡ child_started code scope serial frame machine
child-once code scope serial frame machine thread live =
    ap (λ (n : ℕ). put_due (run_of (now_of machine) Active n) (on_threads (λ table. spawned table (Some serial) scope code) (at_next serial frame (on_threads (framed serial frame) machine))))
    (length-set machine.state.threads.threads serial (option_map (with_frame frame) (slot_at machine.state.threads.threads serial)))
    ∙ once serial (record frame { pc = frame.pc + 1 }) frame machine thread live (λ m. put_due (run_of (now_of machine) Active (length machine.state.threads.threads)) (on_threads (λ table. spawned table (Some serial) scope code) m))

pub affect-framed : (program : Program) (op : Op ℕ) (effect : Effect) (serial : ℕ) (frame : Frame) (machine : Machine) (thread : Thread) → thread_of machine.state.threads serial ≡ Some thread
    → (effect ≡ End → framed serial frame machine.state.threads ≡ machine.state.threads)
    → affect program op effect serial frame (on_threads (framed serial frame) machine) ≡ affect program op effect serial frame machine
affect-framed program op Next serial frame machine thread live ends = once serial (record frame { pc = frame.pc + 1 }) frame machine thread live (λ m. m)
affect-framed program op (Goto place) serial frame machine thread live ends = once serial (record frame { pc = place }) frame machine thread live (λ m. m)
affect-framed program op (Set item word offset value) serial frame machine thread live ends =
    once serial (record frame { pc = frame.pc + 1 }) frame machine thread live (on_state (write (nodes_of program) item word offset value))
affect-framed program op (Assign item word offset value ticks) serial frame machine thread live ends =
    either-once (is_in_time ticks machine) (is_in_time ticks machine) _ _ _ _ refl
    (once serial (record frame { pc = frame.pc + 1 }) frame machine thread live (put_due (record { time = now_of machine + ticks; region = Nonblocking; act = Update item word offset value })))
    (once serial frame frame machine thread live (ended_as (Ends.Trap TimeOver frame.pc)))
affect-framed program op (Delay ticks) serial frame machine thread live ends =
    either-once (is_in_time ticks machine) (is_in_time ticks machine) _ _ _ _ refl
    (once serial (record frame { pc = frame.pc + 1 }) frame machine thread live (λ m. put_due (run_of (now_of machine + ticks) (delay_region ticks) serial) (with_running None m)))
    (once serial frame frame machine thread live (ended_as (Ends.Trap TimeOver frame.pc)))
affect-framed program op (Wait event) serial frame machine thread live ends =
    once serial (record frame { pc = frame.pc + 1 }) frame machine thread live (λ m. with_running None (on_threads (λ table. waits_on table serial event) m))
affect-framed program op (Fork code scope) serial frame machine thread live ends =
    either-once _ (nat_lt (live_count machine.state.threads) 65536) _ _ _ _
    (ap (λ (n : ℕ). nat_lt n 65536) (framed-count serial frame machine.state.threads thread live))
    (child-once code scope serial frame machine thread live)
    (once serial frame frame machine thread live (ended_as (Ends.Trap ThreadsOver frame.pc)))
affect-framed program op (Join child) serial frame machine thread live ends =
    either-once _ (is_live child machine) _ _ _ _
    (framed-lives serial child frame machine.state.threads thread live)
    (once serial (record frame { pc = frame.pc + 1 }) frame machine thread live (λ m. with_running None (on_threads (λ table. joins_on table serial child) m)))
    (once serial (record frame { pc = frame.pc + 1 }) frame machine thread live (λ m. m))
affect-framed program op (Disable scope) serial frame machine thread live ends =
    once serial (record frame { pc = frame.pc + 1 }) frame machine thread live
    (λ m. runs_on serial (on_state (λ state. threads_ended (disabled_serials state.threads serial (parents_of program) scope) state) m))
affect-framed program op (Trigger event) serial frame machine thread live ends =
    once serial (record frame { pc = frame.pc + 1 }) frame machine thread live (on_state (trigger (nodes_of program) event))
affect-framed program op CallsTask serial frame machine thread live ends =
    once serial (record (without_items op frame) { pc = frame.pc + 1 }) frame (with_call program op frame machine) thread live (told program (said_of op))
affect-framed program op Func serial frame machine thread live ends =
    once serial (record (with_item (value_now program op frame machine) (without_items op frame)) { pc = frame.pc + 1 }) frame machine thread live (λ m. m)
affect-framed program op (Force item value) serial frame machine thread live ends =
    once serial (record frame { pc = frame.pc + 1 }) frame machine thread live (on_state (force (nodes_of program) item value))
affect-framed program op (Release item base width keep) serial frame machine thread live ends =
    once serial (record frame { pc = frame.pc + 1 }) frame machine thread live (on_state (release (nodes_of program) item base width keep))
affect-framed program op End serial frame machine thread live ends = ap (λ (table : Table). ended serial (at_table machine table)) (ends refl)
affect-framed program op (Trap kind) serial frame machine thread live ends = once serial frame frame machine thread live (ended_as (Ends.Trap kind frame.pc))
