-- What the parts of a step do to what an engine shows.
use Rattle.std.specs.Prelude.{◌≡◌, ℕ, ◌+◌, ◌*◌, ◌^◌, ◌<◌, ◌≤◌, max, Bool, true, false, Option, Some, None, IsTrue, List, length, slice_get, IfSome}
use Rattle.std.specs.Option.{option_map_or}
use Rattle.four_state.specs.declared.bits.Bit.{Bit}
use Rattle.event_pool.specs.declared.agenda.Settled.{Settled}
use Rattle.event_pool.specs.declared.agenda.Settled.TheVariants.{Ready, TimeEnds, Empty}
use Rattle.event_pool.specs.declared.agenda.Region.TheVariants.{Active}
use Rattle.event_pool.specs.Following.{Follows}
use Rattle.event_pool.specs.Pending.{Pending, run_of}
use Rattle.vvp_threads.specs.declared.thread.Frame.{Frame}
use Rattle.vvp_threads.specs.declared.thread.Thread.{Thread}
use Rattle.vvp_threads.specs.Table.{thread_of, spawned, with_frame}
use Rattle.vvp_threads.specs.Keyed.{KeyedTable}
use Rattle.op_exec.specs.declared.effect.TrapKind.TheVariants.{OffEnd}
use Rattle.vvp_ops.specs.declared.op.Op.{Op}
use Rattle.op_exec.specs.declared.effect.Effect.{Effect}
use Rattle.op_exec.specs.declared.effect.Local.{Local}
use Rattle.op_exec.specs.declared.effect.Local.TheVariants as local
use Rattle.op_exec.specs.declared.effect.Effect.TheVariants.{Next, Goto, Trap, Set, Assign, Wait, Fork, Join, Disable, Trigger, Task, Func, Force, Release}
use Rattle.op_exec.specs.Does.{does}
use Rattle.op_exec.specs.Rows.{value_of}
use Rattle.net_engine.specs.Kept.{IsWritable}
use Rattle.net_engine.specs.Parts.{HasLevels}
use Rattle.sys_tasks.specs.Conditions.{IsBetween, is_task_call, is_function_call}
use Rattle.sys_tasks.specs.Tasks.{TasksNow, called_pops}
use Rattle.sym_link.specs.declared.program.Program.{Program}
use Rattle.sym_link.specs.declared.program.Item.{Item}
use Rattle.sym_link.specs.declared.program.ItemKind.{ItemKind}
use Rattle.sym_link.specs.declared.program.ItemKind.TheVariants as kind
use Rattle.sym_link.specs.Roots.{nodes_of, kind_of}
use Rattle.sim_core.specs.Machine.{Machine, words_now, now_of, dues_of, on_threads, put_due, with_running, framed, at_next, trapped, phase}
use Rattle.sim_core.specs.Effects.{affect, delay_region, next_serial, with_call, without_items, scope_at, items_of}
use Rattle.event_pool.specs.declared.agenda.Due.{Due}
use Rattle.event_pool.specs.Schedule.{active_dues}
use Rattle.sim_core.specs.Step.{apply, with_taken, without_due, choice_of}
use Rattle.sim_core.specs.Engine.{Shown, in_turn_of_machine}

-- ---- a step

-- a step is counted
abbrev pub stepped : Machine → Machine
stepped machine = record machine { steps = machine.steps + 1 }

-- the peak is taken of the dues that are pending
abbrev pub peaked : Machine → Machine
peaked machine = record machine { peak = max machine.peak (length (dues_of machine)) }

-- ---- following

-- what is shown follows f, and no step is counted
pub record ShownFollows (f : Machine → Machine) (old new : Shown) : Type 0 where
  pub machine : Follows in_turn_of_machine f old.machine new.machine
  pub program : new.program ≡ old.program
  pub order : new.order ≡ old.order
  pub failed : new.failed ≡ old.failed
  pub steps : new.machine.steps ≡ old.machine.steps

-- what is shown follows f, as one step at most
pub record ShownSteps (f : Machine → Machine) (old new : Shown) : Type 0 where
  pub machine : Follows in_turn_of_machine f old.machine new.machine
  pub program : new.program ≡ old.program
  pub order : new.order ≡ old.order
  pub failed : new.failed ≡ old.failed
  pub steps : new.machine.steps ≤ old.machine.steps + 1

-- ---- want of memory

-- nothing was printed or dumped
pub record Unprinted (old new : Shown) : Type 0 where
  pub out : new.machine.tasks.out ≡ old.machine.tasks.out
  pub dump : new.machine.tasks.dump ≡ old.machine.tasks.dump
  pub program : new.program ≡ old.program
  pub order : new.order ≡ old.order

-- the values, what is pending, the thread that runs, the dues taken and the ending are as before
pub record Untouched (old new : Machine) : Type 0 where
  pub values : new.state.values ≡ old.state.values
  pub pending : new.state.pending ≡ old.state.pending
  pub running : new.running ≡ old.running
  pub taken : new.taken ≡ old.taken
  pub ending : new.ending ≡ old.ending

-- the values, the thread that runs and the ending are as before, whatever is pending
pub record Unwritten (old new : Machine) : Type 0 where
  pub values : new.state.values ≡ old.state.values
  pub running : new.running ≡ old.running
  pub ending : new.ending ≡ old.ending

-- what was printed and dumped goes on from before, and what was due goes on from it
pub record Cut (old due new : TasksNow) : Type 0 where
  pub out : IsBetween old.out due.out new.out
  pub dump : IsBetween old.dump due.dump new.dump

-- memory was wanting in the read-only phase
pub record PhaseCut (old new : Shown) : Type 0 where
  pub cut : Cut old.machine.tasks (phase old.program old.machine).tasks new.machine.tasks
  pub kept : Untouched old.machine new.machine
  pub program : new.program ≡ old.program
  pub order : new.order ≡ old.order

-- memory was wanting in f, whichever machine it is that old shows
pub record ShownFails (f : Machine → Machine) (old new : Shown) : Type 0 where
  pub cut : (machine : Machine) → in_turn_of_machine machine ≡ old.machine → Cut old.machine.tasks (f machine).tasks new.machine.tasks
  pub program : new.program ≡ old.program
  pub order : new.order ≡ old.order

-- ---- the running thread

-- this thread runs, and memory was never wanting
pub record Runs (shown : Shown) (serial : ℕ) (thread : Thread) : Type 0 where
  pub fine : shown.failed ≡ false
  pub running : shown.machine.running ≡ Some serial
  pub live : thread_of shown.machine.state.threads serial ≡ Some thread

-- this thread runs, and stands at an opcode
pub record CanGoOn (shown : Shown) (serial : ℕ) (thread : Thread) : Type 0 where
  pub runs : Runs shown serial thread
  pub place : thread.frame.pc < length shown.program.code

-- a step of this thread has begun, from what was shown before
pub record Begun (old begun : Shown) (serial : ℕ) (thread : Thread) : Type 0 where
  pub runs : Runs old serial thread
  pub begins : begun ≡ record old { machine = stepped old.machine }
  pub drawn : length old.machine.state.threads.threads < old.machine.steps + 1 + length old.program.threads
  pub few : old.machine.steps < 3 * 2 ^ 62

-- ---- opcodes

-- an opcode has done this to a frame, with this effect; with none there is no opcode at its place
abbrev pub Done : List (Op ℕ) → Frame → Frame → (ℕ → List (List Bit)) → Option Effect → Type 0
Done code old new words None = (slice_get code old.pc ≡ None) × (new ≡ old)
Done code old new words (Some effect) = (op : Op ℕ) × (slice_get code old.pc ≡ Some op) × (does op old words ≡ (new, effect))

-- what the row of an opcode did that asks nothing of the run but to go on is what its effect says, or there was no memory and all
-- stays
abbrev pub Locally : (Option Effect → Type 0) → Type 0 → Local → Type 0
Locally by stays local.Next = by (Some Next)
Locally by stays (local.Goto place) = by (Some (Goto place))
Locally by stays (local.Trap kind) = by (Some (Trap kind))
Locally by stays local.NoMemory = stays

-- what an effect needs of what is shown, of the thread that has this frame
abbrev pub EffectFits : Shown → ℕ → Frame → Effect → Type 0
EffectFits shown serial frame (Set item word offset value) = IsWritable shown.machine.state.values item word (kind_of (nodes_of shown.program) item)
EffectFits shown serial frame (Assign item word offset value ticks) = IsWritable shown.machine.state.values item word (kind_of (nodes_of shown.program) item)
EffectFits shown serial frame (Wait event) = event < length shown.program.items
EffectFits shown serial frame (Trigger event) = event < length shown.program.items
EffectFits shown serial frame (Fork code scope) = scope < length shown.program.scopes
EffectFits shown serial frame (Join child) = IfSome (thread_of shown.machine.state.threads child) (λ thread. thread.parent ≡ Some serial)
EffectFits shown serial frame (Disable scope) = scope < length shown.program.scopes
EffectFits shown serial frame Task =
    (op : Op ℕ) → slice_get shown.program.code frame.pc ≡ Some op
    → IsTrue (is_task_call shown.machine.tasks.design (scope_at shown.program frame.pc) (items_of op frame) op) × (called_pops op ≤ length frame.stack)
EffectFits shown serial frame Func =
    (op : Op ℕ) → slice_get shown.program.code frame.pc ≡ Some op
    → IsTrue (is_function_call shown.machine.tasks.design (scope_at shown.program frame.pc) (items_of op frame) op) × (called_pops op ≤ length frame.stack)
EffectFits shown serial frame (Force item value) =
    HasLevels (kind_of (nodes_of shown.program) item) × (length value ≡ length (value_of (words_now shown.program shown.machine item)))
EffectFits shown serial frame (Release item base width keep) =
    HasLevels (kind_of (nodes_of shown.program) item) × (base + width ≤ length (value_of (words_now shown.program shown.machine item)))
EffectFits shown serial frame other = Unit {0}

-- what an effect needs, if there is one, and that the thread stands at an opcode then
abbrev pub MayAffect : Shown → ℕ → Thread → Option Effect → Type 0
MayAffect shown serial thread None = Unit {0}
MayAffect shown serial thread (Some effect) = CanGoOn shown serial thread × EffectFits shown serial thread.frame effect

-- what is left when the opcode of a thread is done on its own frame, with this effect
pub record LeavesBy (effect : Option Effect) (old new : Shown) (serial : ℕ) (thread : Thread) : Type 0 where
  pub frame : Frame
  pub shown : new ≡ record old { machine = on_threads (framed serial frame) old.machine }
  pub done : Done old.program.code thread.frame frame (words_now old.program old.machine) effect
  pub runs : Runs new serial (with_frame frame thread)
  pub fits : MayAffect new serial (with_frame frame thread) effect

-- what is left of the threads when the opcode of one is done on its own frame, with this effect
pub record FrameDone (effect : Option Effect) (code : List (Op ℕ)) (words : ℕ → List (List Bit)) (old new : KeyedTable) (serial : ℕ) (thread : Thread) : Type 0 where
  pub frame : Frame
  pub threads : new ≡ record old { table = framed serial frame old.table }
  pub done : Done code thread.frame frame words effect

-- what is shown follows an effect, or the trap of a thread that has run past the last opcode
abbrev pub Heeds : Option Effect → Shown → Shown → ℕ → Thread → Type 0
Heeds None old new serial thread = ShownFollows (trapped OffEnd serial thread.frame) old new
Heeds (Some effect) old new serial thread =
    (op : Op ℕ) → slice_get old.program.code thread.frame.pc ≡ Some op → ShownFollows (affect old.program op effect serial thread.frame) old new

-- memory was wanting in it
abbrev pub HeedsFail : Option Effect → Shown → Shown → ℕ → Thread → Type 0
HeedsFail None old new serial thread = ShownFails (trapped OffEnd serial thread.frame) old new
HeedsFail (Some effect) old new serial thread =
    (op : Op ℕ) → slice_get old.program.code thread.frame.pc ≡ Some op → ShownFails (affect old.program op effect serial thread.frame) old new

-- ---- parts of effects

-- a Run of the running thread is put, and it gives way
abbrev pub delayed_run : ℕ → ℕ → Machine → Machine
delayed_run ticks serial machine = put_due (run_of (now_of machine + ticks) (delay_region ticks) serial) (with_running None machine)

-- a child starts, and its Run is put
abbrev pub child_put : ℕ → ℕ → ℕ → Machine → Machine
child_put code scope serial machine =
    put_due (run_of (now_of machine) Active (next_serial machine)) (on_threads (λ table. spawned table (Some serial) scope code) machine)

-- a task is called and its items are popped, before the run heeds what it says
abbrev pub task_done : Program → Op ℕ → ℕ → Frame → Machine → Machine
task_done program op serial frame machine = at_next serial (without_items op frame) (with_call program op frame machine)

-- ---- dues

-- other dues are pending, or at another time
abbrev pub with_pending : Pending → Machine → Machine
with_pending pending machine = record machine { state = record machine.state { pending = pending } }

-- whether a settled agenda has a due to take
abbrev pub is_ready_state : Settled → Bool
is_ready_state Ready = true
is_ready_state TimeEnds = false
is_ready_state Empty = false

-- whether a kind is that of a net delay
abbrev pub is_delay_kind : ItemKind → Bool
is_delay_kind (kind.Delay rise fall decay port) = true
is_delay_kind other = false

-- whether an item is a net delay
abbrev pub is_delay_in : List Item → ℕ → Bool
is_delay_in items item = option_map_or (λ (i : Item). is_delay_kind i.what) (slice_get items item) false

-- a due that is taken is applied
abbrev pub applied : Program → ℕ → Option Due → Machine → Machine
applied program place None machine = machine
applied program place (Some due) machine = apply program due.act (with_taken (without_due place machine))

-- the due at a place among the Active ones of now is taken away and applied
abbrev pub applied_at : Program → ℕ → Machine → Machine
applied_at program place machine = applied program place (slice_get (active_dues (now_of machine) (dues_of machine)) place) machine

-- the due that an order picks is taken away and applied
abbrev pub take_by_order : Program → ℕ → Machine → Machine
take_by_order program order machine = applied_at program (choice_of order machine) machine
