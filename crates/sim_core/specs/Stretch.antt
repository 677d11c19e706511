-- Opcodes that a thread does in a row, each on its own frame, and none of which asks anything of the run but to go on.
use Rattle.std.specs.Prelude.{◌≡◌, ℕ, zero, suc, ◌+◌, Bool, not, ◌&&◌, is_none, is_some, Option, Some, None, List, slice_get}
use Rattle.four_state.specs.declared.bits.Bit.{Bit}
use Rattle.vvp_threads.specs.declared.thread.Frame.{Frame}
use Rattle.vvp_threads.specs.declared.thread.Thread.{Thread}
use Rattle.vvp_threads.specs.Keyed.{KeyedTable}
use Rattle.vvp_ops.specs.declared.op.Op.{Op}
use Rattle.op_exec.specs.declared.effect.Effect.{Effect}
use Rattle.op_exec.specs.declared.effect.Effect.TheVariants.{Next, Goto}
use Rattle.op_exec.specs.Does.{does}
use Rattle.sim_core.specs.Machine.{Machine, framed, on_threads, words_now}
use Rattle.sim_core.specs.Engine.{Shown}

-- whether the next step is an opcode: memory was never wanting, the run has not ended, and a thread runs
abbrev pub is_going : Shown → Bool
is_going shown = not shown.failed && is_none shown.machine.ending && is_some shown.machine.running

-- so many steps more are counted
abbrev pub with_steps : ℕ → Machine → Machine
with_steps count machine = record machine { steps = machine.steps + count }

-- ---- frames

-- the frame with which a thread goes on after such an effect; none where the effect asks more of the run
abbrev pub gone_on : Frame → Effect → Option Frame
gone_on left Next = Some (record left { pc = left.pc + 1 })
gone_on left (Goto place) = Some (record left { pc = place })
gone_on left other = None

-- the same after the opcode at which a thread stands, if there is one
abbrev pub frame_by : (ℕ → List (List Bit)) → Frame → Option (Op ℕ) → Option Frame
frame_by words frame None = None
frame_by words frame (Some op) = let left = does op frame words in gone_on left.0 left.1

-- the frame after the next opcode
abbrev pub next_frame : List (Op ℕ) → (ℕ → List (List Bit)) → Option Frame → Option Frame
next_frame code words None = None
next_frame code words (Some frame) = frame_by words frame (slice_get code frame.pc)

-- the frame after so many opcodes in a row; none where one of them asks more
abbrev pub frame_after : List (Op ℕ) → (ℕ → List (List Bit)) → ℕ → Frame → Option Frame
frame_after code words zero frame = Some frame
frame_after code words (suc count) frame = next_frame code words (frame_after code words count frame)

-- ---- what they leave

-- of the threads
pub record FrameRan (count : ℕ) (code : List (Op ℕ)) (words : ℕ → List (List Bit)) (old new : KeyedTable) (serial : ℕ) (thread : Thread) : Type 0 where
  pub frame : Frame
  pub after : frame_after code words count thread.frame ≡ Some frame
  pub threads : new ≡ record old { table = framed serial frame old.table }

-- of what is shown
pub record RanOn (count : ℕ) (old new : Shown) (serial : ℕ) (thread : Thread) : Type 0 where
  pub frame : Frame
  pub after : frame_after old.program.code (words_now old.program old.machine) count thread.frame ≡ Some frame
  pub shown : new ≡ record old { machine = on_threads (framed serial frame) old.machine }
