-- What the row of an opcode leaves of a frame: its place, no child more, and all of it where the thread ends.
use Rattle.std.proofs.Common.{◌≡◌, ℕ, zero, suc, ◌-◌, ℤ, pos, Bool, true, false, cond, not, ◌&&◌, nat_eq, Option, Some, None, List, [], ◌∷◌, length, take, drop, Result, Ok, Err, refl, sym, ap, subst, ◌∙◌}
use Rattle.std.specs.List.{slice_get}
use Rattle.std.specs.Prelude.{slice_index, slice_index_or}
use Rattle.four_state.specs.declared.bits.Bit.{Bit}
use Rattle.four_state.specs.declared.bits.Bit.TheVariants.{Unknown}
use Rattle.vvp_threads.specs.declared.thread.Frame.{Frame}
use Rattle.vvp_ops.specs.declared.op.Op.{Op}
use Rattle.vvp_ops.specs.declared.op.Op.TheVariants as o
use Rattle.op_exec.specs.declared.effect.TrapKind.{TrapKind}
use Rattle.op_exec.specs.declared.effect.TrapKind.TheVariants.{NoChild}
use Rattle.op_exec.specs.declared.effect.Effect.{Effect}
use Rattle.op_exec.specs.declared.effect.Effect.TheVariants.{Assign, End, Force, Join, Next, Set, Trap}
use Rattle.op_exec.specs.Rows.{◌>>=◌, Words, is_blocked, pushed, top_of, top_of_width, value_of}
use Rattle.op_exec.specs.Outcomes.{on_frame, on_stack, on_stack_and_flags, with_trap}
use Rattle.op_exec.specs.StackRows.{stack_row}
use Rattle.op_exec.specs.RegisterRows.{flag_popped, bit_pushed, number_popped, register_row, with_flag, with_number, with_stack}
use Rattle.op_exec.specs.ArithmeticRows.{arithmetic_row}
use Rattle.op_exec.specs.ComparisonRows.{comparison_row}
use Rattle.op_exec.specs.EffectRows.{called_for, delay_at, effect_row, joined_last, loaded, offset_at, on_word, only, word_at}
use Rattle.op_exec.specs.Does.{arithmetic_does, comparison_does, does, effect_does, family_of, register_does, stack_does}
use Rattle.sim_core.proofs.DescendLemmas.{AreAmong}

-- the thread does no opcode after one with this effect
abbrev IsLast : Effect → Type 0
IsLast End = Unit {0}
IsLast (Trap kind) = Unit {0}
IsLast other = ⊥

-- what an opcode leaves
pub record Leaves (frame left : Frame) (effect : Effect) : Type 0 where
  pub pc : left.pc ≡ frame.pc
  pub children : AreAmong left.children frame.children
  pub ends : IsLast effect → left ≡ frame

-- the same of a row, unless it is a trap
abbrev Holds : Frame → Result (Frame × Effect) TrapKind → Type 0
Holds frame (Ok done) = Leaves frame done.0 done.1
Holds frame (Err kind) = Unit {0}

with_trap-leaves : (frame : Frame) (row : Result (Frame × Effect) TrapKind) → Holds frame row → Leaves frame (with_trap frame row).0 (with_trap frame row).1
with_trap-leaves frame (Ok done) h = h
with_trap-leaves frame (Err kind) h = record { pc = refl; children = λ place child e. (place, e); ends = λ e. refl }

-- a frame with the place and the children that it had
abbrev Keeps : Frame → Frame → Type 0
Keeps frame left = (left.pc ≡ frame.pc) × (left.children ≡ frame.children)

next-leaves : (frame left : Frame) → Keeps frame left → Leaves frame left Next
next-leaves frame left keeps = record {
  pc = keeps.0;
  children = λ place child e. (place, ap (λ (xs : List ℕ). slice_get xs place) (sym keeps.1) ∙ e);
  ends = λ none. absurd none;
}

only-leaves : (frame : Frame) (effect : Effect) → Holds frame (only frame effect)
only-leaves frame effect = record { pc = refl; children = λ place child e. (place, e); ends = λ e. refl }

-- ---- rows of registers and flags

abbrev KeepsBy : Frame → Result Frame TrapKind → Type 0
KeepsBy frame (Ok left) = Keeps frame left
KeepsBy frame (Err kind) = Unit {0}

number-keeps : (frame : Frame) (register : ℕ) (number : Option ℤ) → Keeps frame (with_number frame register number)
unfolding with_number
number-keeps frame register None = (refl, refl)
number-keeps frame register (Some z) = (refl, refl)

number_popped-keeps : (read : List Bit → Option ℤ) (frame : Frame) (register : ℕ) → KeepsBy frame (number_popped read frame register)
number_popped-keeps read frame register = go (top_of frame.stack) where
  go : (top : Result (List Bit) TrapKind) → KeepsBy frame (top >>= (λ t. Ok (with_number (with_stack frame (drop 1 frame.stack)) register (read t))))
  go (Ok t) = number-keeps (with_stack frame (drop 1 frame.stack)) register (read t)
  go (Err kind) = tt

flag_popped-keeps : (frame : Frame) (flag : ℕ) → KeepsBy frame (flag_popped frame flag)
flag_popped-keeps frame flag = go (top_of frame.stack) where
  go : (top : Result (List Bit) TrapKind) → KeepsBy frame (top >>= (λ t. Ok (with_flag (with_stack frame (drop 1 frame.stack)) flag (slice_index_or t 0 Unknown))))
  go (Ok t) = (refl, refl)
  go (Err kind) = tt

bit_pushed-keeps : (frame : Frame) (bit : Bit) → KeepsBy frame (bit_pushed frame bit)
bit_pushed-keeps frame bit = go (pushed frame.stack (bit ∷ [])) where
  go : (stack : Result (List (List Bit)) TrapKind) → KeepsBy frame (stack >>= (λ s. Ok (with_stack frame s)))
  go (Ok s) = (refl, refl)
  go (Err kind) = tt

register-keeps : (op : Op ℕ) (frame : Frame) (words : Words) → KeepsBy frame (register_row op frame words)
register-keeps (o.IndexGet register item) frame words = number-keeps frame register _
register-keeps (o.IndexGetSigned register item) frame words = number-keeps frame register _
register-keeps (o.IndexPop register) frame words = number_popped-keeps _ frame register
register-keeps (o.IndexPopSigned register) frame words = number_popped-keeps _ frame register
register-keeps (o.FlagPop flag) frame words = flag_popped-keeps frame flag
register-keeps (o.FlagPush flag) frame words = bit_pushed-keeps frame _
register-keeps _ frame words = (refl, refl)

-- ---- rows with effects

-- what is popped gives an effect that isn't the end
taken-leaves : (frame : Frame) (popped : Result (List Bit) TrapKind) (effect : List Bit → Effect) → ((top : List Bit) → IsLast (effect top) → ⊥)
    → Holds frame (popped >>= (λ top. Ok (with_stack frame (drop 1 frame.stack), effect top)))
taken-leaves frame (Ok top) effect goes = record { pc = refl; children = λ place child e. (place, e); ends = λ e. absurd (goes top e) }
taken-leaves frame (Err kind) effect goes = tt

either-goes : (b : Bool) (x y : Effect) → (IsLast x → ⊥) → (IsLast y → ⊥) → IsLast (cond b x y) → ⊥
either-goes true x y f g e = f e
either-goes false x y f g e = g e

word-goes : (word : Option ℕ) (effect : ℕ → Effect) → ((k : ℕ) → IsLast (effect k) → ⊥) → IsLast (on_word word effect) → ⊥
word-goes None effect goes e = e
word-goes (Some k) effect goes e = goes k e

loaded-leaves : (frame : Frame) (item : List Bit) → Holds frame (loaded frame item)
loaded-leaves frame item = go (pushed frame.stack item) where
  go : (stack : Result (List (List Bit)) TrapKind) → Holds frame (stack >>= (λ s. Ok (with_stack frame s, Next)))
  go (Ok s) = next-leaves frame (with_stack frame s) (refl, refl)
  go (Err kind) = tt

take-among : (n : ℕ) (xs : List ℕ) (place child : ℕ) → slice_get (take n xs) place ≡ Some child → slice_get xs place ≡ Some child
take-among zero xs place child e = cc
take-among (suc n) [] place child e = e
take-among (suc n) (x ∷ xs) zero child e = e
take-among (suc n) (x ∷ xs) (suc place) child e = take-among n xs place child e

joined-leaves : (frame : Frame) → Holds frame (joined_last frame)
unfolding joined_last
joined-leaves frame = go (nat_eq (length frame.children) 0) where
  go : (b : Bool) → Holds frame (cond b (Err NoChild) (Ok (record frame { children = take (length frame.children - 1) frame.children }, Join (slice_index frame.children (length frame.children - 1)))))
  go true = tt
  go false = record {
    pc = refl;
    children = λ place child e. (place, take-among (length frame.children - 1) frame.children place child e);
    ends = λ none. absurd none;
  }

called-leaves : (frame : Frame) (call : Result Effect TrapKind) → Holds frame (called_for frame call)
called-leaves frame (Ok effect) = only-leaves frame effect
called-leaves frame (Err kind) = tt

effect-leaves : (op : Op ℕ) (frame : Frame) (words : Words) → Holds frame (effect_row op frame words)
effect-leaves (o.Load item) frame words = loaded-leaves frame _
effect-leaves (o.LoadWord array index) frame words = loaded-leaves frame _
effect-leaves (o.Store item offset width) frame words =
    taken-leaves frame (top_of_width frame.stack width) (λ top. cond (not (nat_eq offset 0) && is_blocked frame.flags) Next (Set item 0 (offset_at frame.registers offset) top))
    (λ top. either-goes (not (nat_eq offset 0) && is_blocked frame.flags) Next (Set item 0 (offset_at frame.registers offset) top) (λ e. e) (λ e. e))
effect-leaves (o.StoreWord array index offset) frame words =
    taken-leaves frame (top_of frame.stack) (λ top. on_word (word_at frame (words array) index) (λ word. Set array word (offset_at frame.registers offset) top))
    (λ top. word-goes (word_at frame (words array) index) (λ word. Set array word (offset_at frame.registers offset) top) (λ k e. e))
effect-leaves (o.Assign item delay) frame words = taken-leaves frame (top_of_width frame.stack (length (value_of (words item)))) (λ top. Assign item 0 (pos 0) top delay) (λ top e. e)
effect-leaves (o.AssignRegister item delay) frame words =
    taken-leaves frame (top_of_width frame.stack (length (value_of (words item)))) (λ top. Assign item 0 (pos 0) top (delay_at frame.registers delay)) (λ top e. e)
effect-leaves (o.AssignOffset item offset delay) frame words =
    taken-leaves frame (top_of frame.stack) (λ top. cond (is_blocked frame.flags) Next (Assign item 0 (offset_at frame.registers offset) top (delay_at frame.registers delay)))
    (λ top. either-goes (is_blocked frame.flags) Next (Assign item 0 (offset_at frame.registers offset) top (delay_at frame.registers delay)) (λ e. e) (λ e. e))
effect-leaves (o.AssignWord array offset delay) frame words =
    taken-leaves frame (top_of frame.stack) (λ top. on_word (word_at frame (words array) 3) (λ word. Assign array word (offset_at frame.registers offset) top (delay_at frame.registers delay)))
    (λ top. word-goes (word_at frame (words array) 3) (λ word. Assign array word (offset_at frame.registers offset) top (delay_at frame.registers delay)) (λ k e. e))
effect-leaves (o.Force item) frame words = taken-leaves frame (top_of_width frame.stack (length (value_of (words item)))) (λ top. Force item top) (λ top e. e)
effect-leaves o.Join frame words = joined-leaves frame
effect-leaves (o.CallTask file line name args pops) frame words = called-leaves frame _
effect-leaves (o.CallFunction file line name width args pops) frame words = called-leaves frame _
effect-leaves _ frame words = only-leaves frame _

-- ---- all rows

stack-leaves : (frame : Frame) (row : Result (List (List Bit)) TrapKind) → Holds frame (on_stack frame row)
stack-leaves frame (Ok s) = next-leaves frame (with_stack frame s) (refl, refl)
stack-leaves frame (Err kind) = tt

flags-leave : (frame : Frame) (row : Result (List (List Bit) × List Bit) TrapKind) → Holds frame (on_stack_and_flags frame row)
flags-leave frame (Ok pair) = next-leaves frame (record frame { stack = pair.0; flags = pair.1 }) (refl, refl)
flags-leave frame (Err kind) = tt

frame-leaves : (frame : Frame) (row : Result Frame TrapKind) → KeepsBy frame row → Holds frame (on_frame row)
frame-leaves frame (Ok left) keeps = next-leaves frame left keeps
frame-leaves frame (Err kind) keeps = tt

-- what is left beside a trap
pub does-leaves : (op : Op ℕ) (frame : Frame) (words : Words) → Leaves frame (does op frame words).0 (does op frame words).1
unfolding does family_of stack_does register_does arithmetic_does comparison_does effect_does
does-leaves (o.PushImmediate a b c) frame words = with_trap-leaves frame (on_stack frame (stack_row (o.PushImmediate a b c) frame.stack)) (stack-leaves frame _)
does-leaves o.Concatenate frame words = with_trap-leaves frame (on_stack frame (stack_row o.Concatenate frame.stack)) (stack-leaves frame _)
does-leaves (o.ConcatenateImmediate a b c) frame words = with_trap-leaves frame (on_stack frame (stack_row (o.ConcatenateImmediate a b c) frame.stack)) (stack-leaves frame _)
does-leaves (o.Replicate a) frame words = with_trap-leaves frame (on_stack frame (stack_row (o.Replicate a) frame.stack)) (stack-leaves frame _)
does-leaves (o.PartUnsigned a) frame words = with_trap-leaves frame (on_stack frame (stack_row (o.PartUnsigned a) frame.stack)) (stack-leaves frame _)
does-leaves (o.PartSigned a) frame words = with_trap-leaves frame (on_stack frame (stack_row (o.PartSigned a) frame.stack)) (stack-leaves frame _)
does-leaves (o.PartImmediateUnsigned a b c) frame words = with_trap-leaves frame (on_stack frame (stack_row (o.PartImmediateUnsigned a b c) frame.stack)) (stack-leaves frame _)
does-leaves (o.PartImmediateSigned a b c) frame words = with_trap-leaves frame (on_stack frame (stack_row (o.PartImmediateSigned a b c) frame.stack)) (stack-leaves frame _)
does-leaves (o.PadUnsigned a) frame words = with_trap-leaves frame (on_stack frame (stack_row (o.PadUnsigned a) frame.stack)) (stack-leaves frame _)
does-leaves (o.PadSigned a) frame words = with_trap-leaves frame (on_stack frame (stack_row (o.PadSigned a) frame.stack)) (stack-leaves frame _)
does-leaves o.Duplicate frame words = with_trap-leaves frame (on_stack frame (stack_row o.Duplicate frame.stack)) (stack-leaves frame _)
does-leaves (o.Pop a) frame words = with_trap-leaves frame (on_stack frame (stack_row (o.Pop a) frame.stack)) (stack-leaves frame _)
does-leaves (o.Split a) frame words = with_trap-leaves frame (on_stack frame (stack_row (o.Split a) frame.stack)) (stack-leaves frame _)
does-leaves (o.IndexLoad a b c) frame words = with_trap-leaves frame (on_frame (register_row (o.IndexLoad a b c) frame words)) (frame-leaves frame (register_row (o.IndexLoad a b c) frame words) (register-keeps (o.IndexLoad a b c) frame words))
does-leaves (o.IndexGet a b) frame words = with_trap-leaves frame (on_frame (register_row (o.IndexGet a b) frame words)) (frame-leaves frame (register_row (o.IndexGet a b) frame words) (register-keeps (o.IndexGet a b) frame words))
does-leaves (o.IndexGetSigned a b) frame words = with_trap-leaves frame (on_frame (register_row (o.IndexGetSigned a b) frame words)) (frame-leaves frame (register_row (o.IndexGetSigned a b) frame words) (register-keeps (o.IndexGetSigned a b) frame words))
does-leaves (o.IndexPop a) frame words = with_trap-leaves frame (on_frame (register_row (o.IndexPop a) frame words)) (frame-leaves frame (register_row (o.IndexPop a) frame words) (register-keeps (o.IndexPop a) frame words))
does-leaves (o.IndexPopSigned a) frame words = with_trap-leaves frame (on_frame (register_row (o.IndexPopSigned a) frame words)) (frame-leaves frame (register_row (o.IndexPopSigned a) frame words) (register-keeps (o.IndexPopSigned a) frame words))
does-leaves (o.IndexAdd a b c) frame words = with_trap-leaves frame (on_frame (register_row (o.IndexAdd a b c) frame words)) (frame-leaves frame (register_row (o.IndexAdd a b c) frame words) (register-keeps (o.IndexAdd a b c) frame words))
does-leaves (o.IndexSubtract a b c) frame words = with_trap-leaves frame (on_frame (register_row (o.IndexSubtract a b c) frame words)) (frame-leaves frame (register_row (o.IndexSubtract a b c) frame words) (register-keeps (o.IndexSubtract a b c) frame words))
does-leaves (o.IndexMultiply a b c) frame words = with_trap-leaves frame (on_frame (register_row (o.IndexMultiply a b c) frame words)) (frame-leaves frame (register_row (o.IndexMultiply a b c) frame words) (register-keeps (o.IndexMultiply a b c) frame words))
does-leaves (o.IndexMove a b) frame words = with_trap-leaves frame (on_frame (register_row (o.IndexMove a b) frame words)) (frame-leaves frame (register_row (o.IndexMove a b) frame words) (register-keeps (o.IndexMove a b) frame words))
does-leaves (o.FlagPop a) frame words = with_trap-leaves frame (on_frame (register_row (o.FlagPop a) frame words)) (frame-leaves frame (register_row (o.FlagPop a) frame words) (register-keeps (o.FlagPop a) frame words))
does-leaves (o.FlagImmediate a b) frame words = with_trap-leaves frame (on_frame (register_row (o.FlagImmediate a b) frame words)) (frame-leaves frame (register_row (o.FlagImmediate a b) frame words) (register-keeps (o.FlagImmediate a b) frame words))
does-leaves (o.FlagPush a) frame words = with_trap-leaves frame (on_frame (register_row (o.FlagPush a) frame words)) (frame-leaves frame (register_row (o.FlagPush a) frame words) (register-keeps (o.FlagPush a) frame words))
does-leaves (o.FlagMove a b) frame words = with_trap-leaves frame (on_frame (register_row (o.FlagMove a b) frame words)) (frame-leaves frame (register_row (o.FlagMove a b) frame words) (register-keeps (o.FlagMove a b) frame words))
does-leaves (o.FlagInvert a) frame words = with_trap-leaves frame (on_frame (register_row (o.FlagInvert a) frame words)) (frame-leaves frame (register_row (o.FlagInvert a) frame words) (register-keeps (o.FlagInvert a) frame words))
does-leaves (o.FlagOr a b) frame words = with_trap-leaves frame (on_frame (register_row (o.FlagOr a b) frame words)) (frame-leaves frame (register_row (o.FlagOr a b) frame words) (register-keeps (o.FlagOr a b) frame words))
does-leaves o.Add frame words = with_trap-leaves frame (on_stack frame (arithmetic_row o.Add frame.stack frame.flags frame.registers)) (stack-leaves frame _)
does-leaves o.Subtract frame words = with_trap-leaves frame (on_stack frame (arithmetic_row o.Subtract frame.stack frame.flags frame.registers)) (stack-leaves frame _)
does-leaves o.Multiply frame words = with_trap-leaves frame (on_stack frame (arithmetic_row o.Multiply frame.stack frame.flags frame.registers)) (stack-leaves frame _)
does-leaves o.Divide frame words = with_trap-leaves frame (on_stack frame (arithmetic_row o.Divide frame.stack frame.flags frame.registers)) (stack-leaves frame _)
does-leaves o.DivideSigned frame words = with_trap-leaves frame (on_stack frame (arithmetic_row o.DivideSigned frame.stack frame.flags frame.registers)) (stack-leaves frame _)
does-leaves o.Modulo frame words = with_trap-leaves frame (on_stack frame (arithmetic_row o.Modulo frame.stack frame.flags frame.registers)) (stack-leaves frame _)
does-leaves o.ModuloSigned frame words = with_trap-leaves frame (on_stack frame (arithmetic_row o.ModuloSigned frame.stack frame.flags frame.registers)) (stack-leaves frame _)
does-leaves o.Power frame words = with_trap-leaves frame (on_stack frame (arithmetic_row o.Power frame.stack frame.flags frame.registers)) (stack-leaves frame _)
does-leaves (o.AddImmediate a b c) frame words = with_trap-leaves frame (on_stack frame (arithmetic_row (o.AddImmediate a b c) frame.stack frame.flags frame.registers)) (stack-leaves frame _)
does-leaves (o.SubtractImmediate a b c) frame words = with_trap-leaves frame (on_stack frame (arithmetic_row (o.SubtractImmediate a b c) frame.stack frame.flags frame.registers)) (stack-leaves frame _)
does-leaves (o.MultiplyImmediate a b c) frame words = with_trap-leaves frame (on_stack frame (arithmetic_row (o.MultiplyImmediate a b c) frame.stack frame.flags frame.registers)) (stack-leaves frame _)
does-leaves o.And frame words = with_trap-leaves frame (on_stack frame (arithmetic_row o.And frame.stack frame.flags frame.registers)) (stack-leaves frame _)
does-leaves o.Or frame words = with_trap-leaves frame (on_stack frame (arithmetic_row o.Or frame.stack frame.flags frame.registers)) (stack-leaves frame _)
does-leaves o.Xor frame words = with_trap-leaves frame (on_stack frame (arithmetic_row o.Xor frame.stack frame.flags frame.registers)) (stack-leaves frame _)
does-leaves o.Nand frame words = with_trap-leaves frame (on_stack frame (arithmetic_row o.Nand frame.stack frame.flags frame.registers)) (stack-leaves frame _)
does-leaves o.Nor frame words = with_trap-leaves frame (on_stack frame (arithmetic_row o.Nor frame.stack frame.flags frame.registers)) (stack-leaves frame _)
does-leaves o.Xnor frame words = with_trap-leaves frame (on_stack frame (arithmetic_row o.Xnor frame.stack frame.flags frame.registers)) (stack-leaves frame _)
does-leaves o.Invert frame words = with_trap-leaves frame (on_stack frame (arithmetic_row o.Invert frame.stack frame.flags frame.registers)) (stack-leaves frame _)
does-leaves o.ReduceAnd frame words = with_trap-leaves frame (on_stack frame (arithmetic_row o.ReduceAnd frame.stack frame.flags frame.registers)) (stack-leaves frame _)
does-leaves o.ReduceOr frame words = with_trap-leaves frame (on_stack frame (arithmetic_row o.ReduceOr frame.stack frame.flags frame.registers)) (stack-leaves frame _)
does-leaves o.ReduceXor frame words = with_trap-leaves frame (on_stack frame (arithmetic_row o.ReduceXor frame.stack frame.flags frame.registers)) (stack-leaves frame _)
does-leaves o.ReduceNand frame words = with_trap-leaves frame (on_stack frame (arithmetic_row o.ReduceNand frame.stack frame.flags frame.registers)) (stack-leaves frame _)
does-leaves o.ReduceNor frame words = with_trap-leaves frame (on_stack frame (arithmetic_row o.ReduceNor frame.stack frame.flags frame.registers)) (stack-leaves frame _)
does-leaves o.ReduceXnor frame words = with_trap-leaves frame (on_stack frame (arithmetic_row o.ReduceXnor frame.stack frame.flags frame.registers)) (stack-leaves frame _)
does-leaves (o.ShiftLeft a) frame words = with_trap-leaves frame (on_stack frame (arithmetic_row (o.ShiftLeft a) frame.stack frame.flags frame.registers)) (stack-leaves frame _)
does-leaves (o.ShiftRight a) frame words = with_trap-leaves frame (on_stack frame (arithmetic_row (o.ShiftRight a) frame.stack frame.flags frame.registers)) (stack-leaves frame _)
does-leaves (o.ShiftRightSigned a) frame words = with_trap-leaves frame (on_stack frame (arithmetic_row (o.ShiftRightSigned a) frame.stack frame.flags frame.registers)) (stack-leaves frame _)
does-leaves o.Blend frame words = with_trap-leaves frame (on_stack frame (arithmetic_row o.Blend frame.stack frame.flags frame.registers)) (stack-leaves frame _)
does-leaves o.CompareUnsigned frame words = with_trap-leaves frame (on_stack_and_flags frame (comparison_row o.CompareUnsigned frame.stack frame.flags)) (flags-leave frame _)
does-leaves o.CompareSigned frame words = with_trap-leaves frame (on_stack_and_flags frame (comparison_row o.CompareSigned frame.stack frame.flags)) (flags-leave frame _)
does-leaves o.CompareEqual frame words = with_trap-leaves frame (on_stack_and_flags frame (comparison_row o.CompareEqual frame.stack frame.flags)) (flags-leave frame _)
does-leaves o.CompareNotEqual frame words = with_trap-leaves frame (on_stack_and_flags frame (comparison_row o.CompareNotEqual frame.stack frame.flags)) (flags-leave frame _)
does-leaves o.CompareWildZ frame words = with_trap-leaves frame (on_stack_and_flags frame (comparison_row o.CompareWildZ frame.stack frame.flags)) (flags-leave frame _)
does-leaves o.CompareWildX frame words = with_trap-leaves frame (on_stack_and_flags frame (comparison_row o.CompareWildX frame.stack frame.flags)) (flags-leave frame _)
does-leaves (o.CompareUnsignedImmediate a b c) frame words = with_trap-leaves frame (on_stack_and_flags frame (comparison_row (o.CompareUnsignedImmediate a b c) frame.stack frame.flags)) (flags-leave frame _)
does-leaves (o.CompareSignedImmediate a b c) frame words = with_trap-leaves frame (on_stack_and_flags frame (comparison_row (o.CompareSignedImmediate a b c) frame.stack frame.flags)) (flags-leave frame _)
does-leaves (o.CompareEqualImmediate a b c) frame words = with_trap-leaves frame (on_stack_and_flags frame (comparison_row (o.CompareEqualImmediate a b c) frame.stack frame.flags)) (flags-leave frame _)
does-leaves (o.CompareNotEqualImmediate a b c) frame words = with_trap-leaves frame (on_stack_and_flags frame (comparison_row (o.CompareNotEqualImmediate a b c) frame.stack frame.flags)) (flags-leave frame _)
does-leaves op frame words = with_trap-leaves frame (effect_row op frame words) (effect-leaves op frame words)

-- the end of a thread leaves its frame
pub does-ends : (op : Op ℕ) (frame : Frame) (words : Words) → (does op frame words).1 ≡ End → (does op frame words).0 ≡ frame
does-ends op frame words end = (does-leaves op frame words).ends (subst IsLast (sym end) tt)

-- a trap leaves the frame
pub does-traps : (op : Op ℕ) (frame left : Frame) (kind : TrapKind) (words : Words) → does op frame words ≡ (left, Trap kind) → left ≡ frame
does-traps op frame left kind words did =
    ap (λ (p : Frame × Effect). p.0) (sym did)
    ∙ (does-leaves op frame words).ends (subst IsLast (sym (ap (λ (p : Frame × Effect). p.1) did)) tt)
