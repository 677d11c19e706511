-- What the effect of an opcode needs, where the opcode is one of a program that was linked.
use Rattle.std.proofs.Common.{◌≡◌, ℕ, ◌+◌, ◌-◌, ◌<◌, ◌≤◌, ℤ, pos, negsuc, Bool, true, false, cond, ◌||◌, nat_eq, nat_lt, Option, Some, None, IfSome, IsTrue, Result, Ok, Err, List, length, take, drop, refl, sym, ap, subst, ◌∙◌, arith}
use Rattle.std.specs.Prelude.{slice_index}
use Rattle.std.specs.List.{list_any, slice_get}
use Rattle.std.proofs.lemmas.Bool.Decides.{nat_tests}
use Rattle.std.proofs.lemmas.Option.{slice_get-get_or, slice_get_within}
use Rattle.four_state.specs.declared.bits.Bit.{Bit}
use Rattle.vvp_threads.specs.declared.thread.Frame.{Frame}
use Rattle.vvp_threads.specs.declared.thread.Thread.{Thread}
use Rattle.vvp_threads.specs.Table.{thread_of}
use Rattle.vvp_ops.specs.declared.op.Op.{Op}
use Rattle.vvp_ops.specs.declared.op.Op.TheVariants as o
use Rattle.vvp_ops.specs.declared.args.Arg.{Arg}
use Rattle.sym_link.specs.declared.sorts.Takes.TheVariants as takes
use Rattle.sym_link.specs.Roots.{nodes_of}
use Rattle.sym_link.specs.Sound.{IsProgram, is_call, is_event_kind, is_named_kind, is_such, is_value_kind, width_of}
use Rattle.sym_link.specs.Uses.{op_symbols}
use Rattle.op_exec.specs.declared.effect.TrapKind.{TrapKind}
use Rattle.op_exec.specs.declared.effect.TrapKind.TheVariants.{NoChild, StackOver, StackUnder, Width}
use Rattle.op_exec.specs.declared.effect.Effect.{Effect}
use Rattle.op_exec.specs.declared.effect.Effect.TheVariants.{Assign, Force, Func, Goto, Join, Next, Release, Set, Task}
use Rattle.op_exec.specs.Rows.{◌>>=◌, is_blocked, pushed, top_of, top_of_width, value_of}
use Rattle.op_exec.specs.Calls.{called, is_beyond, is_misfit}
use Rattle.op_exec.specs.RegisterRows.{register_row, with_stack}
use Rattle.op_exec.specs.Outcomes.{on_frame, on_stack, on_stack_and_flags, with_trap}
use Rattle.op_exec.specs.EffectRows.{called_for, delay_at, effect_row, index_at, joined_last, offset_at, on_word, word_at}
use Rattle.op_exec.specs.Does.{arithmetic_does, comparison_does, does, effect_does, family_of, register_does, stack_does}
use Rattle.net_engine.specs.Parts.{AreWide}
use Rattle.sys_tasks.specs.Design.{design_of}
use Rattle.sys_tasks.specs.Conditions.{is_function_call, is_task_call}
use Rattle.sys_tasks.specs.Tasks.{called_pops}
use Rattle.sim_core.specs.Effects.{items_of, scope_at}
use Rattle.sim_core.specs.Machine.{words_now}
use Rattle.sim_core.specs.Engine.{Shown}
use Rattle.sim_core.specs.Parts.{EffectFits}
use Rattle.sim_core.proofs.CallFitLemmas.{function-call, task-call}
use Rattle.sim_core.proofs.ExecutableLemmas.{bound-at, driven-such, value-width, variable-such}
use Rattle.sim_core.proofs.FitLemmas.{HoldsFit, array-writable, assign-fits, either-fits, has-levels, is-below, offset-fits, register-fits, store-fits}

-- ---- rows

-- the word of an index is one of the array's
word-within : (frame : Frame) (words : List (List Bit)) (register word : ℕ) → word_at frame words register ≡ Some word → word < length words
unfolding word_at
word-within frame words register word h = blocked (is_blocked frame.flags) refl (index_at frame.registers register) refl
  where
    inside : (i : ℕ) (b : Bool) → nat_lt i (length words) ≡ b → cond b (Some i) None ≡ Some word → word < length words
    inside i true is e =
        let same : i ≡ word = cc in
        let below : i < length words = grind (arith, nat_tests) in
        omega (arith, same, below)
    inside i false is e = absurd (let none : ⊥ = cc in none)

    blocked : (b : Bool) → is_blocked frame.flags ≡ b → (z : ℤ) → index_at frame.registers register ≡ z → word < length words
    blocked true is z at = absurd (let k = rw is at h in (let none : ⊥ = cc in none))
    blocked false is (pos i) at = (let k = rw (is, at) at h in inside i (nat_lt i (length words)) refl k)
    blocked false is (negsuc i) at = absurd (let k = rw (is, at) at h in (let none : ⊥ = cc in none))

-- the top of a width has that width
top-width : (stack : List (List Bit)) (width : ℕ) (top : List Bit) → top_of_width stack width ≡ Ok top → length top ≡ width
unfolding top_of_width
top-width stack width top h = go (top_of stack) h
  where
    test : (t : List Bit) (b : Bool) → nat_eq (length t) width ≡ b → ◌≡◌ {A = Result (List Bit) TrapKind} (cond b (Ok t) (Err Width)) (Ok top) → length top ≡ width
    test t true is e =
        let same : t ≡ top = cc in
        let wide : length t ≡ width = grind (arith, nat_tests) in
        ap length (sym same) ∙ wide
    test t false is e = absurd (let none : ⊥ = cc in none)

    go : (r : Result (List Bit) TrapKind) → (r >>= (λ t. cond (nat_eq (length t) width) (Ok t) (Err Width))) ≡ Ok top → length top ≡ width
    go (Ok t) e = test t (nat_eq (length t) width) refl e
    go (Err kind) e = absurd (let none : ⊥ = cc in none)

-- what the popped item is known by
pub taken-fits : (shown : Shown) (serial : ℕ) (frame : Frame) (popped : Result (List Bit) TrapKind) (effect : List Bit → Effect)
    → ((top : List Bit) → popped ≡ Ok top → EffectFits shown serial (with_stack frame (drop 1 frame.stack)) (effect top))
    → HoldsFit shown serial (popped >>= (λ top. Ok (with_stack frame (drop 1 frame.stack), effect top)))
taken-fits shown serial frame (Ok top) effect fits = fits top refl
taken-fits shown serial frame (Err kind) effect fits = tt

word-fits : (shown : Shown) (serial : ℕ) (frame : Frame) (slot : Option ℕ) (effect : ℕ → Effect) → ((word : ℕ) → slot ≡ Some word → EffectFits shown serial frame (effect word)) → EffectFits shown serial frame (on_word slot effect)
word-fits shown serial frame None effect fits = tt
word-fits shown serial frame (Some word) effect fits = fits word refl

next-fits : (shown : Shown) (serial : ℕ) (frame : Frame) (row : Result (List (List Bit)) TrapKind) → HoldsFit shown serial (row >>= (λ s. Ok (with_stack frame s, Next)))
next-fits shown serial frame (Ok s) = tt
next-fits shown serial frame (Err kind) = tt

-- ---- calls

-- a call that isn't a trap
record Calls (stack : List (List Bit)) (args : List (Arg ℕ)) (pops : ℕ) (effect done : Effect) : Type 0 where
  few : pops ≤ length stack
  fits : list_any (is_misfit stack) args ≡ false
  same : done ≡ effect

called-is : (stack : List (List Bit)) (args : List (Arg ℕ)) (pops pushes : ℕ) (effect done : Effect) → called stack args pops pushes effect ≡ Ok done → Calls stack args pops effect done
unfolding called
called-is stack args pops pushes effect done h =
    go (nat_lt (length stack) pops) refl (list_any (is_beyond stack) args) (nat_lt 256 (length stack - pops + pushes)) (list_any (is_misfit stack) args) refl h
  where
    go : (a : Bool) → nat_lt (length stack) pops ≡ a → (b c d : Bool) → list_any (is_misfit stack) args ≡ d
        → ◌≡◌ {A = Result Effect TrapKind} (cond (a || b) (Err StackUnder) (cond c (Err StackOver) (cond d (Err Width) (Ok effect)))) (Ok done) → Calls stack args pops effect done
    go true is b c d fits e = absurd (let none : ⊥ = cc in none)
    go false is true c d fits e = absurd (let none : ⊥ = cc in none)
    go false is false true d fits e = absurd (let none : ⊥ = cc in none)
    go false is false false true fits e = absurd (let none : ⊥ = cc in none)
    go false is false false false fits e = record { few = grind (arith, nat_tests); fits = fits; same = (let one : effect ≡ done = cc in sym one) }

some_op : (x y : Op ℕ) → Some x ≡ Some y → x ≡ y
some_op x y e = cc

-- ---- the rows with effects

module _ (shown : Shown) (serial : ℕ) (frame : Frame) (linked : IsProgram shown.program) (wide : AreWide (nodes_of shown.program) shown.machine.state.values)
    (designed : shown.machine.tasks.design ≡ design_of shown.program)
    (own : (place child : ℕ) → slice_get frame.children place ≡ Some child → IfSome (thread_of shown.machine.state.threads child) (λ (thread : Thread). thread.parent ≡ Some serial)) where
  -- a scope that a call stands in
  scope-there : (op : Op ℕ) → slice_get shown.program.code frame.pc ≡ Some op → IsTrue (is_call op) → scope_at shown.program frame.pc < length shown.program.scopes
  scope-there op at call =
      let within = slice_get_within shown.program.code frame.pc op at in
      let each = linked.scope_each in
      linked.call_scopes frame.pc (scope_at shown.program frame.pc) op at call (slice_get-get_or shown.program.code_scopes frame.pc 0 (omega (arith, within, each)))

  task-fits : (file line : ℕ) (name : List ℕ) (args : List (Arg ℕ)) (pops : ℕ) → slice_get shown.program.code frame.pc ≡ Some (o.CallTask file line name args pops)
      → HoldsFit shown serial (called_for frame (called frame.stack args pops 0 Task))
  task-fits file line name args pops at = go (called frame.stack args pops 0 Task) refl
    where
      go : (r : Result Effect TrapKind) → called frame.stack args pops 0 Task ≡ r → HoldsFit shown serial (called_for frame r)
      go (Err kind) is = tt
      go (Ok done) is =
          let calls = called-is frame.stack args pops 0 Task done is in
          subst (λ (e : Effect). EffectFits shown serial frame e) (sym calls.same) (λ op there.
          let same : o.CallTask file line name args pops ≡ op = some_op (o.CallTask file line name args pops) op (sym at ∙ there) in
          subst (λ (x : Op ℕ). IsTrue (is_task_call shown.machine.tasks.design (scope_at shown.program frame.pc) (items_of x frame) x) × (called_pops x ≤ length frame.stack)) same (
            task-call shown.program shown.machine.tasks.design (scope_at shown.program frame.pc) frame.stack file line name args pops linked designed
                (scope-there (o.CallTask file line name args pops) at refl) calls.few calls.fits (bound-at shown.program frame.pc (o.CallTask file line name args pops) linked at).call,
            calls.few,
          ))

  func-fits : (file line : ℕ) (name : List ℕ) (width : ℕ) (args : List (Arg ℕ)) (pops : ℕ) → slice_get shown.program.code frame.pc ≡ Some (o.CallFunction file line name width args pops)
      → HoldsFit shown serial (called_for frame (called frame.stack args pops 1 Func))
  func-fits file line name width args pops at = go (called frame.stack args pops 1 Func) refl
    where
      go : (r : Result Effect TrapKind) → called frame.stack args pops 1 Func ≡ r → HoldsFit shown serial (called_for frame r)
      go (Err kind) is = tt
      go (Ok done) is =
          let calls = called-is frame.stack args pops 1 Func done is in
          subst (λ (e : Effect). EffectFits shown serial frame e) (sym calls.same) (λ op there.
          let same : o.CallFunction file line name width args pops ≡ op = some_op (o.CallFunction file line name width args pops) op (sym at ∙ there) in
          subst (λ (x : Op ℕ). IsTrue (is_function_call shown.machine.tasks.design (scope_at shown.program frame.pc) (items_of x frame) x) × (called_pops x ≤ length frame.stack)) same (
            function-call shown.program shown.machine.tasks.design (scope_at shown.program frame.pc) frame.stack file line name width args pops linked designed
                (scope-there (o.CallFunction file line name width args pops) at refl) calls.few calls.fits (bound-at shown.program frame.pc (o.CallFunction file line name width args pops) linked at).call,
            calls.few,
          ))

  -- a child that is joined was the thread's own
  join-fits : HoldsFit shown serial (joined_last frame)
  unfolding joined_last
  join-fits = go (nat_eq (length frame.children) 0) refl
    where
      go : (b : Bool) → nat_eq (length frame.children) 0 ≡ b
          → HoldsFit shown serial (cond b (Err NoChild) (Ok (record frame { children = take (length frame.children - 1) frame.children }, Join (slice_index frame.children (length frame.children - 1)))))
      go true is = tt
      go false is =
          let some : 0 < length frame.children = grind (arith, nat_tests) in
          own (length frame.children - 1) (slice_index frame.children (length frame.children - 1)) (slice_get-get_or frame.children (length frame.children - 1) 0 (omega (arith, some)))

  release-fits : (item base width : ℕ) (keep : Bool) → IsTrue (is_such is_value_kind shown.program.items item) → base + width ≤ width_of shown.program.items item → EffectFits shown serial frame (Release item base width keep)
  release-fits item base width keep such within =
      (has-levels shown.program item such, (let wide_as = value-width shown.program shown.machine.state.values item linked wide such in omega (arith, within, wide_as)))

  row-fits : (op : Op ℕ) → slice_get shown.program.code frame.pc ≡ Some op → HoldsFit shown serial (effect_row op frame (words_now shown.program shown.machine))
  unfolding op_symbols
  row-fits (o.Load item) at = next-fits shown serial frame (pushed frame.stack (value_of (words_now shown.program shown.machine item)))
  row-fits (o.LoadWord array index) at = next-fits shown serial frame _
  row-fits (o.Store item offset width) at =
      store-fits shown serial frame (words_now shown.program shown.machine) item offset width ((bound-at shown.program frame.pc (o.Store item offset width) linked at).first (item, takes.Variable) refl)
  row-fits (o.StoreWord array index offset) at =
      let such = (bound-at shown.program frame.pc (o.StoreWord array index offset) linked at).first (array, takes.Array) refl in
      let words = words_now shown.program shown.machine in
      taken-fits shown serial frame (top_of frame.stack) (λ top. on_word (word_at frame (words array) index) (λ word. Set array word (offset_at frame.registers offset) top))
      (λ top is. word-fits shown serial (with_stack frame (drop 1 frame.stack)) (word_at frame (words array) index) (λ word. Set array word (offset_at frame.registers offset) top)
      (λ word there. array-writable shown.program shown.machine.state.values array word such (word-within frame (words array) index word there)))
  row-fits (o.Assign item delay) at =
      assign-fits shown serial frame (words_now shown.program shown.machine) item delay ((bound-at shown.program frame.pc (o.Assign item delay) linked at).first (item, takes.Variable) refl)
  row-fits (o.AssignRegister item delay) at =
      register-fits shown serial frame (words_now shown.program shown.machine) item delay ((bound-at shown.program frame.pc (o.AssignRegister item delay) linked at).first (item, takes.Variable) refl)
  row-fits (o.AssignOffset item offset delay) at =
      offset-fits shown serial frame (words_now shown.program shown.machine) item offset delay ((bound-at shown.program frame.pc (o.AssignOffset item offset delay) linked at).first (item, takes.Variable) refl)
  row-fits (o.AssignWord array offset delay) at =
      let such = (bound-at shown.program frame.pc (o.AssignWord array offset delay) linked at).first (array, takes.Array) refl in
      let words = words_now shown.program shown.machine in
      taken-fits shown serial frame (top_of frame.stack) (λ top. on_word (word_at frame (words array) 3) (λ word. Assign array word (offset_at frame.registers offset) top (delay_at frame.registers delay)))
      (λ top is. word-fits shown serial (with_stack frame (drop 1 frame.stack)) (word_at frame (words array) 3) (λ word. Assign array word (offset_at frame.registers offset) top (delay_at frame.registers delay))
      (λ word there. array-writable shown.program shown.machine.state.values array word such (word-within frame (words array) 3 word there)))
  row-fits (o.JumpIfZero target flag) at = either-fits shown serial frame _ (Goto target) Next tt tt
  row-fits (o.JumpIfOne target flag) at = either-fits shown serial frame _ (Goto target) Next tt tt
  row-fits (o.JumpUnlessOne target flag) at = either-fits shown serial frame _ (Goto target) Next tt tt
  row-fits (o.JumpUnlessZero target flag) at = either-fits shown serial frame _ (Goto target) Next tt tt
  row-fits (o.Wait event) at = is-below is_event_kind shown.program event ((bound-at shown.program frame.pc (o.Wait event) linked at).first (event, takes.Event) refl)
  row-fits (o.Trigger event) at = is-below is_named_kind shown.program event ((bound-at shown.program frame.pc (o.Trigger event) linked at).first (event, takes.NamedEvent) refl)
  row-fits (o.Fork target scope) at = (bound-at shown.program frame.pc (o.Fork target scope) linked at).second (scope, takes.Scope) refl
  row-fits o.Join at = join-fits
  row-fits (o.Disable scope) at = (bound-at shown.program frame.pc (o.Disable scope) linked at).first (scope, takes.Scope) refl
  row-fits (o.CallTask file line name args pops) at = task-fits file line name args pops at
  row-fits (o.CallFunction file line name width args pops) at = func-fits file line name width args pops at
  row-fits (o.Force item) at =
      let such = (bound-at shown.program frame.pc (o.Force item) linked at).first (item, takes.Signal) refl in
      let words = words_now shown.program shown.machine in
      taken-fits shown serial frame (top_of_width frame.stack (length (value_of (words item)))) (λ top. Force item top)
      (λ top is. (has-levels shown.program item such, top-width frame.stack (length (value_of (words item))) top is))
  row-fits (o.ReleaseNet item base width) at =
      let bound = bound-at shown.program frame.pc (o.ReleaseNet item base width) linked at in
      release-fits item base width false (driven-such shown.program.items item (bound.first (item, takes.NetOrFunctor) refl)) bound.call
  row-fits (o.ReleaseReg item base width) at =
      let bound = bound-at shown.program frame.pc (o.ReleaseReg item base width) linked at in
      release-fits item base width true (variable-such shown.program.items item (bound.first (item, takes.Variable) refl)) bound.call
  row-fits op at = tt

-- ---- all rows

-- of a row that is a trap nothing is needed
abbrev DoneFits : Shown → ℕ → Frame × Effect → Type 0
DoneFits shown serial done = EffectFits shown serial done.0 done.1

trap-fits : (shown : Shown) (serial : ℕ) (frame : Frame) (row : Result (Frame × Effect) TrapKind) → HoldsFit shown serial row → DoneFits shown serial (with_trap frame row)
trap-fits shown serial frame (Ok done) fits = fits
trap-fits shown serial frame (Err kind) fits = tt

stack-fits : (shown : Shown) (serial : ℕ) (frame : Frame) (row : Result (List (List Bit)) TrapKind) → DoneFits shown serial (with_trap frame (on_stack frame row))
stack-fits shown serial frame (Ok s) = tt
stack-fits shown serial frame (Err kind) = tt

flags-fit : (shown : Shown) (serial : ℕ) (frame : Frame) (row : Result (List (List Bit) × List Bit) TrapKind) → DoneFits shown serial (with_trap frame (on_stack_and_flags frame row))
flags-fit shown serial frame (Ok pair) = tt
flags-fit shown serial frame (Err kind) = tt

frame-fits : (shown : Shown) (serial : ℕ) (frame : Frame) (row : Result Frame TrapKind) → DoneFits shown serial (with_trap frame (on_frame row))
frame-fits shown serial frame (Ok left) = tt
frame-fits shown serial frame (Err kind) = tt

-- the effect of any opcode
pub does-fits : (shown : Shown) (serial : ℕ) (frame : Frame) → IsProgram shown.program → AreWide (nodes_of shown.program) shown.machine.state.values → shown.machine.tasks.design ≡ design_of shown.program
    → ((place child : ℕ) → slice_get frame.children place ≡ Some child → IfSome (thread_of shown.machine.state.threads child) (λ (thread : Thread). thread.parent ≡ Some serial))
    → (op : Op ℕ) → slice_get shown.program.code frame.pc ≡ Some op → DoneFits shown serial (does op frame (words_now shown.program shown.machine))
unfolding does family_of stack_does register_does arithmetic_does comparison_does effect_does
does-fits shown serial frame linked wide designed own (o.PushImmediate a b c) at = stack-fits shown serial frame _
does-fits shown serial frame linked wide designed own o.Concatenate at = stack-fits shown serial frame _
does-fits shown serial frame linked wide designed own (o.ConcatenateImmediate a b c) at = stack-fits shown serial frame _
does-fits shown serial frame linked wide designed own (o.Replicate a) at = stack-fits shown serial frame _
does-fits shown serial frame linked wide designed own (o.PartUnsigned a) at = stack-fits shown serial frame _
does-fits shown serial frame linked wide designed own (o.PartSigned a) at = stack-fits shown serial frame _
does-fits shown serial frame linked wide designed own (o.PartImmediateUnsigned a b c) at = stack-fits shown serial frame _
does-fits shown serial frame linked wide designed own (o.PartImmediateSigned a b c) at = stack-fits shown serial frame _
does-fits shown serial frame linked wide designed own (o.PadUnsigned a) at = stack-fits shown serial frame _
does-fits shown serial frame linked wide designed own (o.PadSigned a) at = stack-fits shown serial frame _
does-fits shown serial frame linked wide designed own o.Duplicate at = stack-fits shown serial frame _
does-fits shown serial frame linked wide designed own (o.Pop a) at = stack-fits shown serial frame _
does-fits shown serial frame linked wide designed own (o.Split a) at = stack-fits shown serial frame _
does-fits shown serial frame linked wide designed own (o.IndexLoad a b c) at = frame-fits shown serial frame (register_row (o.IndexLoad a b c) frame (words_now shown.program shown.machine))
does-fits shown serial frame linked wide designed own (o.IndexGet a b) at = frame-fits shown serial frame (register_row (o.IndexGet a b) frame (words_now shown.program shown.machine))
does-fits shown serial frame linked wide designed own (o.IndexGetSigned a b) at = frame-fits shown serial frame (register_row (o.IndexGetSigned a b) frame (words_now shown.program shown.machine))
does-fits shown serial frame linked wide designed own (o.IndexPop a) at = frame-fits shown serial frame (register_row (o.IndexPop a) frame (words_now shown.program shown.machine))
does-fits shown serial frame linked wide designed own (o.IndexPopSigned a) at = frame-fits shown serial frame (register_row (o.IndexPopSigned a) frame (words_now shown.program shown.machine))
does-fits shown serial frame linked wide designed own (o.IndexAdd a b c) at = frame-fits shown serial frame (register_row (o.IndexAdd a b c) frame (words_now shown.program shown.machine))
does-fits shown serial frame linked wide designed own (o.IndexSubtract a b c) at = frame-fits shown serial frame (register_row (o.IndexSubtract a b c) frame (words_now shown.program shown.machine))
does-fits shown serial frame linked wide designed own (o.IndexMultiply a b c) at = frame-fits shown serial frame (register_row (o.IndexMultiply a b c) frame (words_now shown.program shown.machine))
does-fits shown serial frame linked wide designed own (o.IndexMove a b) at = frame-fits shown serial frame (register_row (o.IndexMove a b) frame (words_now shown.program shown.machine))
does-fits shown serial frame linked wide designed own (o.FlagPop a) at = frame-fits shown serial frame (register_row (o.FlagPop a) frame (words_now shown.program shown.machine))
does-fits shown serial frame linked wide designed own (o.FlagImmediate a b) at = frame-fits shown serial frame (register_row (o.FlagImmediate a b) frame (words_now shown.program shown.machine))
does-fits shown serial frame linked wide designed own (o.FlagPush a) at = frame-fits shown serial frame (register_row (o.FlagPush a) frame (words_now shown.program shown.machine))
does-fits shown serial frame linked wide designed own (o.FlagMove a b) at = frame-fits shown serial frame (register_row (o.FlagMove a b) frame (words_now shown.program shown.machine))
does-fits shown serial frame linked wide designed own (o.FlagInvert a) at = frame-fits shown serial frame (register_row (o.FlagInvert a) frame (words_now shown.program shown.machine))
does-fits shown serial frame linked wide designed own (o.FlagOr a b) at = frame-fits shown serial frame (register_row (o.FlagOr a b) frame (words_now shown.program shown.machine))
does-fits shown serial frame linked wide designed own o.Add at = stack-fits shown serial frame _
does-fits shown serial frame linked wide designed own o.Subtract at = stack-fits shown serial frame _
does-fits shown serial frame linked wide designed own o.Multiply at = stack-fits shown serial frame _
does-fits shown serial frame linked wide designed own o.Divide at = stack-fits shown serial frame _
does-fits shown serial frame linked wide designed own o.DivideSigned at = stack-fits shown serial frame _
does-fits shown serial frame linked wide designed own o.Modulo at = stack-fits shown serial frame _
does-fits shown serial frame linked wide designed own o.ModuloSigned at = stack-fits shown serial frame _
does-fits shown serial frame linked wide designed own o.Power at = stack-fits shown serial frame _
does-fits shown serial frame linked wide designed own (o.AddImmediate a b c) at = stack-fits shown serial frame _
does-fits shown serial frame linked wide designed own (o.SubtractImmediate a b c) at = stack-fits shown serial frame _
does-fits shown serial frame linked wide designed own (o.MultiplyImmediate a b c) at = stack-fits shown serial frame _
does-fits shown serial frame linked wide designed own o.And at = stack-fits shown serial frame _
does-fits shown serial frame linked wide designed own o.Or at = stack-fits shown serial frame _
does-fits shown serial frame linked wide designed own o.Xor at = stack-fits shown serial frame _
does-fits shown serial frame linked wide designed own o.Nand at = stack-fits shown serial frame _
does-fits shown serial frame linked wide designed own o.Nor at = stack-fits shown serial frame _
does-fits shown serial frame linked wide designed own o.Xnor at = stack-fits shown serial frame _
does-fits shown serial frame linked wide designed own o.Invert at = stack-fits shown serial frame _
does-fits shown serial frame linked wide designed own o.ReduceAnd at = stack-fits shown serial frame _
does-fits shown serial frame linked wide designed own o.ReduceOr at = stack-fits shown serial frame _
does-fits shown serial frame linked wide designed own o.ReduceXor at = stack-fits shown serial frame _
does-fits shown serial frame linked wide designed own o.ReduceNand at = stack-fits shown serial frame _
does-fits shown serial frame linked wide designed own o.ReduceNor at = stack-fits shown serial frame _
does-fits shown serial frame linked wide designed own o.ReduceXnor at = stack-fits shown serial frame _
does-fits shown serial frame linked wide designed own (o.ShiftLeft a) at = stack-fits shown serial frame _
does-fits shown serial frame linked wide designed own (o.ShiftRight a) at = stack-fits shown serial frame _
does-fits shown serial frame linked wide designed own (o.ShiftRightSigned a) at = stack-fits shown serial frame _
does-fits shown serial frame linked wide designed own o.Blend at = stack-fits shown serial frame _
does-fits shown serial frame linked wide designed own o.CompareUnsigned at = flags-fit shown serial frame _
does-fits shown serial frame linked wide designed own o.CompareSigned at = flags-fit shown serial frame _
does-fits shown serial frame linked wide designed own o.CompareEqual at = flags-fit shown serial frame _
does-fits shown serial frame linked wide designed own o.CompareNotEqual at = flags-fit shown serial frame _
does-fits shown serial frame linked wide designed own o.CompareWildZ at = flags-fit shown serial frame _
does-fits shown serial frame linked wide designed own o.CompareWildX at = flags-fit shown serial frame _
does-fits shown serial frame linked wide designed own (o.CompareUnsignedImmediate a b c) at = flags-fit shown serial frame _
does-fits shown serial frame linked wide designed own (o.CompareSignedImmediate a b c) at = flags-fit shown serial frame _
does-fits shown serial frame linked wide designed own (o.CompareEqualImmediate a b c) at = flags-fit shown serial frame _
does-fits shown serial frame linked wide designed own (o.CompareNotEqualImmediate a b c) at = flags-fit shown serial frame _
does-fits shown serial frame linked wide designed own op at =
    trap-fits shown serial frame (effect_row op frame (words_now shown.program shown.machine)) (row-fits shown serial frame linked wide designed own op at)
