-- What the methods on the thread that runs owe, by what the calls on an engine's parts answer for.
use Rattle.std.proofs.Common.{◌≡◌, ℕ, zero, suc, ◌<◌, ◌≤◌, ◌^◌, false, Option, Some, IsTrue, Result, Ok, Err, List, [], ◌∷◌, length, refl, sym, ap, subst, ◌∙◌, arith}
use Rattle.std.specs.Prelude.{IfOk, OnErr, OnOk}
use Rattle.std.specs.List.{slice_get}
use Rattle.std.proofs.lemmas.Option.{slice_get_within}
use Rattle.four_state.specs.declared.bits.Bit.{Bit}
use Rattle.vvp_threads.specs.declared.thread.Thread.{Thread}
use Rattle.vvp_threads.specs.Table.{thread_of}
use Rattle.vvp_threads.specs.Keyed.{IsKeyOf, KeyedTable}
use Rattle.vvp_ops.specs.declared.op.Op.{Op}
use Rattle.op_exec.specs.declared.effect.Effect.{Effect}
use Rattle.op_exec.specs.Executable.{IsExecutable}
use Rattle.sym_link.specs.declared.program.Program.{Program}
use Rattle.sym_link.specs.Roots.{Node, nodes_of}
use Rattle.net_engine.specs.Net.{words_of}
use Rattle.net_engine.specs.Parts.{AreWide, plane_of}
use Rattle.op_exec.specs.declared.effect.Effect.TheVariants.{Func, Task}
use Rattle.sys_tasks.specs.Conditions.{Answers, HoldsValues, is_function_call, is_task_call}
use Rattle.sys_tasks.specs.Tasks.{TasksNow, called, called_pops}
use Rattle.sys_tasks.specs.Design.{Design}
use Rattle.sim_core.specs.declared.engine.Running.{Running}
use Rattle.sim_core.specs.Machine.{framed}
use Rattle.sim_core.specs.Engine.{Shown}
use Rattle.sim_core.specs.Kept.{Held, IsSound}
use Rattle.sim_core.specs.Effects.{items_of, scope_at}
use Rattle.sim_core.specs.Parts.{CanGoOn, EffectFits, FrameDone, Runs}
use Rattle.sim_core.proofs.ExecutableLemmas.{executable}
use Rattle.sim_core.proofs.OpcodeLemmas.{opcode-sound}
use Rattle.sim_core.proofs.SeenLemmas.{answers-are, holds-are}
use Rattle.sim_core.proofs.TaskLemmas.{answered_frame, function-sound, popped_frame, task-sound}
use Rattle.sim_core.proofs.WholeLemmas.{At, Whole, runs-at, shown_of}

-- ---- the tasks' calls

pub tasks-answer : (h : Held) → IsSound h → AreWide h.net.nodes h.net.values → Answers h.design.entries (words_of h.net.nodes h.net.values)
tasks-answer h s wide =
    let wide_held : AreWide (nodes_of h.program) h.net.values = subst (λ (nodes : List Node). AreWide nodes h.net.values) s.nodes wide in
    subst (λ (nodes : List Node). Answers h.design.entries (words_of nodes h.net.values)) (sym s.nodes) (answers-are h.program h.net.values h.design s.linked wide_held s.designed)

pub tasks-hold : (h : Held) → IsSound h → HoldsValues h.design.entries (words_of h.net.nodes h.net.values) (plane_of h.net.nodes h.net.values)
tasks-hold h s =
    subst (λ (nodes : List Node). HoldsValues h.design.entries (words_of nodes h.net.values) (plane_of nodes h.net.values)) (sym s.nodes) (holds-are h.program h.net.values h.design s.designed)

-- ---- the next opcode

pub opcodes-fit : (h : Held) (code : List (Op ℕ)) → IsSound h → AreWide h.net.nodes h.net.values → code ≡ h.program.code → (place : ℕ) (op : Op ℕ) → slice_get code place ≡ Some op → IsExecutable (words_of h.net.nodes h.net.values) op
opcodes-fit h code s wide coded place op at =
    let wide_held : AreWide (nodes_of h.program) h.net.values = subst (λ (nodes : List Node). AreWide nodes h.net.values) s.nodes wide in
    subst (λ (nodes : List Node). IsExecutable (words_of nodes h.net.values) op) (sym s.nodes)
    (executable h.program h.net.values place op s.linked wide_held (ap (λ (ops : List (Op ℕ)). slice_get ops place) (sym coded) ∙ at))

pub opcode-kept : {E : Type 0} (w : Whole) (code : List (Op ℕ)) (words : ℕ → List (List Bit)) (serial : ℕ) (thread : Thread) (r : Running) (threads : KeyedTable) (result : Result (Option Effect) E) → At w serial thread r
    → IfOk result (λ (effect : Option Effect). (s : ℕ) (t : Thread) → IsKeyOf w.held.threads s r.key → thread_of w.held.threads.table s ≡ Some t → FrameDone effect code words w.held.threads threads s t)
    → OnErr result (threads ≡ w.held.threads) → IsSound (record w.held { threads = threads })
opcode-kept w code words serial thread r threads (Ok effect) a done still = opcode-sound w effect code words serial thread r threads a (done serial thread a.key a.live)
opcode-kept w code words serial thread r threads (Err e) a done still = subst (λ (t : KeyedTable). IsSound (record w.held { threads = t })) (sym still) a.sound

-- ---- effects that are heeded

pub can-affect : (old : Shown) (serial : ℕ) (thread : Thread) (op : Op ℕ) → Runs old serial thread → slice_get old.program.code thread.frame.pc ≡ Some op → CanGoOn old serial thread
can-affect old serial thread op runs at = record { runs = runs; place = slice_get_within old.program.code thread.frame.pc op at }

-- ---- calls of tasks and functions

-- what the call of a task needs of the thread that calls
pub task-ready : (w : Whole) (old : Shown) (serial : ℕ) (thread : Thread) (r : Running) (op : Op ℕ) (scope : ℕ) → shown_of w ≡ old → (w.failed ≡ false → IsSound w.held) → CanGoOn old serial thread → w.held.running ≡ Some r
    → EffectFits old serial thread.frame Task → slice_get w.held.program.code thread.frame.pc ≡ Some op → scope ≡ scope_at w.held.program thread.frame.pc
    → IsKeyOf w.held.threads serial r.key × (thread_of w.held.threads.table serial ≡ Some thread) × IsTrue (is_task_call w.tasks.design scope (items_of op thread.frame) op) × (called_pops op ≤ length thread.frame.stack) × (thread.frame.pc < 2 ^ 20)
task-ready w old serial thread r op scope view inv can is fits at stands =
    let a = runs-at w old serial thread r view inv can.runs is in
    let here : slice_get old.program.code thread.frame.pc ≡ Some op = ap (λ (s : Shown). slice_get s.program.code thread.frame.pc) (sym view) ∙ at in
    let fit = fits op here in
    let there = slice_get_within w.held.program.code thread.frame.pc op at in
    let few = a.sound.linked.few_opcodes in (
      a.key,
      a.live,
      subst (λ (k : ℕ). IsTrue (is_task_call w.tasks.design k (items_of op thread.frame) op)) (sym stands)
          (subst (λ (s : Shown). IsTrue (is_task_call s.machine.tasks.design (scope_at s.program thread.frame.pc) (items_of op thread.frame) op)) (sym view) fit.0),
      fit.1,
      omega (arith, there, few),
    )

pub function-ready : (w : Whole) (old : Shown) (serial : ℕ) (thread : Thread) (r : Running) (op : Op ℕ) (scope : ℕ) → shown_of w ≡ old → (w.failed ≡ false → IsSound w.held) → CanGoOn old serial thread → w.held.running ≡ Some r
    → EffectFits old serial thread.frame Func → slice_get w.held.program.code thread.frame.pc ≡ Some op → scope ≡ scope_at w.held.program thread.frame.pc
    → IsKeyOf w.held.threads serial r.key × (thread_of w.held.threads.table serial ≡ Some thread) × IsTrue (is_function_call w.tasks.design scope (items_of op thread.frame) op) × (called_pops op ≤ length thread.frame.stack) × (thread.frame.pc < 2 ^ 20)
function-ready w old serial thread r op scope view inv can is fits at stands =
    let a = runs-at w old serial thread r view inv can.runs is in
    let here : slice_get old.program.code thread.frame.pc ≡ Some op = ap (λ (s : Shown). slice_get s.program.code thread.frame.pc) (sym view) ∙ at in
    let fit = fits op here in
    let there = slice_get_within w.held.program.code thread.frame.pc op at in
    let few = a.sound.linked.few_opcodes in (
      a.key,
      a.live,
      subst (λ (k : ℕ). IsTrue (is_function_call w.tasks.design k (items_of op thread.frame) op)) (sym stands)
          (subst (λ (s : Shown). IsTrue (is_function_call s.machine.tasks.design (scope_at s.program thread.frame.pc) (items_of op thread.frame) op)) (sym view) fit.0),
      fit.1,
      omega (arith, there, few),
    )

-- an opcode stands where the thread can go on
pub opcode-there : (old : Shown) (serial : ℕ) (thread : Thread) → CanGoOn old serial thread → (op : Op ℕ) × (slice_get old.program.code thread.frame.pc ≡ Some op)
opcode-there old serial thread can = go old.program.code thread.frame.pc can.place
  where
    go : (code : List (Op ℕ)) (k : ℕ) → k < length code → (op : Op ℕ) × (slice_get code k ≡ Some op)
    go [] k within = absurd (omega arith)
    go (op ∷ code) zero within = (op, refl)
    go (op ∷ code) (suc k) within = go code k (omega arith)

-- two facts of one error
pub err-both : {P Q R : Type 0} {T E : Type 0} (r : Result T E) → OnErr r P → OnErr r Q → (P → Q → R) → OnErr r R
err-both (Ok x) p q f = p
err-both (Err e) p q f = f p q

pub ok-both : {P Q R : Type 0} {T E : Type 0} (r : Result T E) → OnOk r P → OnOk r Q → (P → Q → R) → OnOk r R
ok-both (Ok x) p q f = f p q
ok-both (Err e) p q f = p

-- the place at which the thread stands is one of the code, and an opcode has a scope there
pub place-there : (w : Whole) (old : Shown) (serial : ℕ) (thread : Thread) (place : ℕ) (code : List (Op ℕ)) → shown_of w ≡ old → CanGoOn old serial thread → place ≡ thread.frame.pc → code ≡ w.held.program.code → place < length code
place-there w old serial thread place code view can at same =
    let within : thread.frame.pc < length w.held.program.code = subst (λ (s : Shown). thread.frame.pc < length s.program.code) (sym view) can.place in
    (let lengths = ap length same in omega (arith, at, within, lengths))

pub scope-there-at : (w : Whole) (old : Shown) (serial : ℕ) (thread : Thread) (place : ℕ) (scopes : List ℕ) → shown_of w ≡ old → IsSound w.held → CanGoOn old serial thread → place ≡ thread.frame.pc → scopes ≡ w.held.program.code_scopes → place < length scopes
scope-there-at w old serial thread place scopes view s can at same =
    let within : thread.frame.pc < length w.held.program.code = subst (λ (x : Shown). thread.frame.pc < length x.program.code) (sym view) can.place in
    (let lengths = ap length same in let each = s.linked.scope_each in omega (arith, at, within, lengths, each))

-- one opcode stands at a place
pub op-at : (code : List (Op ℕ)) (program : Program) (place pc : ℕ) (op : Op ℕ) → slice_get code place ≡ Some op → code ≡ program.code → place ≡ pc → slice_get program.code pc ≡ Some op
op-at code program place pc op at same here = ap (λ (k : ℕ). slice_get program.code k) (sym here) ∙ ap (λ (ops : List (Op ℕ)). slice_get ops place) (sym same) ∙ at

pub same-op : (program : Program) (pc : ℕ) (x y : Op ℕ) → slice_get program.code pc ≡ Some x → slice_get program.code pc ≡ Some y → x ≡ y
same-op program pc x y first second = (let both : Some x ≡ Some y = sym first ∙ second in cc)

-- a call of a task keeps what an engine keeps
pub task-kept : {X E : Type 0} (w : Whole) (op : Op ℕ) (scope now : ℕ) (words : ℕ → List (List Bit)) (serial : ℕ) (thread : Thread) (r : Running) (tasks : TasksNow) (threads : KeyedTable) (result : Result X E) → At w serial thread r → w.held.design ≡ w.tasks.design
    → OnOk result ((s : ℕ) (t : Thread) → IsKeyOf w.held.threads s r.key → thread_of w.held.threads.table s ≡ Some t → tasks ≡ called op scope (items_of op t.frame) now words w.tasks)
    → OnOk result ((s : ℕ) (t : Thread) → IsKeyOf w.held.threads s r.key → thread_of w.held.threads.table s ≡ Some t → threads ≡ record w.held.threads { table = framed s (popped_frame op t.frame) w.held.threads.table })
    → OnErr result (tasks ≡ w.tasks) → OnErr result (threads ≡ w.held.threads) → IsSound (record w.held { threads = threads; design = tasks.design })
task-kept w op scope now words serial thread r tasks threads (Ok x) a same called_so goes kept still =
    task-sound w op scope now words (items_of op thread.frame) serial thread tasks threads a.sound same a.live (called_so serial thread a.key a.live) (goes serial thread a.key a.live)
task-kept w op scope now words serial thread r tasks threads (Err e) a same called_so goes kept still =
    subst (λ (t : KeyedTable). IsSound (record w.held { threads = t; design = tasks.design })) (sym still)
    (subst (λ (d : Design). IsSound (record w.held { design = d })) (same ∙ ap (λ (t : TasksNow). t.design) (sym kept)) a.sound)

pub function-kept : {X E : Type 0} (w : Whole) (op : Op ℕ) (value : Thread → List Bit) (serial : ℕ) (thread : Thread) (r : Running) (threads : KeyedTable) (result : Result X E) → At w serial thread r
    → OnOk result ((s : ℕ) (t : Thread) → IsKeyOf w.held.threads s r.key → thread_of w.held.threads.table s ≡ Some t → threads ≡ record w.held.threads { table = framed s (answered_frame op (value t) t.frame) w.held.threads.table })
    → OnErr result (threads ≡ w.held.threads) → IsSound (record w.held { threads = threads })
function-kept w op value serial thread r threads (Ok x) a goes still = function-sound w op (value thread) serial thread threads a.sound a.live (goes serial thread a.key a.live)
function-kept w op value serial thread r threads (Err e) a goes still = subst (λ (t : KeyedTable). IsSound (record w.held { threads = t })) (sym still) a.sound
