-- A call of a task or a function of a program that was linked is one that the tasks take.
use Rattle.std.proofs.Common.{◌≡◌, ℕ, zero, suc, ◌<◌, ◌≤◌, Bool, true, false, cond, not, ◌&&◌, ◌||◌, eqb, nat_eq, nat_lt, Option, Some, None, option_map, IsTrue, List, [], ◌∷◌, length, map, take, refl, sym, ap, subst, ◌∙◌, arith}
use Rattle.std.specs.Prelude.{slice_index_or, codes}
use Rattle.std.specs.List.{All, list_all, list_any, slice_get}
use Rattle.std.specs.Option.{option_map_or}
use Rattle.std.specs.Str.{bytes_eq}
use Rattle.std.proofs.lemmas.Bool.Decides.{nat_tests}
use Rattle.std.proofs.lemmas.List.{get_or-take, length-take-le}
use Rattle.std.proofs.lemmas.List.Elements.{All-head, All-tail}
use Rattle.std.proofs.lemmas.Option.{get_or_from_slice_get, slice_get-get_or}
use Rattle.std.proofs.lemmas.Slice.Eq.{bytes_eq-Decides}
use Rattle.four_state.specs.declared.bits.Bit.{Bit}
use Rattle.vvp_ops.specs.declared.op.Op.TheVariants as o
use Rattle.vvp_ops.specs.declared.args.Arg.{Arg}
use Rattle.vvp_ops.specs.declared.args.Arg.TheVariants as arg
use Rattle.vvp_ops.specs.Ranges.{IsWidth}
use Rattle.sym_link.specs.declared.program.Item.{Item}
use Rattle.sym_link.specs.declared.program.ItemKind.{ItemKind}
use Rattle.sym_link.specs.declared.program.ItemKind.TheVariants as kind
use Rattle.sym_link.specs.declared.program.Program.{Program}
use Rattle.sym_link.specs.declared.sorts.Takes.TheVariants as takes
use Rattle.sym_link.specs.declared.tasks.Call.{Call}
use Rattle.sym_link.specs.declared.tasks.Call.TheVariants as call
use Rattle.sym_link.specs.Sound.{IsArg, IsFunctionCall, IsProgram, IsTaskCall, is_scope_arg, is_scope_kind, is_such, is_text, is_value_kind, takes_args}
use Rattle.sym_link.specs.Tasks.{Row, call_named, functions, tasks}
use Rattle.op_exec.specs.Calls.{has_width, is_misfit}
use Rattle.sys_tasks.specs.declared.design.Entry.{Entry}
use Rattle.sys_tasks.specs.declared.design.EntryKind.TheVariants as entry
use Rattle.sys_tasks.specs.declared.names.Task.{Task}
use Rattle.sys_tasks.specs.declared.names.Function.{Function}
use Rattle.sys_tasks.specs.Names.{function_of, task_of}
use Rattle.sys_tasks.specs.Design.{Design, design_of, entry_kind, entry_of, width_of}
use Rattle.sys_tasks.specs.Dumped.{kind_of}
use Rattle.sys_tasks.specs.Conditions.{function_takes, holds_value, is_array, is_function_call, is_shown, is_task_call, is_value, is_width, takes_by}
use Rattle.net_engine.proofs.LinkedLemmas.{such-at}
use Rattle.sim_core.proofs.FitLemmas.{get-map}
use Rattle.sim_core.proofs.ExecutableLemmas.{array-at}

-- ---- what the tasks know of an item

pub entries-are : (program : Program) → (design_of program).entries ≡ map entry_of program.items
unfolding design_of
entries-are program = refl

pub scopes-are : (program : Program) → (design_of program).scopes ≡ program.scopes
unfolding design_of
scopes-are program = refl

pub entry-kind : (items : List Item) (k : ℕ) (item : Item) → slice_get items k ≡ Some item → kind_of (map entry_of items) k ≡ entry_kind item item.what
entry-kind items k item at = ap (λ (e : Option Entry). option_map_or (λ (entry : Entry). entry.what) e entry.Other) (get-map entry_of items k ∙ ap (option_map entry_of) at)

pub entry-width : (items : List Item) (k : ℕ) (item : Item) → slice_get items k ≡ Some item → width_of (map entry_of items) k ≡ item.width
entry-width items k item at = ap (λ (e : Option Entry). option_map_or (λ (entry : Entry). entry.width) e 0) (get-map entry_of items k ∙ ap (option_map entry_of) at)

holds-by : (item : Item) (what : ItemKind) → is_value_kind what ≡ true → holds_value (entry_kind item what) ≡ true
holds-by item (kind.Var integer) is = refl
holds-by item (kind.Net root) is = refl
holds-by item (kind.Functor gate drive ports) is = refl
holds-by item (kind.Delay rise fall decay port) is = refl
holds-by item (kind.Edge edge ports) is = is
holds-by item kind.Named is = is
holds-by item (kind.AnyOf events) is = is
holds-by item (kind.Array words) is = is
holds-by item (kind.Scope scope) is = is
holds-by item kind.Param is = is

pub holds-such : (items : List Item) (k : ℕ) → IsTrue (is_such is_value_kind items k) → holds_value (kind_of (map entry_of items) k) ≡ true
holds-such items k such =
    let found = such-at is_value_kind items k such in
    ap holds_value (entry-kind items k found.0 found.1) ∙ holds-by found.0 found.0.what found.2

-- ---- arguments

either-first : (a b : Bool) → a || b ≡ true → b ≡ false → a ≡ true
either-first true b is none = refl
either-first false b is none = sym none ∙ is

-- what is a scope or has a value, and is no scope, has a value
value-or-scope : (items : List Item) (k : ℕ) → IsTrue (is_such (λ what. is_value_kind what || is_scope_kind what) items k) → is_such is_scope_kind items k ≡ false → IsTrue (is_such is_value_kind items k)
value-or-scope [] k such none = such
value-or-scope (item ∷ items) zero such none = either-first (is_value_kind item.what) (is_scope_kind item.what) such none
value-or-scope (item ∷ items) (suc k) such none = value-or-scope items k such none

not-true : (b : Bool) → not b ≡ false → b ≡ true
not-true true none = refl
not-true false none = sym none

fits-width : (stack : List (List Bit)) (place width : ℕ) (slot : Option (List Bit)) → slice_get stack place ≡ slot → place < length stack → has_width slot width ≡ true → length (slice_index_or stack place []) ≡ width
fits-width stack place width None at within fits = absurd (let there : slice_get stack place ≡ Some (slice_index_or stack place []) = slice_get-get_or stack place [] within in (let none : ⊥ = cc in none))
fits-width stack place width (Some item) at within fits =
    let is : nat_eq (length item) width ≡ true = fits in
    let same : length item ≡ width = grind (arith, nat_tests) in
    ap length (get_or_from_slice_get stack place item [] at) ∙ same

wide-true : (width : ℕ) → IsWidth width → is_width width ≡ true
wide-true width wide =
    let low = wide.0 in
    let high = wide.1 in
    grind (arith, nat_tests)

lt-true : (a b : ℕ) → a < b → nat_lt a b ≡ true
lt-true a b h = grind (arith, nat_tests)

eq-true : (a b : ℕ) → a ≡ b → eqb a b ≡ true
eq-true a b h = grind (arith, nat_tests)

both : (a b : Bool) → a ≡ true → b ≡ true → a && b ≡ true
both a b x y = ap (λ (c : Bool). c && b) x ∙ y

-- an argument that is no text and no scope has a value
pub value-arg : (program : Program) (pops : ℕ) (stack : List (List Bit)) (a : Arg ℕ) → IsProgram program → pops ≤ length stack → IsArg program pops a → is_text a ≡ false → is_scope_arg program a ≡ false → is_misfit stack a ≡ false
    → is_value (map entry_of program.items) (take pops stack) a ≡ true
value-arg program pops stack (arg.Text bytes) linked few is text scope fits = absurd (let none : ⊥ = cc in none)
value-arg program pops stack (arg.Based value signed) linked few is text scope fits = refl
value-arg program pops stack arg.Time linked few is text scope fits = refl
value-arg program pops stack arg.ShortTime linked few is text scope fits = refl
value-arg program pops stack arg.SimTime linked few is text scope fits = refl
value-arg program pops stack (arg.Symbol item) linked few is text scope fits =
    holds-such program.items item (value-or-scope program.items item (is.0 (item, takes.SignalOrScope) refl) scope)
value-arg program pops stack (arg.Stack place width signed) linked few is text scope fits =
    let below : place < pops = is.1.0 in
    let kept : length (take pops stack) ≡ pops = length-take-le pops stack few in
    let wide : length (slice_index_or stack place []) ≡ width = fits-width stack place width (slice_get stack place) refl (omega (arith, below, few)) (not-true (has_width (slice_get stack place) width) fits) in
    both (nat_lt place (length (take pops stack))) (eqb (length (slice_index_or (take pops stack) place [])) width)
    (lt-true place (length (take pops stack)) (omega (arith, below, kept)))
    (eq-true (length (slice_index_or (take pops stack) place [])) width (ap length (get_or-take pops stack place [] below) ∙ wide))
value-arg program pops stack (arg.Word array index) linked few is text scope fits =
    let a = array-at program array linked (is.0 (array, takes.Array) refl) in
    let counts : is_array (kind_of (map entry_of program.items) array) ≡ true =
    ap is_array (entry-kind program.items array a.item a.there ∙ ap (entry_kind a.item) a.what) ∙ lt-true 0 a.count a.some in
    let wide : is_width (width_of (map entry_of program.items) array) ≡ true = ap is_width (entry-width program.items array a.item a.there) ∙ wide-true a.item.width a.sound.range.in_range in
    both (is_array (kind_of (map entry_of program.items) array)) (is_width (width_of (map entry_of program.items) array)) counts wide
value-arg program pops stack (arg.Part item base width) linked few is text scope fits =
    both (holds_value (kind_of (map entry_of program.items) item)) (is_width width) (holds-such program.items item (is.0 (item, takes.Signal) refl)) (wide-true width is.1)

shown-arg : (program : Program) (pops : ℕ) (stack : List (List Bit)) (a : Arg ℕ) → IsProgram program → pops ≤ length stack → IsArg program pops a → is_scope_arg program a ≡ false → is_misfit stack a ≡ false
    → is_shown (map entry_of program.items) (take pops stack) a ≡ true
shown-arg program pops stack (arg.Text bytes) linked few is scope fits = refl
shown-arg program pops stack (arg.Based value signed) linked few is scope fits = refl
shown-arg program pops stack arg.Time linked few is scope fits = refl
shown-arg program pops stack arg.ShortTime linked few is scope fits = refl
shown-arg program pops stack arg.SimTime linked few is scope fits = refl
shown-arg program pops stack (arg.Symbol item) linked few is scope fits = value-arg program pops stack (arg.Symbol item) linked few is refl scope fits
shown-arg program pops stack (arg.Stack place width signed) linked few is scope fits = value-arg program pops stack (arg.Stack place width signed) linked few is refl scope fits
shown-arg program pops stack (arg.Word array index) linked few is scope fits = value-arg program pops stack (arg.Word array index) linked few is refl scope fits
shown-arg program pops stack (arg.Part item base width) linked few is scope fits = value-arg program pops stack (arg.Part item base width) linked few is refl scope fits

any-parts : (p : Arg ℕ → Bool) (a : Arg ℕ) (args : List (Arg ℕ)) → list_any p (a ∷ args) ≡ false → (p a ≡ false) × (list_any p args ≡ false)
any-parts p a args none = go (p a) refl where
  go : (b : Bool) → p a ≡ b → (p a ≡ false) × (list_any p args ≡ false)
  go true is = absurd (let h = rw is at none in (let no : ⊥ = cc in no))
  go false is = (is, rw is at none)

shown-args : (program : Program) (pops : ℕ) (stack : List (List Bit)) (args : List (Arg ℕ)) → IsProgram program → pops ≤ length stack → All (IsArg program pops) args → list_any (is_scope_arg program) args ≡ false → list_any (is_misfit stack) args ≡ false
    → list_all (is_shown (map entry_of program.items) (take pops stack)) args ≡ true
shown-args program pops stack [] linked few each scopes fits = refl
shown-args program pops stack (a ∷ args) linked few each scopes fits =
    let s = any-parts (is_scope_arg program) a args scopes in
    let f = any-parts (is_misfit stack) a args fits in
    both (is_shown (map entry_of program.items) (take pops stack) a) (list_all (is_shown (map entry_of program.items) (take pops stack)) args)
    (shown-arg program pops stack a linked few (All-head (IsArg program pops) a args each) s.0 f.0)
    (shown-args program pops stack args linked few (All-tail (IsArg program pops) a args each) s.1 f.1)

-- ---- names

-- what holds of each row of a table holds of a name that is called so
named-in : (P : List ℕ → Call → Type 0) (row : Row) (rows : List Row) (name : List ℕ) (how : Call) → P row.0 row.1 → (call_named rows name ≡ Some how → P name how) → call_named (row ∷ rows) name ≡ Some how → P name how
named-in P row rows name how here later found = go (bytes_eq row.0 name) refl found
  where
    go : (b : Bool) → bytes_eq row.0 name ≡ b → cond b (Some row.1) (call_named rows name) ≡ Some how → P name how
    go true is e =
        let same : row.0 ≡ name = (bytes_eq-Decides row.0 name).0 is in
        let called : row.1 ≡ how = cc in
        subst (λ (n : List ℕ). P n how) same (subst (λ (c : Call). P row.0 c) called here)
    go false is e = later e

-- the tables from a row on
abbrev tasks_from_13 : List Row
tasks_from_13 = (codes "$dumpflush", call.Bare) ∷ []

abbrev tasks_from_12 : List Row
tasks_from_12 = (codes "$dumpall", call.Bare) ∷ tasks_from_13

abbrev tasks_from_11 : List Row
tasks_from_11 = (codes "$dumpon", call.Bare) ∷ tasks_from_12

abbrev tasks_from_10 : List Row
tasks_from_10 = (codes "$dumpoff", call.Bare) ∷ tasks_from_11

abbrev tasks_from_9 : List Row
tasks_from_9 = (codes "$dumpvars", call.DumpVars) ∷ tasks_from_10

abbrev tasks_from_8 : List Row
tasks_from_8 = (codes "$dumpfile", call.DumpFile) ∷ tasks_from_9

abbrev tasks_from_7 : List Row
tasks_from_7 = (codes "$stop", call.Ending) ∷ tasks_from_8

abbrev tasks_from_6 : List Row
tasks_from_6 = (codes "$finish", call.Ending) ∷ tasks_from_7

abbrev tasks_from_5 : List Row
tasks_from_5 = (codes "$monitoron", call.Bare) ∷ tasks_from_6

abbrev tasks_from_4 : List Row
tasks_from_4 = (codes "$monitoroff", call.Bare) ∷ tasks_from_5

abbrev tasks_from_3 : List Row
tasks_from_3 = (codes "$monitor", call.Print) ∷ tasks_from_4

abbrev tasks_from_2 : List Row
tasks_from_2 = (codes "$strobe", call.Print) ∷ tasks_from_3

abbrev tasks_from_1 : List Row
tasks_from_1 = (codes "$write", call.Print) ∷ tasks_from_2

abbrev functions_from_3 : List Row
functions_from_3 = (codes "$clog2", call.CeilingLog) ∷ []

abbrev functions_from_2 : List Row
functions_from_2 = (codes "$simtime", call.Time) ∷ functions_from_3

abbrev functions_from_1 : List Row
functions_from_1 = (codes "$stime", call.ShortTime) ∷ functions_from_2

-- ---- tasks

module _ (program : Program) (pops : ℕ) (stack : List (List Bit)) (linked : IsProgram program) (few : pops ≤ length stack) where
  -- the tasks take what a call of this name has
  abbrev Takes : List (Arg ℕ) → List ℕ → Call → Type 0
  Takes args name how = takes_args program how args ≡ true → option_map_or (λ (t : Task). takes_by t (map entry_of program.items) (take pops stack) args) (task_of name) false ≡ true

  not-any : (args : List (Arg ℕ)) → not (list_any (is_scope_arg program) args) ≡ true → list_any (is_scope_arg program) args ≡ false
  not-any args e = go (list_any (is_scope_arg program) args) e where
    go : (b : Bool) → not b ≡ true → b ≡ false
    go true none = sym none
    go false none = refl

  none-named : (args : List (Arg ℕ)) (name : List ℕ) (how : Call) → call_named [] name ≡ Some how → Takes args name how
  none-named args name how e = absurd (let none : ⊥ = cc in none)

  module _ (args : List (Arg ℕ)) (each : All (IsArg program pops) args) (fits : list_any (is_misfit stack) args ≡ false) where
    prints : not (list_any (is_scope_arg program) args) ≡ true → list_all (is_shown (map entry_of program.items) (take pops stack)) args ≡ true
    prints ok = shown-args program pops stack args linked few each (not-any args ok) fits

    task-takes : (name : List ℕ) (how : Call) → call_named tasks name ≡ Some how → Takes args name how
    unfolding tasks task_of
    task-takes name how =
        named-in (Takes args) (codes "$display", call.Print) tasks_from_1 name how prints (
        named-in (Takes args) (codes "$write", call.Print) tasks_from_2 name how prints (
        named-in (Takes args) (codes "$strobe", call.Print) tasks_from_3 name how prints (
        named-in (Takes args) (codes "$monitor", call.Print) tasks_from_4 name how prints (
        named-in (Takes args) (codes "$monitoroff", call.Bare) tasks_from_5 name how (λ ok. refl) (
        named-in (Takes args) (codes "$monitoron", call.Bare) tasks_from_6 name how (λ ok. refl) (
        named-in (Takes args) (codes "$finish", call.Ending) tasks_from_7 name how (λ ok. refl) (
        named-in (Takes args) (codes "$stop", call.Ending) tasks_from_8 name how (λ ok. refl) (
        named-in (Takes args) (codes "$dumpfile", call.DumpFile) tasks_from_9 name how (λ ok. refl) (
        named-in (Takes args) (codes "$dumpvars", call.DumpVars) tasks_from_10 name how (λ ok. refl) (
        named-in (Takes args) (codes "$dumpoff", call.Bare) tasks_from_11 name how (λ ok. refl) (
        named-in (Takes args) (codes "$dumpon", call.Bare) tasks_from_12 name how (λ ok. refl) (
        named-in (Takes args) (codes "$dumpall", call.Bare) tasks_from_13 name how (λ ok. refl) (
        named-in (Takes args) (codes "$dumpflush", call.Bare) [] name how (λ ok. refl)
        (none-named args name how))))))))))))))

  -- ---- functions

  abbrev Answers : List (Arg ℕ) → List ℕ → Call → Type 0
  Answers args name how = takes_args program how args ≡ true → option_map_or (λ (f : Function). function_takes f (map entry_of program.items) (take pops stack) args) (function_of name) false ≡ true

  none-answers : (args : List (Arg ℕ)) (name : List ℕ) (how : Call) → call_named [] name ≡ Some how → Answers args name how
  none-answers args name how e = absurd (let none : ⊥ = cc in none)

  bare-time : (args : List (Arg ℕ)) → Answers args (codes "$time") call.Time
  unfolding function_of
  bare-time [] ok = refl
  bare-time (a ∷ args) ok = absurd (let none : ⊥ = cc in none)

  bare-stime : (args : List (Arg ℕ)) → Answers args (codes "$stime") call.ShortTime
  unfolding function_of
  bare-stime [] ok = refl
  bare-stime (a ∷ args) ok = absurd (let none : ⊥ = cc in none)

  bare-simtime : (args : List (Arg ℕ)) → Answers args (codes "$simtime") call.Time
  unfolding function_of
  bare-simtime [] ok = refl
  bare-simtime (a ∷ args) ok = absurd (let none : ⊥ = cc in none)

  not-both : (a b : Bool) → not a && not b ≡ true → (a ≡ false) × (b ≡ false)
  not-both true b e = absurd (let none : ⊥ = cc in none)
  not-both false true e = absurd (let none : ⊥ = cc in none)
  not-both false false e = (refl, refl)

  logarithm : (args : List (Arg ℕ)) → All (IsArg program pops) args → list_any (is_misfit stack) args ≡ false → Answers args (codes "$clog2") call.CeilingLog
  unfolding function_of
  logarithm [] each fits ok = absurd (let none : ⊥ = cc in none)
  logarithm (a ∷ []) each fits ok =
      let value = not-both (is_text a) (is_scope_arg program a) ok in
      value-arg program pops stack a linked few (All-head (IsArg program pops) a [] each) value.0 value.1 (any-parts (is_misfit stack) a [] fits).0
  logarithm (a ∷ b ∷ args) each fits ok = absurd (let none : ⊥ = cc in none)

  function-takes : (args : List (Arg ℕ)) → All (IsArg program pops) args → list_any (is_misfit stack) args ≡ false → (name : List ℕ) (how : Call) → call_named functions name ≡ Some how → Answers args name how
  unfolding functions
  function-takes args each fits name how =
      named-in (Answers args) (codes "$time", call.Time) functions_from_1 name how (bare-time args) (
      named-in (Answers args) (codes "$stime", call.ShortTime) functions_from_2 name how (bare-stime args) (
      named-in (Answers args) (codes "$simtime", call.Time) functions_from_3 name how (bare-simtime args) (
      named-in (Answers args) (codes "$clog2", call.CeilingLog) [] name how (logarithm args each fits)
      (none-answers args name how))))

-- ---- whole calls

-- the entries of a design that is the program's
entries-of : (program : Program) (design : Design) → design ≡ design_of program → design.entries ≡ map entry_of program.items
entries-of program design is = ap (λ (d : Design). d.entries) is ∙ entries-are program

scopes-of : (program : Program) (design : Design) → design ≡ design_of program → design.scopes ≡ program.scopes
scopes-of program design is = ap (λ (d : Design). d.scopes) is ∙ scopes-are program

pub task-call : (program : Program) (design : Design) (scope : ℕ) (stack : List (List Bit)) (file line : ℕ) (name : List ℕ) (args : List (Arg ℕ)) (pops : ℕ) → IsProgram program → design ≡ design_of program → scope < length program.scopes
    → pops ≤ length stack → list_any (is_misfit stack) args ≡ false → IsTaskCall program name args pops → IsTrue (is_task_call design scope (take pops stack) (o.CallTask file line name args pops))
unfolding is_task_call
task-call program design scope stack file line name args pops linked is within few fits call =
    let taken = task-takes program pops stack linked few args call.each_arg fits name call.how call.named call.taken in
    both (nat_lt scope (length design.scopes)) (eqb (length (take pops stack)) pops && option_map_or (λ (t : Task). takes_by t design.entries (take pops stack) args) (task_of name) false)
    (lt-true scope (length design.scopes) (subst (λ (n : ℕ). scope < n) (sym (ap length (scopes-of program design is))) within))
    (both (eqb (length (take pops stack)) pops) (option_map_or (λ (t : Task). takes_by t design.entries (take pops stack) args) (task_of name) false)
    (eq-true (length (take pops stack)) pops (length-take-le pops stack few))
    (ap (λ (es : List Entry). option_map_or (λ (t : Task). takes_by t es (take pops stack) args) (task_of name) false) (entries-of program design is) ∙ taken))

pub function-call : (program : Program) (design : Design) (scope : ℕ) (stack : List (List Bit)) (file line : ℕ) (name : List ℕ) (width : ℕ) (args : List (Arg ℕ)) (pops : ℕ) → IsProgram program → design ≡ design_of program → scope < length program.scopes
    → pops ≤ length stack → list_any (is_misfit stack) args ≡ false → IsFunctionCall program name width args pops → IsTrue (is_function_call design scope (take pops stack) (o.CallFunction file line name width args pops))
unfolding is_function_call
function-call program design scope stack file line name width args pops linked is within few fits call =
    let taken = function-takes program pops stack linked few args call.each_arg fits name call.how call.named call.taken in
    both (nat_lt scope (length design.scopes)) (eqb (length (take pops stack)) pops && option_map_or (λ (f : Function). function_takes f design.entries (take pops stack) args) (function_of name) false)
    (lt-true scope (length design.scopes) (subst (λ (n : ℕ). scope < n) (sym (ap length (scopes-of program design is))) within))
    (both (eqb (length (take pops stack)) pops) (option_map_or (λ (f : Function). function_takes f design.entries (take pops stack) args) (function_of name) false)
    (eq-true (length (take pops stack)) pops (length-take-le pops stack few))
    (ap (λ (es : List Entry). option_map_or (λ (f : Function). function_takes f es (take pops stack) args) (function_of name) false) (entries-of program design is) ∙ taken))
