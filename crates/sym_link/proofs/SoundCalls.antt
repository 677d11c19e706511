-- The calls of tasks and functions of the program, and its releases.
use Rattle.std.proofs.Common.{◌≡◌, ℕ, zero, suc, ◌+◌, ◌≤◌, Bool, true, false, not, ◌&&◌, ◌||◌, List, [], ◌∷◌, map, get_or, slice_get, Option, None, Some, is_some, refl, sym, ap, subst, ◌∙◌}
use Rattle.std.proofs.lemmas.Bool.{and_parts, eqb-true, leb-false, not-false, or_parts}
use Rattle.std.proofs.lemmas.List.Elements.{All-map}
use Rattle.std.proofs.lemmas.Option.{slice_get-get_or}
use Rattle.std.specs.Prelude.{All, nat_eq}
use Rattle.std.specs.List.{list_all, list_any}
use Rattle.std.specs.Option.{ForSome, option_map, option_map_or}
use Rattle.vvp_lex.specs.declared.types.Name.{Name}
use Rattle.vvp_ops.specs.declared.args.Arg.{Arg}
use Rattle.vvp_ops.specs.declared.args.Arg.TheVariants as arg
use Rattle.vvp_ops.specs.declared.op.Op.{Op}
use Rattle.vvp_ops.specs.declared.op.Op.TheVariants as op
use Rattle.sym_link.specs.declared.placed.Placed.{Placed}
use Rattle.sym_link.specs.declared.program.ItemKind.{ItemKind}
use Rattle.sym_link.specs.declared.program.ItemKind.TheVariants as kind
use Rattle.sym_link.specs.declared.sorts.Sort.{Sort}
use Rattle.sym_link.specs.declared.sorts.Sort.TheVariants as sort
use Rattle.sym_link.specs.declared.sorts.Takes.{Takes}
use Rattle.sym_link.specs.declared.sorts.Takes.TheVariants as takes
use Rattle.sym_link.specs.declared.tasks.Call.{Call}
use Rattle.sym_link.specs.declared.tasks.Call.TheVariants as call
use Rattle.sym_link.specs.Bound.{bound_arg, bound_op}
use Rattle.sym_link.specs.Meaning.{items_of}
use Rattle.sym_link.specs.Operands.{width_fails}
use Rattle.sym_link.specs.Places.{sort_at, symbol_item, symbol_sort}
use Rattle.sym_link.specs.Sorts.{sort_of}
use Rattle.sym_link.specs.Sound.{ArgWidth, IsArg, IsCall, IsFunctionCall, IsNamed, IsTaskCall, answer_width, dumped_args, is_dumped_arg, is_dumped_kind, is_known_arg, is_scope_kind, is_such, is_value_arg, no_args, one_arg, takes_args, width_of}
use Rattle.sym_link.specs.Sound.{is_scope_arg as is_scope_number}
use Rattle.sym_link.specs.Sound.{is_text as is_text_arg}
use Rattle.sym_link.specs.Tasks.{are_dumped, call_named, function_takes, functions, is_dumped, is_dumped_sort, is_known, is_none, is_one_text, is_one_value, is_outside, is_scope_arg, is_scope_sort, is_text, is_value, task_takes, tasks}
use Rattle.sym_link.specs.Uses.{arg_symbol, args_of}
use Rattle.sym_link.proofs.SoundKinds.{kind_sort}
use Rattle.sym_link.proofs.SoundNamed.{ItemOf, item-of, meant, such-at}
use Rattle.sym_link.proofs.SoundOps.{args-wide, bound_symbol, symbol-named, width-range}
use Rattle.sym_link.proofs.SoundRules.{KeepsOperands}
use Rattle.sym_link.proofs.SoundSymbols.{Declared, OpDeclares, SymbolDeclared}

-- Symbols of arguments

sort-found : (file : List ℕ) (all : List Placed) (place : ℕ) (symbol : Name) (kind : Takes) → (d : Declared file all place symbol kind) → symbol_sort file all symbol ≡ Some (sort_of d.from.what)
sort-found file all place symbol kind d =
    ap (option_map (sort_at all)) d.found ∙ ap Some (ap (λ o. option_map_or (λ (s : Placed). sort_of s.what) o sort.Nothing) d.there)

such-symbol : (file : List ℕ) (all : List Placed) (place : ℕ) (symbol : Name) (test : ItemKind → Bool) (test' : Option Sort → Bool) → ((k : ItemKind) → test k ≡ test' (Some (kind_sort k))) → Declared file all place symbol takes.SignalOrScope → is_such test (items_of file all) (symbol_item file all symbol) ≡ test' (symbol_sort file all symbol)
such-symbol file all place symbol test test' same d =
    let found : ItemOf file all takes.SignalOrScope symbol d.first d.from = item-of file all place symbol takes.SignalOrScope refl d in
    such-at test (items_of file all) (symbol_item file all symbol) found.declared.item found.at
    ∙ same found.declared.item.what ∙ ap (λ x. test' (Some x)) found.sorted ∙ ap test' (sym (sort-found file all place symbol takes.SignalOrScope d))

scope-same : (k : ItemKind) → is_scope_kind k ≡ is_scope_sort (Some (kind_sort k))
scope-same (kind.Var integer) = refl
scope-same (kind.Net root) = refl
scope-same (kind.Functor is drive ports) = refl
scope-same (kind.Edge edge ports) = refl
scope-same kind.Named = refl
scope-same (kind.AnyOf events) = refl
scope-same (kind.Array words) = refl
scope-same (kind.Scope number) = refl
scope-same kind.Param = refl
scope-same (kind.Delay rise fall decay port) = refl

dumped-same : (k : ItemKind) → is_dumped_kind k ≡ is_dumped_sort (Some (kind_sort k))
dumped-same (kind.Var integer) = refl
dumped-same (kind.Net root) = refl
dumped-same (kind.Functor is drive ports) = refl
dumped-same (kind.Edge edge ports) = refl
dumped-same kind.Named = refl
dumped-same (kind.AnyOf events) = refl
dumped-same (kind.Array words) = refl
dumped-same (kind.Scope number) = refl
dumped-same kind.Param = refl
dumped-same (kind.Delay rise fall decay port) = refl

-- an argument whose symbol is declared
abbrev ArgDeclared : List ℕ → List Placed → ℕ → Arg Name → Type 0
ArgDeclared file all place a = ForSome (arg_symbol a) (SymbolDeclared file all place)

module _ (file : List ℕ) (all : List Placed) (place : ℕ) where
  same-scope : (a : Arg Name) → ArgDeclared file all place a → is_scope_number (meant file all) (bound_arg file all a) ≡ is_scope_arg file all a
  same-scope (arg.Text text) d = refl
  same-scope (arg.Based value signed) d = refl
  same-scope (arg.Symbol symbol) d = such-symbol file all place symbol is_scope_kind is_scope_sort scope-same (d (symbol, takes.SignalOrScope) refl)
  same-scope arg.Time d = refl
  same-scope arg.ShortTime d = refl
  same-scope arg.SimTime d = refl
  same-scope (arg.Stack place' width signed) d = refl
  same-scope (arg.Word array index) d = refl
  same-scope (arg.Part item base width) d = refl

  same-dumped : (a : Arg Name) → ArgDeclared file all place a → is_dumped_arg (meant file all) (bound_arg file all a) ≡ is_dumped file all a
  same-dumped (arg.Text text) d = refl
  same-dumped (arg.Based value signed) d = refl
  same-dumped (arg.Symbol symbol) d = such-symbol file all place symbol is_dumped_kind is_dumped_sort dumped-same (d (symbol, takes.SignalOrScope) refl)
  same-dumped arg.Time d = refl
  same-dumped arg.ShortTime d = refl
  same-dumped arg.SimTime d = refl
  same-dumped (arg.Stack place' width signed) d = refl
  same-dumped (arg.Word array index) d = refl
  same-dumped (arg.Part item base width) d = refl

  same-text : (a : Arg Name) → is_text_arg (bound_arg file all a) ≡ is_text a
  same-text (arg.Text text) = refl
  same-text (arg.Based value signed) = refl
  same-text (arg.Symbol symbol) = refl
  same-text arg.Time = refl
  same-text arg.ShortTime = refl
  same-text arg.SimTime = refl
  same-text (arg.Stack place' width signed) = refl
  same-text (arg.Word array index) = refl
  same-text (arg.Part item base width) = refl

  same-known : (a : Arg Name) → is_known_arg (bound_arg file all a) ≡ is_known a
  same-known (arg.Text text) = refl
  same-known (arg.Based value signed) = refl
  same-known (arg.Symbol symbol) = refl
  same-known arg.Time = refl
  same-known arg.ShortTime = refl
  same-known arg.SimTime = refl
  same-known (arg.Stack place' width signed) = refl
  same-known (arg.Word array index) = refl
  same-known (arg.Part item base width) = refl

  same-value : (a : Arg Name) → ArgDeclared file all place a → is_value_arg (meant file all) (bound_arg file all a) ≡ is_value file all a
  same-value a d =
      ap (λ b. not b && not (is_scope_number (meant file all) (bound_arg file all a))) (same-text a) ∙ ap (λ b. not (is_text a) && not b) (same-scope a d)

  -- the arguments' symbols are declared
  abbrev AllDeclared : List (Arg Name) → Type 0
  AllDeclared args = (k : ℕ) (a : Arg Name) → slice_get args k ≡ Some a → ArgDeclared file all place a

  any-scope : (args : List (Arg Name)) → AllDeclared args → list_any (is_scope_number (meant file all)) (map (bound_arg file all) args) ≡ list_any (is_scope_arg file all) args
  any-scope [] d = refl
  any-scope (a ∷ args) d =
      ap (λ b. b || list_any (is_scope_number (meant file all)) (map (bound_arg file all) args)) (same-scope a (d 0 a refl))
      ∙ ap (λ b. is_scope_arg file all a || b) (any-scope args (λ k. d (suc k)))

  all-dumped : (args : List (Arg Name)) → AllDeclared args → list_all (is_dumped_arg (meant file all)) (map (bound_arg file all) args) ≡ list_all (is_dumped file all) args
  all-dumped [] d = refl
  all-dumped (a ∷ args) d =
      ap (λ b. b && list_all (is_dumped_arg (meant file all)) (map (bound_arg file all) args)) (same-dumped a (d 0 a refl))
      ∙ ap (λ b. is_dumped file all a && b) (all-dumped args (λ k. d (suc k)))

  none-same : (args : List (Arg Name)) → no_args (map (bound_arg file all) args) ≡ is_none args
  none-same [] = refl
  none-same (a ∷ args) = refl

  one-value : (args : List (Arg Name)) → AllDeclared args → one_arg (is_value_arg (meant file all)) (map (bound_arg file all) args) ≡ is_one_value file all args
  one-value [] d = refl
  one-value (a ∷ []) d = same-value a (d 0 a refl)
  one-value (a ∷ b ∷ args) d = refl

  one-text : (args : List (Arg Name)) → one_arg is_text_arg (map (bound_arg file all) args) ≡ is_one_text args
  one-text [] = refl
  one-text (a ∷ []) = same-text a
  one-text (a ∷ b ∷ args) = refl

  args-dumped : (args : List (Arg Name)) → AllDeclared args → dumped_args (meant file all) (map (bound_arg file all) args) ≡ are_dumped file all args
  args-dumped [] d = refl
  args-dumped (a ∷ args) d =
      ap (λ b. b && list_all (is_dumped_arg (meant file all)) (map (bound_arg file all) args)) (same-known a)
      ∙ ap (λ b. is_known a && b) (all-dumped args (λ k. d (suc k)))

  task-taken : (how : Call) (args : List (Arg Name)) → AllDeclared args → task_takes file all how args ≡ true → takes_args (meant file all) how (map (bound_arg file all) args) ≡ true
  unfolding task_takes
  task-taken call.Print args d is = ap not (any-scope args d) ∙ is
  task-taken call.Bare args d is = none-same args ∙ is
  task-taken call.Ending args d is = ap (λ b. b || one_arg (is_value_arg (meant file all)) (map (bound_arg file all) args)) (none-same args) ∙ ap (λ b. is_none args || b) (one-value args d) ∙ is
  task-taken call.DumpFile args d is = one-text args ∙ is
  task-taken call.DumpVars args d is = args-dumped args d ∙ is
  task-taken call.Time args d is = absurd (cc)
  task-taken call.ShortTime args d is = absurd (cc)
  task-taken call.CeilingLog args d is = absurd (cc)

  function-taken : (how : Call) (args : List (Arg Name)) (width : ℕ) → AllDeclared args → function_takes file all how args width ≡ true → (takes_args (meant file all) how (map (bound_arg file all) args) ≡ true) × (width ≡ answer_width how)
  unfolding function_takes
  function-taken call.Print args width d is = absurd (cc)
  function-taken call.Bare args width d is = absurd (cc)
  function-taken call.Ending args width d is = absurd (cc)
  function-taken call.DumpFile args width d is = absurd (cc)
  function-taken call.DumpVars args width d is = absurd (cc)
  function-taken call.Time args width d is = let parts = and_parts (is_none args) (nat_eq width 64) is in (none-same args ∙ parts.0, eqb-true width 64 parts.1)
  function-taken call.ShortTime args width d is = let parts = and_parts (is_none args) (nat_eq width 32) is in (none-same args ∙ parts.0, eqb-true width 32 parts.1)
  function-taken call.CeilingLog args width d is = let parts = and_parts (is_one_value file all args) (nat_eq width 32) is in (one-value args d ∙ parts.0, eqb-true width 32 parts.1)

  -- Each argument

  arg-width : (pops : ℕ) (a : Arg Name) → width_fails a ≡ false → is_outside pops a ≡ false → ArgWidth pops (bound_arg file all a)
  arg-width pops (arg.Text text) wide inside = tt
  arg-width pops (arg.Based value signed) wide inside = tt
  arg-width pops (arg.Symbol symbol) wide inside = tt
  arg-width pops arg.Time wide inside = tt
  arg-width pops arg.ShortTime wide inside = tt
  arg-width pops arg.SimTime wide inside = tt
  arg-width pops (arg.Stack place' width signed) wide inside = (leb-false pops place' inside, width-range width wide)
  arg-width pops (arg.Word array index) wide inside = tt
  arg-width pops (arg.Part item base width) wide inside = width-range width wide

  arg-symbols : (a : Arg Name) → arg_symbol (bound_arg file all a) ≡ option_map (bound_symbol file all) (arg_symbol a)
  arg-symbols (arg.Text text) = refl
  arg-symbols (arg.Based value signed) = refl
  arg-symbols (arg.Symbol symbol) = refl
  arg-symbols arg.Time = refl
  arg-symbols arg.ShortTime = refl
  arg-symbols arg.SimTime = refl
  arg-symbols (arg.Stack place' width signed) = refl
  arg-symbols (arg.Word array index) = refl
  arg-symbols (arg.Part item base width) = refl

  is-arg : (pops : ℕ) (a : Arg Name) → ArgDeclared file all place a → width_fails a ≡ false → is_outside pops a ≡ false → IsArg (meant file all) pops (bound_arg file all a)
  is-arg pops a d wide inside =
      (subst (λ o. ForSome o (IsNamed (meant file all))) (sym (arg-symbols a)) (symbol-named file all place (arg_symbol a) d), arg-width pops a wide inside)

  any-at : {X : Type 0} (p : X → Bool) (xs : List X) (k : ℕ) (x : X) → list_any p xs ≡ false → slice_get xs k ≡ Some x → p x ≡ false
  any-at p [] k x none there = absurd (cc)
  any-at p (y ∷ xs) zero x none there = let same : y ≡ x = cc in ap p (sym same) ∙ (or_parts (p y) (list_any p xs) none).0
  any-at p (y ∷ xs) (suc k) x none there = any-at p xs k x (or_parts (p y) (list_any p xs) none).1 there

  each-arg : (pops : ℕ) (args : List (Arg Name)) → AllDeclared args → list_any width_fails args ≡ false → list_any (is_outside pops) args ≡ false → All (IsArg (meant file all) pops) (map (bound_arg file all) args)
  each-arg pops args d wide inside =
      All-map (IsArg (meant file all) pops) (bound_arg file all) args
      (λ k (e : Arg Name) lt.
      let there : slice_get args k ≡ Some (get_or args k e) = slice_get-get_or args k e lt in
      is-arg pops (get_or args k e) (d k (get_or args k e) there) (any-at width_fails args k (get_or args k e) wide there) (any-at (is_outside pops) args k (get_or args k e) inside there))

  -- Calls

  call-of : (o : Option Call) → not (is_some o) ≡ false → (how : Call) × (o ≡ Some how)
  call-of None is = absurd (cc)
  call-of (Some how) is = (how, refl)

  task-call : (name : List ℕ) (args : List (Arg Name)) (pops : ℕ) → AllDeclared args → list_any width_fails args ≡ false → not (is_some (call_named tasks name)) ≡ false → (not (option_map_or (λ how. task_takes file all how args) (call_named tasks name) false) || list_any (is_outside pops) args) ≡ false → IsTaskCall (meant file all) name (map (bound_arg file all) args) pops
  task-call name args pops d wide known taken =
      let found = call-of (call_named tasks name) known in
      let parts = or_parts (not (option_map_or (λ how. task_takes file all how args) (call_named tasks name) false)) (list_any (is_outside pops) args) taken in
      let takes : task_takes file all found.0 args ≡ true = sym (ap (λ o. option_map_or (λ how. task_takes file all how args) o false) found.1) ∙ not-false (option_map_or (λ how. task_takes file all how args) (call_named tasks name) false) parts.0 in
      record { how = found.0; named = found.1; taken = task-taken found.0 args d takes; each_arg = each-arg pops args d wide parts.1 }

  function-call : (name : List ℕ) (width : ℕ) (args : List (Arg Name)) (pops : ℕ) → AllDeclared args → list_any width_fails args ≡ false → not (is_some (call_named functions name)) ≡ false → (not (option_map_or (λ how. function_takes file all how args width) (call_named functions name) false) || list_any (is_outside pops) args) ≡ false → IsFunctionCall (meant file all) name width (map (bound_arg file all) args) pops
  function-call name width args pops d wide known taken =
      let found = call-of (call_named functions name) known in
      let parts = or_parts (not (option_map_or (λ how. function_takes file all how args width) (call_named functions name) false)) (list_any (is_outside pops) args) taken in
      let takes : function_takes file all found.0 args width ≡ true = sym (ap (λ o. option_map_or (λ how. function_takes file all how args width) o false) found.1) ∙ not-false (option_map_or (λ how. function_takes file all how args width) (call_named functions name) false) parts.0 in
      let fits = function-taken found.0 args width d takes in
      record { how = found.0; named = found.1; taken = fits.0; answered = fits.1; each_arg = each-arg pops args d wide parts.1 }

  -- what an opcode needs of a release
  abbrev pub ReleaseFits : Op Name → Type 0
  ReleaseFits (op.ReleaseNet item base width) = base + width ≤ width_of (items_of file all) (symbol_item file all item)
  ReleaseFits (op.ReleaseReg item base width) = base + width ≤ width_of (items_of file all) (symbol_item file all item)
  ReleaseFits _ = Unit {0}

  pub is-call : (o : Op Name) → OpDeclares file all place o → KeepsOperands file all o → ReleaseFits o → IsCall (meant file all) (bound_op file all o)
  unfolding bound_op args_of
  is-call op.Nop d keeps release = tt
  is-call (op.PushImmediate low high width) d keeps release = tt
  is-call (op.Load item) d keeps release = tt
  is-call (op.LoadWord array index) d keeps release = tt
  is-call (op.Store item offset width) d keeps release = tt
  is-call (op.StoreWord array index offset) d keeps release = tt
  is-call (op.Assign item delay) d keeps release = tt
  is-call (op.AssignRegister item delay) d keeps release = tt
  is-call (op.AssignOffset item offset delay) d keeps release = tt
  is-call (op.AssignWord array offset delay) d keeps release = tt
  is-call (op.IndexLoad register low high) d keeps release = tt
  is-call (op.IndexGet register item) d keeps release = tt
  is-call (op.IndexGetSigned register item) d keeps release = tt
  is-call (op.IndexPop register) d keeps release = tt
  is-call (op.IndexPopSigned register) d keeps release = tt
  is-call (op.IndexAdd register low high) d keeps release = tt
  is-call (op.IndexSubtract register low high) d keeps release = tt
  is-call (op.IndexMultiply register low high) d keeps release = tt
  is-call (op.IndexMove register source) d keeps release = tt
  is-call (op.FlagPop flag) d keeps release = tt
  is-call (op.FlagImmediate flag value) d keeps release = tt
  is-call (op.FlagPush flag) d keeps release = tt
  is-call (op.FlagMove flag source) d keeps release = tt
  is-call (op.FlagInvert flag) d keeps release = tt
  is-call (op.FlagOr flag source) d keeps release = tt
  is-call (op.Jump target) d keeps release = tt
  is-call (op.JumpIfZero target flag) d keeps release = tt
  is-call (op.JumpIfOne target flag) d keeps release = tt
  is-call (op.JumpUnlessOne target flag) d keeps release = tt
  is-call (op.JumpUnlessZero target flag) d keeps release = tt
  is-call op.CompareUnsigned d keeps release = tt
  is-call op.CompareSigned d keeps release = tt
  is-call op.CompareEqual d keeps release = tt
  is-call op.CompareNotEqual d keeps release = tt
  is-call op.CompareWildZ d keeps release = tt
  is-call op.CompareWildX d keeps release = tt
  is-call (op.CompareUnsignedImmediate low high width) d keeps release = tt
  is-call (op.CompareSignedImmediate low high width) d keeps release = tt
  is-call (op.CompareEqualImmediate low high width) d keeps release = tt
  is-call (op.CompareNotEqualImmediate low high width) d keeps release = tt
  is-call op.Add d keeps release = tt
  is-call op.Subtract d keeps release = tt
  is-call op.Multiply d keeps release = tt
  is-call op.Divide d keeps release = tt
  is-call op.DivideSigned d keeps release = tt
  is-call op.Modulo d keeps release = tt
  is-call op.ModuloSigned d keeps release = tt
  is-call op.Power d keeps release = tt
  is-call (op.AddImmediate low high width) d keeps release = tt
  is-call (op.SubtractImmediate low high width) d keeps release = tt
  is-call (op.MultiplyImmediate low high width) d keeps release = tt
  is-call op.And d keeps release = tt
  is-call op.Or d keeps release = tt
  is-call op.Xor d keeps release = tt
  is-call op.Nand d keeps release = tt
  is-call op.Nor d keeps release = tt
  is-call op.Xnor d keeps release = tt
  is-call op.Invert d keeps release = tt
  is-call op.ReduceAnd d keeps release = tt
  is-call op.ReduceOr d keeps release = tt
  is-call op.ReduceXor d keeps release = tt
  is-call op.ReduceNand d keeps release = tt
  is-call op.ReduceNor d keeps release = tt
  is-call op.ReduceXnor d keeps release = tt
  is-call (op.ShiftLeft register) d keeps release = tt
  is-call (op.ShiftRight register) d keeps release = tt
  is-call (op.ShiftRightSigned register) d keeps release = tt
  is-call op.Concatenate d keeps release = tt
  is-call (op.ConcatenateImmediate low high width) d keeps release = tt
  is-call (op.Replicate count) d keeps release = tt
  is-call (op.PartUnsigned width) d keeps release = tt
  is-call (op.PartSigned width) d keeps release = tt
  is-call (op.PartImmediateUnsigned width base base_width) d keeps release = tt
  is-call (op.PartImmediateSigned width base base_width) d keeps release = tt
  is-call (op.PadUnsigned width) d keeps release = tt
  is-call (op.PadSigned width) d keeps release = tt
  is-call op.Duplicate d keeps release = tt
  is-call (op.Pop count) d keeps release = tt
  is-call (op.Split width) d keeps release = tt
  is-call op.Blend d keeps release = tt
  is-call (op.Delay low high) d keeps release = tt
  is-call (op.DelayRegister register) d keeps release = tt
  is-call (op.Wait event) d keeps release = tt
  is-call (op.Trigger event) d keeps release = tt
  is-call (op.Fork target scope) d keeps release = tt
  is-call op.Join d keeps release = tt
  is-call (op.Disable scope) d keeps release = tt
  is-call op.End d keeps release = tt
  is-call (op.Force item) d keeps release = tt
  is-call (op.ReleaseNet item base width) d keeps release = release
  is-call (op.ReleaseReg item base width) d keeps release = release
  is-call (op.CallTask source line name args pops) d keeps release = task-call name args pops d.args (args-wide file all (op.CallTask source line name args pops) keeps) keeps.named keeps.taken
  is-call (op.CallFunction source line name width args pops) d keeps release = function-call name width args pops d.args (args-wide file all (op.CallFunction source line name width args pops) keeps) keeps.named keeps.taken
